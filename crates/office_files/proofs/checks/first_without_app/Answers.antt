-- A desk that read nothing, and all rows left.
use Rattle.std.specs.Prelude.{not}
use Rattle.sched_book.specs.Imports.{has_app}
use Rattle.sched_book.proofs.PlacesOf.{place_where-is}
use Rattle.office_files.proofs.checks.first_without_app.Goals as goal

pub loop-index-init : goal.loop-index-init
loop-index-init g c = record {
  reads = g.met.D.Units.reads_none c.args.desk.now;
  left = λ honest kept. place_where-is (λ x. not (has_app (g.D.Units.world c.args.desk.now).apps (g.R.AppRow.app_of x))) c.args.rows.now;
}
