use Rattle.std.proofs.Common.{rules}
use Rattle.std.specs.Cmp.Lexicographic.{slice_cmp}
use Rattle.std.specs.Ordering.{nat_cmp}
use Rattle.table_meaning.specs.declared.rows.StoredRow.TheVariants as stored
use Rattle.table_cache.specs.Keys.{with_title, IsFirstUnit}
use Rattle.table_cache.proofs.CreditMoves.{hold_of_none}
use Rattle.table_cache.proofs.KeyMoves.{names_followed, names_still}
use Rattle.table_cache.proofs.keys.follow_unit_name.Goals as goal

pub returns-then-is_past : goal.returns-then-is_past
returns-then-is_past c = λ titles known none are. names_still titles c.args.row.now c.args.last (c.is_past.ensures (search rules)) none c.args.names.now are

pub returns-then-not-keeps_name : goal.returns-then-not-keeps_name
returns-then-not-keeps_name c = λ titles known none are.
    hold_of_none (slice_cmp nat_cmp) (IsFirstUnit (with_title titles (stored.Unit c.args.row.now))) c.forget_all.new.self c.forget_all.ensures

pub returns-else-not-keeps_name : goal.returns-else-not-keeps_name
returns-else-not-keeps_name c = λ titles known none are. names_followed titles c.args.row.now (c.keeps_name.ensures (search rules) titles known) c.args.names.now are
