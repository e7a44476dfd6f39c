use Rattle.std.proofs.Common.{◌≡◌, subst}
use Rattle.std.specs.Bool.{Decides}
use Rattle.std.proofs.lemmas.Bool.Decides.{Decides-at}
use Rattle.table_worlds.proofs.SameRows.{instance_same}
use Rattle.table_worlds.proofs.unit_rows.is_row_of.Goals as goal

pub returns : goal.returns
returns c = λ w b told. subst (λ own. Decides c.eq.result (c.args.row.now ≡ own)) (c.in_ok-own.ensures w b told) (Decides-at _ _ c.eq.ensures (instance_same c.args.row.now c.in_ok-own.own))
