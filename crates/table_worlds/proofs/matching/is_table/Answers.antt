use Rattle.std.proofs.Common.{◌≡◌, ◌++◌, filter_map, IfOk, ap, subst, ◌∙◌}
use Rattle.std.specs.Bool.{Decides}
use Rattle.table_worlds.specs.Keys.{numbered, other_row}
use Rattle.table_worlds.specs.RowsOf.{having, count_beside}
use Rattle.table_worlds.proofs.matching.is_table.Goals as goal

pub returns : goal.returns
returns c = λ books counted.
    let w = having c.args.world.now books in
    let t = c.args.table in
    let keys : c.as_slice.result.now ≡ numbered t (count_beside w t) =
    c.as_slice.ensures ∙ c.in_ok-push_numbered.ensures ∙ ap (λ ks. ks ++ numbered t c.count_of.result) c.new-keys.ensures ∙ ap (numbered t) (c.count_of.ensures books) in
    subst (λ rows. IfOk c.are_rows_at.result (λ same. Decides same (rows ≡ filter_map (other_row w) (numbered t (count_beside w t))))) c.rows_of.ensures
    (subst (λ ks. IfOk c.are_rows_at.result (λ same. Decides same (c.rows_of.result.now ≡ filter_map (other_row w) ks))) keys (c.are_rows_at.ensures books counted))
