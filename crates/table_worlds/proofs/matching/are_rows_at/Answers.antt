use Rattle.std.proofs.Common.{◌≡◌, ◌≢◌, ◌∷◌, ◌+◌, drop, get_or, filter_map, subst}
use Rattle.std.specs.List.{cons_option}
use Rattle.std.proofs.lemmas.List.{drop_more}
use Rattle.std.proofs.lemmas.Option.{MatchOption-at_none}
use Rattle.table_worlds.specs.Keys.{other_row}
use Rattle.table_worlds.specs.RowsOf.{having}
use Rattle.table_worlds.specs.declared.keys.WorldKey.TheVariants.{Account}
use Rattle.table_worlds.proofs.Members.{SameLeft, never, none_after}
use Rattle.table_worlds.proofs.matching.are_rows_at.Goals as goal

pub returns-in-None : goal.returns-in-None
returns-in-None c = λ books counted.
    let rows = c.args.rows.now in
    let keys = c.args.keys.now in
    let left = c.loop-key.left.now in
    let i = c.loop-key.key-index in
    let f = other_row (having c.args.world.now books) in
    let before : SameLeft f rows left keys (get_or keys i (Account 0) ∷ drop (i + 1) keys) =
    subst (SameLeft f rows left keys) (drop_more keys i (Account 0) c.loop-key-test.true) (c.loop-key.invariant books counted) in
    let none = MatchOption-at_none _ _ c.in-None.is c.rest_after-rest.ensures in
    never (rows ≡ filter_map f keys)
    (none_after f rows left keys (drop (i + 1) keys) (get_or keys i (Account 0)) (λ more. subst (λ own. left ≢ cons_option own more) (c.in_ok-row_at.ensures books counted) (none more)) before)
