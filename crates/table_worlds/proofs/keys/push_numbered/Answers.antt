use Rattle.std.proofs.Common.{◌+◌, ◌++◌, ◌∷◌, [], sym, ap, ◌∙◌, append_assoc, arith}
use Rattle.std.proofs.lemmas.List.FromFn.{map-range_with_len_more}
use Rattle.table_worlds.specs.Keys.{keyed, numbered}
use Rattle.table_worlds.proofs.keys.push_numbered.Goals as goal

pub loop-index-preserved : goal.loop-index-preserved
loop-index-preserved c =
    let i = c.loop-index.index in
    let old = c.args.keys.now in
    c.in_ok-push.ensures.ok
    ∙ ap (λ k. c.loop-index.keys ++ k ∷ []) (c.key.ensures ∙ ap (keyed c.args.table) c.in_ok-number_of.ensures)
    ∙ ap (λ ks. ks ++ keyed c.args.table (i + 1) ∷ []) c.loop-index.invariant
    ∙ append_assoc old (numbered c.args.table i) (keyed c.args.table (i + 1) ∷ [])
    ∙ ap (λ ks. old ++ ks) (sym (map-range_with_len_more (keyed c.args.table) 1 i (i + 1) (omega arith)))
