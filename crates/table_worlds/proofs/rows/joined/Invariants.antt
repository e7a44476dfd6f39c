use Rattle.std.proofs.Common.{◌≡◌, ◌++◌, flat_map, codes, drop}
use Rattle.std.specs.String.{string_bytes}
use Rattle.table_meaning.specs.Worlds.{joined}
use Rattle.table_worlds.proofs.rows.joined.Given as goal

-- the text joined so far, with the words that are left
abbrev pub invariant-loop-word : goal.invariant-loop-word
invariant-loop-word l = string_bytes l.text ++ flat_map (λ w. codes "," ++ w) (drop l.word-index l.others) ≡ joined l.words
