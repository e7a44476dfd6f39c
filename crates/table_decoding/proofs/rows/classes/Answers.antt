use Rattle.std.proofs.Common.{rules}
use Rattle.table_decoding.specs.Decoding.{of_word}
use Rattle.table_worlds.proofs.ByPlace.{all_nth}
use Rattle.texts.specs.Words.{IsWord}
use Rattle.table_decoding.proofs.rows.classes.Goals as goal

pub returns : goal.returns
returns c = λ words all are.
    c.each.ensures of_word words
    (λ id class told_as stands called. let is_word : IsWord class = all_nth IsWord words id class stands all in search rules)
    are
