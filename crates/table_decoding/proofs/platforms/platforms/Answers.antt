use Rattle.std.proofs.Common.{ap, lit<, ◌∙◌}
use Rattle.std.specs.Prelude.{◌==◌}
use Rattle.std.specs.List.{slice_split}
use Rattle.std.specs.Str.Iter.{split_text, split_has_more, split_pattern}
use Rattle.std.proofs.lemmas.Iterator.Consumers.{YieldsList-end}
use Rattle.std.proofs.lemmas.Iterator.Splits.{YieldsList-from_str_split}
use Rattle.table_worlds.proofs.JoinedWords.{split_joined}
use Rattle.table_decoding.proofs.platforms.platforms.Goals as goal

pub returns-clause-read : goal.returns-clause-read
returns-clause-read c =
    let same = c.into_iter-word-iterator.ensures.into_iter_gives in
    let split = c.split-word-items.ensures in
    c.loop-word.invariant
    ∙ (YieldsList-end
    (YieldsList-from_str_split 44 c.args.text.now (lit< tt) (ap split_text same ∙ split.text) (ap split_has_more same ∙ split.has_more) (ap split_pattern same ∙ split.pattern))
    c.loop-word.yielded _ c.loop-word.yielded_by _ _ c.in-None.is c.next.ensures.steps).0

pub returns-clause-given : goal.returns-clause-given
returns-clause-given c = λ words are joins. returns-clause-read c ∙ ap (slice_split (λ b. b == 44)) joins ∙ split_joined words are
