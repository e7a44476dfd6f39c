use Rattle.std.proofs.Common.{sym, rules}
use Rattle.std.specs.Cmp.Lexicographic.{slice_cmp}
use Rattle.std.specs.Ordering.{nat_cmp}
use Rattle.std.proofs.lemmas.Fn.{always_returns_same}
use Rattle.sched_book.specs.Count.{output_of}
use Rattle.sched_book.proofs.alike.Firsts.search.Goals as goal

pub returns-clause-place : goal.returns-clause-place
returns-clause-place c =
    rw (sym c.as_slice.ensures.value) (c.binary_search_by.ensures.position (λ j. slice_cmp nat_cmp (output_of c.args.instances.now j) c.args.output.now) (always_returns_same _ _ _ (λ a r f k. search rules)))
