-- The key of the row was seen, too.
use Rattle.std.proofs.Common.{◌∙◌, ap}
use Rattle.std.specs.Prelude.{◌||◌}
use Rattle.sched_book.specs.Keys.{same_key, lent_key, has_key}
use Rattle.office_files.proofs.checks.is_taken.Goals as goal

pub returns-then-is_known-clause-seen : goal.returns-then-is_known-clause-seen
returns-then-is_known-clause-seen g c = λ other.
    c.in_ok-is_first.ensures.seen (lent_key other) ∙ ap (λ key. same_key other key || has_key c.args.seen.now other) c.key.ensures

pub returns-else-is_known-clause-seen : goal.returns-else-is_known-clause-seen
returns-else-is_known-clause-seen g c = λ other.
    c.in_ok-is_first.ensures.seen (lent_key other) ∙ ap (λ key. same_key other key || has_key c.args.seen.now other) c.key.ensures
