-- One more key was seen.
use Rattle.std.proofs.Common.{◌∙◌, sym, ap}
use Rattle.std.specs.BTreeSet.{contains}
use Rattle.std.specs.Ordering.{is_eq}
use Rattle.std.specs.Prelude.{◌||◌}
use Rattle.texts.proofs.SeenKeys.{looked_up, one_more}
use Rattle.texts.proofs.seen_set.SeenSet.is_first.Goals as goal

pub returns-clause-seen : goal.returns-clause-seen
returns-clause-seen g c = λ other.
    let eq = g.K.PartialEq.eq in
    let cmp = g.K.Ord.cmp in
    let same = g.met.K.Ord.matches_eq in
    let key = c.args.key in
    sym (looked_up eq cmp same c.insert.new.self.keys other)
    ∙ c.in_ok-insert.ensures.updates.0 other
    ∙ one_more (is_eq (cmp key other)) (contains cmp c.args.self.now.keys other)
    ∙ ap (λ b. b || contains cmp c.args.self.now.keys other) (sym (same key other) ∙ g.met.K.PartialEq.laws.symm key other)
    ∙ ap (λ b. eq other key || b) (looked_up eq cmp same c.args.self.now.keys.keys other)
