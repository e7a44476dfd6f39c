use Rattle.std.proofs.Common.{◌≡◌, Bool, true, false, not, get_or, take, [], ◌∷◌, Some, ℤ, true≢false, refl, sym, ◌∙◌, subst, arith, w64, SFits, rules}
use Rattle.std.specs.List.{Contains}
use Rattle.std.proofs.lemmas.Int.{to_z-of_z}
use Rattle.std.proofs.lemmas.List.Elements.{Contains-append_left, Contains-append_right}
use Rattle.std.proofs.lemmas.Option.{none-some, same_Some}
use Rattle.sched_book.specs.Near.{NoneNear}
use Rattle.sched_book.proofs.Apart.{text_agrees_with_none, number_agrees_with_none, numbers_join}
use Rattle.sched_book.proofs.FirstAlike.{number_passes}
use Rattle.sched_book.proofs.outputs.Outputs.see.Goals as goal

pub returns-in-None-clause-new : goal.returns-in-None-clause-new
returns-in-None-clause-new c = λ is.
    let a = c.args.agreement.now in
    let text = sym c.requires.value ∙ c.in-None.is in
    text_agrees_with_none a c.args.instances.now (take c.args.index c.args.reports.now) (get_or c.args.reports.now c.args.index 0) text
    (c.see.ensures.new a c.requires.seen.firsts text is)

pub returns-in-None-clause-seen : goal.returns-in-None-clause-seen
returns-in-None-clause-seen c =
    let a = c.args.agreement.now in
    let text = sym c.requires.value ∙ c.in-None.is in
    record {
      firsts = c.see.ensures.seen a c.requires.seen.firsts text;
      few_firsts = c.see.ensures.few;
      numbers = numbers_join a c.args.instances.now c.args.reports.now c.args.index c.args.self.now.numbers.numbers.items c.args.self.now.numbers.numbers.items c.requires.within
          c.requires.seen.numbers c.requires.seen.numbers.rising (λ m there. there) (λ m is. absurd (none-some m (sym text ∙ is)));
      few_numbers = omega (arith, c.requires.seen.few_numbers);
    }

pub returns-in-Some-clause-new : goal.returns-in-Some-clause-new
returns-in-Some-clause-new c = λ is.
    let a = c.args.agreement.now in
    let numbers = c.args.self.now.numbers.numbers.items in
    let fits : SFits w64 c.in-Some.value = search rules in
    let far : NoneNear c.distance_of.result (Some c.in-Some.value) numbers =
    subst (λ m. NoneNear c.distance_of.result (Some m) numbers) (to_z-of_z _ _ fits) (c.see-in-Some.ensures.near (cases c.see-in-Some.result is)) in
    number_agrees_with_none a c.args.instances.now (take c.args.index c.args.reports.now) (get_or c.args.reports.now c.args.index 0) c.in-Some.value numbers
    c.requires.seen.numbers (sym c.requires.value ∙ c.in-Some.is) (subst (λ d. NoneNear d (Some c.in-Some.value) numbers) c.distance_of.ensures far)
  where
    cases : (b : Bool) → not b ≡ true → b ≡ false
    cases true is = absurd (true≢false (sym is))
    cases false is = refl

pub returns-in-Some-clause-seen : goal.returns-in-Some-clause-seen
returns-in-Some-clause-seen c =
    let numbers = c.args.self.now.numbers.numbers.items in
    let number = sym c.requires.value ∙ c.in-Some.is in
    let fits : SFits w64 c.in-Some.value = search rules in
    let held : (m : ℤ) → Contains (c.in-Some.value ∷ numbers) m → Contains c.see-in-Some.new.self.numbers.items m =
    λ m there. c.see-in-Some.ensures.holds m (subst (λ k. Contains (k ∷ numbers) m) (sym (to_z-of_z _ _ fits)) there) in
    record {
      firsts = number_passes c.args.agreement.now c.args.instances.now c.args.reports.now c.args.self.now.firsts.numbers.items c.args.index c.requires.within c.requires.seen.firsts c.in-Some.value number;
      few_firsts = omega (arith, c.requires.seen.few_firsts);
      numbers = numbers_join c.args.agreement.now c.args.instances.now c.args.reports.now c.args.index numbers c.see-in-Some.new.self.numbers.items c.requires.within
          c.requires.seen.numbers c.see-in-Some.ensures.rising (λ m there. held m (Contains-append_right (c.in-Some.value ∷ []) numbers m there))
          (λ m is. held m (Contains-append_left (c.in-Some.value ∷ []) numbers m (0, omega arith, same_Some c.in-Some.value m (sym number ∙ is))));
      few_numbers = omega (arith, c.see-in-Some.ensures.few, c.requires.seen.few_numbers);
    }
