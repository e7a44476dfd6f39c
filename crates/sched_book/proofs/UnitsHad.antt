-- The workunits that a user had: exactly those with an instance that was given to a host of the user, in their order.
use Rattle.std.proofs.Common.{◌≡◌, ℕ, zero, suc, ◌+◌, Bool, true, false, cond, eqb, List, [], ◌∷◌, Option, Some, None, sym, refl, ap, ◌∙◌, subst, arith}
use Rattle.std.specs.Prelude.{◌||◌, slice_get, option_and_then, All, Contains}
use Rattle.std.specs.List.{list_any}
use Rattle.std.proofs.lemmas.Bool.{eqb-true, eq-eqb}
use Rattle.std.proofs.lemmas.List.Elements.{All-nil, All-cons}
use Rattle.std.proofs.lemmas.Map.Keys.{any_passes_from_place}
use Rattle.sched_book.specs.Desk.{units_from, units_of_user}
use Rattle.sched_book.specs.Places.{option_any, nth, user_of, is_of_user, user_had}
use Rattle.sched_book.specs.PlaceLaws.{IsUnitOfUser, UnitsOfUserAreThoseHad}
use Rattle.sched_book.specs.declared.instance.UnitBook.{UnitBook}
use Rattle.sched_book.specs.declared.world.World.{World}
use Rattle.sched_book.proofs.Newest.{front_of, behind}
use Rattle.sched_book.proofs.PlacesOf.{nth-suc}
use Rattle.sched_book.proofs.Rising.{RisesFrom, rises_lower, rises_in_pairs}

-- ---- the places of the workunits that pass a test

module _ (test : UnitBook → Bool) where
  each_unit : (P : ℕ → Type 0) (from : ℕ) (bs : List UnitBook)
      → ((i n : ℕ) (b : UnitBook) → n ≡ from + i → slice_get bs i ≡ Some b → test b ≡ true → P n) → All P (units_from from test bs)
  each_unit P from [] each = All-nil P
  each_unit P from (b ∷ bs) each =
      cases (test b) refl (each_unit P (from + 1) bs (λ i n c is there pass. each (suc i) n c (omega (arith, is)) there pass))
    where
      rest : List ℕ
      rest = units_from (from + 1) test bs

      cases : (t : Bool) → test b ≡ t → All P rest → All P (cond t (from ∷ rest) rest)
      cases true pass later = All-cons P from rest (each 0 from b (omega arith) refl pass) later
      cases false pass later = later

  listed_unit : (from : ℕ) (bs : List UnitBook) (i n : ℕ) (b : UnitBook) → n ≡ from + i → slice_get bs i ≡ Some b → test b ≡ true
      → Contains (units_from from test bs) n
  listed_unit from [] i n b is there pass = absurd (let never : None ≡ Some b = there in cc)
  listed_unit from (c ∷ cs) zero n b is there pass =
      let same : n ≡ from = omega (arith, is) in
      let here : c ≡ b = (let s : Some c ≡ Some b = there in cc) in
      subst (Contains (units_from from test (c ∷ cs))) (sym same) (kept (test c) (ap test here ∙ pass))
    where
      rest : List ℕ
      rest = units_from (from + 1) test cs

      kept : (t : Bool) → t ≡ true → Contains (cond t (from ∷ rest) rest) from
      kept true is = front_of from rest
      kept false is = absurd cc
  listed_unit from (c ∷ cs) (suc i) n b is there pass = more (test c) (listed_unit (from + 1) cs i n b (omega (arith, is)) there pass)
    where
      rest : List ℕ
      rest = units_from (from + 1) test cs

      more : (t : Bool) → Contains rest n → Contains (cond t (from ∷ rest) rest) n
      more true there = behind from rest n there
      more false there = there

  units_rise : (from : ℕ) (bs : List UnitBook) → RisesFrom from (units_from from test bs)
  units_rise from [] = tt
  units_rise from (b ∷ bs) = cases (test b) (units_rise (from + 1) bs)
    where
      rest : List ℕ
      rest = units_from (from + 1) test bs

      cases : (t : Bool) → RisesFrom (from + 1) rest → RisesFrom from (cond t (from ∷ rest) rest)
      cases true later = (omega arith, later)
      cases false later = rises_lower from (from + 1) rest (omega arith) later

-- ---- a workunit that a user had

-- some element passes, and its index
record Passing {X : Type 0} (test : X → Bool) (xs : List X) : Type 0 where
  index : ℕ
  element : X
  stands : slice_get xs index ≡ Some element
  pass : test element ≡ true

passing : {X : Type 0} (test : X → Bool) (xs : List X) → list_any test xs ≡ true → Passing test xs
passing test [] any = absurd cc
passing {X} test (x ∷ xs) any = cases (test x) refl (passing test xs) any
  where
    cases : (b : Bool) → test x ≡ b → (list_any test xs ≡ true → Passing test xs) → (b || list_any test xs) ≡ true → Passing test (x ∷ xs)
    cases true is rest any = record { index = 0; element = x; stands = refl; pass = is }
    cases false is rest any =
        let later : Passing test xs = rest any in
        record { index = suc later.index; element = later.element; stands = later.stands; pass = later.pass }

the_user : (account : ℕ) (o : Option ℕ) → option_any (λ n. eqb n account) o ≡ true → o ≡ Some account
the_user account None is = absurd cc
the_user account (Some n) is = ap (λ m. Some m) (eqb-true n account is)

of_the_user : (account : ℕ) (o : Option ℕ) → o ≡ Some account → option_any (λ n. eqb n account) o ≡ true
of_the_user account o is = ap (option_any (λ n. eqb n account)) is ∙ eq-eqb account account refl

module _ (w : World) (account : ℕ) where
  is_unit_of_user : (i n : ℕ) (b : UnitBook) → n ≡ 1 + i → slice_get w.units i ≡ Some b → user_had w account b ≡ true → IsUnitOfUser w account n
  is_unit_of_user i n b is there had =
      let given : Passing (is_of_user w.hosts account) b.instances = passing (is_of_user w.hosts account) b.instances had in
      let at_unit : nth w.units n ≡ Some b = ap (nth w.units) (let same : n ≡ suc i = omega (arith, is) in same) ∙ nth-suc w.units i ∙ there in
      record {
        number = given.index;
        instance = given.element;
        stands = ap (option_and_then (λ (c : UnitBook). slice_get c.instances given.index)) at_unit ∙ given.stands;
        given = the_user account (user_of w.hosts given.element) given.pass;
      }

  none_missed : (n : ℕ) → IsUnitOfUser w account n → Contains (units_of_user w account) n
  none_missed zero h = absurd (let never : None ≡ Some h.instance = h.stands in cc)
  none_missed (suc i) h =
      in_book (slice_get w.units i) refl
      (sym (ap (option_and_then (λ (c : UnitBook). slice_get c.instances h.number)) (nth-suc w.units i)) ∙ h.stands)
    where
      in_book : (o : Option UnitBook) → slice_get w.units i ≡ o
          → option_and_then (λ (c : UnitBook). slice_get c.instances h.number) o ≡ Some h.instance → Contains (units_of_user w account) (suc i)
      in_book None found stands = absurd cc
      in_book (Some b) found stands =
          listed_unit (user_had w account) 1 w.units i (suc i) b (omega arith) found
          (any_passes_from_place (is_of_user w.hosts account) b.instances h.number h.instance stands
          (of_the_user account (user_of w.hosts h.instance) h.given))

pub units_of_user_are_those_had : UnitsOfUserAreThoseHad
units_of_user_are_those_had w account = record {
  each = each_unit (user_had w account) (IsUnitOfUser w account) 1 w.units (is_unit_of_user w account);
  none_missed = none_missed w account;
  rising = rises_in_pairs 1 (units_of_user w account) (units_rise (user_had w account) 1 w.units);
}
