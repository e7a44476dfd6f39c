-- What is known of the workunits that the user had.
use Rattle.std.proofs.Common.{◌≡◌, ℕ, zero, suc, ◌+◌, ◌<◌, Bool, true, false, cond, eqb, List, [], ◌∷◌, Option, Some, None, sym, refl, ap, ◌∙◌, subst, arith}
use Rattle.std.specs.Prelude.{◌||◌, nat_eq, slice_get, is_some, option_map}
use Rattle.std.specs.List.{list_any}
use Rattle.std.specs.Option.{option_or, IfSome}
use Rattle.std.proofs.lemmas.Bool.{eq-eqb, ne_eqb, eqb-true}
use Rattle.std.proofs.lemmas.List.Folds.{find-append}
use Rattle.sched_book.specs.Desk.{units_from, units_of_user}
use Rattle.sched_book.specs.Places.{option_any, user_had}
use Rattle.sched_book.specs.declared.instance.UnitBook.{UnitBook}
use Rattle.sched_book.specs.declared.world.World.{World}
use Rattle.sched_book.proofs.PlacesOf.{nth-suc}
use Rattle.sched_book.specs.Skipping.{user_had_at}
use Rattle.job_choice.specs.Past.{look_of, known_had, may_look, with_look, IsUserPast}
use Rattle.job_choice.specs.declared.past.LookedAt.{LookedAt}
use Rattle.job_choice.specs.declared.past.UserPast.{UserPast}
use Rattle.job_choice.specs.declared.past.UserPast.TheVariants.{InPart, Whole}
use Rattle.texts.specs.SeenSet.{has_seen}
use Rattle.texts.specs.declared.seen_set.SeenSet.{SeenSet}

none_below : (first : ℕ) (p : UnitBook → Bool) (bs : List UnitBook) (unit : ℕ) → unit < first → list_any (λ u. eqb unit u) (units_from first p bs) ≡ false
none_below first p [] unit below = refl
none_below first p (b ∷ bs) unit below = by (p b) (none_below (first + 1) p bs unit (omega arith))
  where
    by : (t : Bool) → list_any (λ u. eqb unit u) (units_from (first + 1) p bs) ≡ false
        → list_any (λ u. eqb unit u) (cond t (first ∷ units_from (first + 1) p bs) (units_from (first + 1) p bs)) ≡ false
    by true more = ap (λ s. s || list_any (λ u. eqb unit u) (units_from (first + 1) p bs)) (ne_eqb unit first (λ same. omega arith)) ∙ more
    by false more = more

-- a place is among those that pass if and only if there is a workunit that passes
listed_at : (first : ℕ) (p : UnitBook → Bool) (bs : List UnitBook) (i unit : ℕ) → unit ≡ first + i
    → list_any (λ u. eqb unit u) (units_from first p bs) ≡ option_any p (slice_get bs i)
listed_at first p [] i unit place = refl
listed_at first p (y ∷ ys) zero unit place = by (p y) (none_below (first + 1) p ys unit (omega arith))
  where
    by : (t : Bool) → list_any (λ u. eqb unit u) (units_from (first + 1) p ys) ≡ false
        → list_any (λ u. eqb unit u) (cond t (first ∷ units_from (first + 1) p ys) (units_from (first + 1) p ys)) ≡ t
    by true none = ap (λ s. s || list_any (λ u. eqb unit u) (units_from (first + 1) p ys)) (eq-eqb unit first (omega arith))
    by false none = none
listed_at first p (y ∷ ys) (suc i) unit place = by (p y) (listed_at (first + 1) p ys i unit (omega arith))
  where
    by : (t : Bool) → list_any (λ u. eqb unit u) (units_from (first + 1) p ys) ≡ option_any p (slice_get ys i)
        → list_any (λ u. eqb unit u) (cond t (first ∷ units_from (first + 1) p ys) (units_from (first + 1) p ys)) ≡ option_any p (slice_get ys i)
    by true more = ap (λ s. s || list_any (λ u. eqb unit u) (units_from (first + 1) p ys)) (ne_eqb unit first (λ same. omega arith)) ∙ more
    by false more = more

listed_is : (w : World) (account unit : ℕ) → list_any (λ u. eqb unit u) (units_of_user w account) ≡ user_had_at w account unit
listed_is w account zero = none_below 1 (user_had w account) w.units zero (omega arith)
listed_is w account (suc i) =
    listed_at 1 (user_had w account) w.units i (suc i) (omega arith) ∙ ap (option_any (user_had w account)) (sym (nth-suc w.units i))

-- the list of all that the user had
pub whole_is : (w : World) (account : ℕ) (units : List ℕ) (had : SeenSet ℕ) → units ≡ units_of_user w account
    → ((key : ℕ) → has_seen nat_eq had key ≡ list_any (nat_eq key) units) → IsUserPast w account (Whole had)
whole_is w account units had listed seen = λ unit. seen unit ∙ ap (list_any (nat_eq unit)) listed ∙ listed_is w account unit

-- one more look
pub look_is : (w : World) (account : ℕ) (past : UserPast) (look : LookedAt) → look.had ≡ user_had_at w account look.unit
    → IsUserPast w account past → IsUserPast w account (with_look past look)
look_is w account (Whole had) look is so = so
look_is w account (InPart looks) look is so = λ unit.
    subst (λ o. IfSome (option_map (λ (l : LookedAt). l.had) o) (λ had. had ≡ user_had_at w account unit))
    (sym (find-append (λ (l : LookedAt). eqb l.unit unit) looks (look ∷ [])))
    (by unit (look_of looks unit) (so unit) (eqb look.unit unit) refl)
  where
    by : (unit : ℕ) (o : Option LookedAt) → IfSome (option_map (λ (l : LookedAt). l.had) o) (λ had. had ≡ user_had_at w account unit)
        → (b : Bool) → eqb look.unit unit ≡ b
        → IfSome (option_map (λ (l : LookedAt). l.had) (option_or o (cond b (Some look) None))) (λ had. had ≡ user_had_at w account unit)
    by unit (Some l) so b same = so
    by unit None so true same = is ∙ ap (user_had_at w account) (eqb-true look.unit unit same)
    by unit None so false same = tt

pub look_known : (past : UserPast) (look : LookedAt) → may_look past ≡ true → is_some (known_had (with_look past look) look.unit) ≡ true
look_known (Whole had) look may = absurd cc
look_known (InPart looks) look may =
    ap (λ o. is_some (option_map (λ (l : LookedAt). l.had) o)) (find-append (λ (l : LookedAt). eqb l.unit look.unit) looks (look ∷ []))
    ∙ by (look_of looks look.unit) (eqb look.unit look.unit) (eq-eqb look.unit look.unit refl)
  where
    by : (o : Option LookedAt) (b : Bool) → b ≡ true → is_some (option_map (λ (l : LookedAt). l.had) (option_or o (cond b (Some look) None))) ≡ true
    by (Some l) b same = refl
    by None true same = refl
    by None false same = absurd cc

-- nothing is known
pub nothing_is : (w : World) (account : ℕ) → IsUserPast w account (InPart [])
nothing_is w account = λ unit. tt

-- what is known of a workunit
pub had_is : (w : World) (account : ℕ) (past : UserPast) (unit : ℕ) (had : Bool) → IsUserPast w account past → known_had past unit ≡ Some had
    → had ≡ user_had_at w account unit
had_is w account past unit had so known = subst (λ o. IfSome o (λ had. had ≡ user_had_at w account unit)) known (so unit)
