-- If one test passes no instance, two tests that agree wherever it fails pass the same instances.
use Rattle.std.proofs.Common.{◌≡◌, ℕ, ◌+◌, Bool, true, false, ◌&&◌, cond, List, [], ◌∷◌, ◌++◌, length, refl, sym, ap, ap₂, ◌∙◌}
use Rattle.sched_book.specs.Count.{is_held}
use Rattle.sched_book.specs.Places.{is_owned_by, is_held_by, held_by, owned_by, places_in, places_among}
use Rattle.sched_book.specs.declared.instance.Instance.{Instance}
use Rattle.sched_book.specs.declared.instance.Place.{Place}
use Rattle.sched_book.specs.declared.instance.UnitBook.{UnitBook}
use Rattle.sched_book.specs.declared.world.World.{World}

pub cons-nil : {X : Type 0} {x : X} {xs : List X} → x ∷ xs ≡ [] → ⊥
cons-nil is = cc

pub append_none : {X : Type 0} (xs ys : List X) → xs ++ ys ≡ [] → (xs ≡ []) × (ys ≡ [])
append_none [] ys is = (refl, is)
append_none (x ∷ xs) ys is = absurd (cons-nil is)

same_in : (none p q : Instance → Bool) → ((x : Instance) → none x ≡ false → p x ≡ q x) → (unit number : ℕ) (xs : List Instance) → places_in unit number none xs ≡ [] → places_in unit number p xs ≡ places_in unit number q xs
same_in none p q same unit number [] empty = refl
same_in none p q same unit number (x ∷ xs) empty = turn (none x) refl empty (same_in none p q same unit (number + 1) xs)
  where
    turn : (b : Bool) → none x ≡ b → cond b (record { unit = unit; number = number } ∷ places_in unit (number + 1) none xs) (places_in unit (number + 1) none xs) ≡ []
        → (places_in unit (number + 1) none xs ≡ [] → places_in unit (number + 1) p xs ≡ places_in unit (number + 1) q xs)
        → cond (p x) (record { unit = unit; number = number } ∷ places_in unit (number + 1) p xs) (places_in unit (number + 1) p xs)
        ≡ cond (q x) (record { unit = unit; number = number } ∷ places_in unit (number + 1) q xs) (places_in unit (number + 1) q xs)
    turn true is empty later = absurd (cons-nil empty)
    turn false is empty later = ap₂ (λ b (l : List Place). cond b (record { unit = unit; number = number } ∷ l) l) (same x is) (later empty)

pub same_among : (none p q : UnitBook → Instance → Bool) → ((b : UnitBook) (x : Instance) → none b x ≡ false → p b x ≡ q b x) → (from : ℕ) (bs : List UnitBook) → places_among from none bs ≡ []
    → places_among from p bs ≡ places_among from q bs
same_among none p q same from [] empty = refl
same_among none p q same from (b ∷ bs) empty =
    let parts = append_none (places_in from 0 (none b) b.instances) (places_among (from + 1) none bs) empty in
    ap₂ (λ (xs ys : List Place). xs ++ ys) (same_in (none b) (p b) (q b) (same b) from 0 b.instances parts.0) (same_among none p q same (from + 1) bs parts.1)

-- A host that was given nothing holds nothing.
pub none_held : (w : World) (host : ℕ) → owned_by w host ≡ [] → 0 ≡ length (held_by w host)
none_held w host none =
    let owned = λ (b : UnitBook) (x : Instance). is_owned_by host x in
    sym (ap length (same_among owned (λ b x. is_held_by host x) owned (λ b x fails. ap (λ t. t && is_held x) fails ∙ sym fails) 1 w.units none ∙ none))
