-- Nothing is due before a moment that was lowered to the deadlines of all instances that are held.
use Rattle.std.proofs.Common.{◌≡◌, ℕ, ◌+◌, ◌≤◌, min, Bool, true, false, ◌&&◌, cond, List, [], ◌∷◌, ◌++◌, Option, Some, None, refl, sym, ap, ◌∙◌, arith}
use Rattle.std.specs.Prelude.{nat_lt}
use Rattle.std.proofs.lemmas.Bool.Decides.{nat_tests}
use Rattle.std.proofs.lemmas.List.Sums.{fold-append}
use Rattle.sched_book.specs.Count.{is_held}
use Rattle.sched_book.specs.Places.{option_any, is_overdue, overdue, deadline_of, places_in, places_among}
use Rattle.sched_book.specs.declared.instance.Instance.{Instance}
use Rattle.sched_book.specs.declared.instance.Owner.{Owner}
use Rattle.sched_book.specs.declared.instance.UnitBook.{UnitBook}
use Rattle.sched_book.specs.declared.world.World.{World}
use Rattle.table_worlds.specs.RowsOf.{having}
use Rattle.table_reading.specs.Deadlines.{lowered_to, lowered_to_each, lowered_to_units}

-- ---- it is lowered, and never raised

pub low_enough : (n : ℕ) (x : Instance) → lowered_to n x ≤ n
low_enough n x = cases (is_held x)
  where
    cases : (held : Bool) → cond held (min n (deadline_of x.owner)) n ≤ n
    cases true = omega arith
    cases false = omega arith

each_lowers : (n : ℕ) (xs : List Instance) → lowered_to_each n xs ≤ n
each_lowers n [] = omega arith
each_lowers n (x ∷ xs) = let first = low_enough n x in let later = each_lowers (lowered_to n x) xs in omega (arith, first, later)

units_lower : (n : ℕ) (bs : List UnitBook) → lowered_to_units n bs ≤ n
units_lower n [] = omega arith
units_lower n (b ∷ bs) = let first = each_lowers n b.instances in let later = units_lower (lowered_to_each n b.instances) bs in omega (arith, first, later)

-- ---- so nothing is due before a moment that is no later

pub not_due : (n until : ℕ) (x : Instance) → until ≤ lowered_to n x → is_overdue until x ≡ false
not_due n until x = cases (is_held x) x.owner
  where
    no_sooner : (deadline : ℕ) → until ≤ min n deadline → nat_lt deadline until ≡ false
    no_sooner deadline = grind (arith, nat_tests)

    cases : (held : Bool) (o : Option Owner) → until ≤ cond held (min n (deadline_of o)) n → (held && option_any (λ (owner : Owner). nat_lt owner.deadline until) o) ≡ false
    cases false o below = refl
    cases true None below = refl
    cases true (Some o) below = no_sooner o.deadline below

none_in : (unit number n until : ℕ) (xs : List Instance) → until ≤ lowered_to_each n xs → places_in unit number (is_overdue until) xs ≡ []
none_in unit number n until [] below = refl
none_in unit number n until (x ∷ xs) below =
    let all = each_lowers (lowered_to n x) xs in
    let here : is_overdue until x ≡ false = not_due n until x (omega (arith, below, all)) in
    rw here (none_in unit (number + 1) (lowered_to n x) until xs below)

none_among : (from n until : ℕ) (bs : List UnitBook) → until ≤ lowered_to_units n bs → places_among from (λ b x. is_overdue until x) bs ≡ []
none_among from n until [] below = refl
none_among from n until (b ∷ bs) below =
    let all = units_lower (lowered_to_each n b.instances) bs in
    let here : places_in from 0 (is_overdue until) b.instances ≡ [] = none_in from 0 n until b.instances (omega (arith, below, all)) in
    rw here (none_among (from + 1) (lowered_to_each n b.instances) until bs below)

pub none_is_due : (w : World) (n : ℕ) (books : List UnitBook) → overdue (having w books) (lowered_to_units n books) ≡ []
none_is_due w n books = none_among 1 n (lowered_to_units n books) books (omega arith)

-- ---- with one more workunit

pub lowered_more : (first now next : ℕ) (books : List UnitBook) (b : UnitBook) → now ≡ lowered_to_units first books → next ≡ lowered_to_each now b.instances → next ≡ lowered_to_units first (books ++ b ∷ [])
lowered_more first now next books b are more =
    more ∙ ap (λ n. lowered_to_each n b.instances) are ∙ sym (fold-append (λ n (a : UnitBook). lowered_to_each n a.instances) first books (b ∷ []))
