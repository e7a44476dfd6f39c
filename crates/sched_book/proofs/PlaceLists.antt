-- Lists of places, by the steps of a loop over the workunits, and how long they are.
use Rattle.std.proofs.Common.{◌≡◌, ℕ, ◌+◌, ◌<◌, Bool, true, false, cond, List, [], ◌∷◌, ◌++◌, length, drop, get_or, sym, refl, ap, ◌∙◌, arith, append_assoc}
use Rattle.std.proofs.lemmas.List.{drop_more, length-append}
use Rattle.std.proofs.lemmas.List.Sums.{sum_by-cons}
use Rattle.std.specs.Prelude.{count_by, sum_by}
use Rattle.sched_book.specs.Desk.{units_from}
use Rattle.sched_book.specs.Places.{is_held_by, held_by, places_in, places_among}
use Rattle.sched_book.specs.declared.instance.Instance.{Instance}
use Rattle.sched_book.specs.declared.instance.Place.{Place}
use Rattle.sched_book.specs.declared.instance.UnitBook.{UnitBook}
use Rattle.sched_book.specs.declared.world.World.{World}

-- one more workunit: what is done and what is left are still everything together
pub places_more : (p : UnitBook → Instance → Bool) (done more all : List Place) (bs : List UnitBook) (i : ℕ) (b : UnitBook)
    → i < length bs → b ≡ get_or bs i b → more ≡ done ++ places_in (i + 1) 0 (p b) b.instances
    → done ++ places_among (i + 1) p (drop i bs) ≡ all → more ++ places_among (i + 1 + 1) p (drop (i + 1) bs) ≡ all
places_more p done more all bs i b within is here before =
    let rest = places_among (i + 1 + 1) p (drop (i + 1) bs) in
    let split : drop i bs ≡ b ∷ drop (i + 1) bs = drop_more bs i b within ∙ ap (λ y. y ∷ drop (i + 1) bs) (sym is) in
    ap (λ xs. xs ++ rest) here
    ∙ append_assoc done (places_in (i + 1) 0 (p b) b.instances) rest
    ∙ ap (λ xs. done ++ places_among (i + 1) p xs) (sym split)
    ∙ before

-- the same for the places of workunits
pub units_more : (p : UnitBook → Bool) (done more all : List ℕ) (bs : List UnitBook) (i : ℕ) (b : UnitBook)
    → i < length bs → b ≡ get_or bs i b → more ≡ cond (p b) (done ++ (i + 1) ∷ []) done
    → done ++ units_from (i + 1) p (drop i bs) ≡ all → more ++ units_from (i + 1 + 1) p (drop (i + 1) bs) ≡ all
units_more p done more all bs i b within is made before =
    ap (λ us. us ++ rest) made
    ∙ cases (p b)
    ∙ ap (λ xs. done ++ units_from (i + 1) p xs) (sym split)
    ∙ before
  where
    rest : List ℕ
    rest = units_from (i + 1 + 1) p (drop (i + 1) bs)

    split : drop i bs ≡ b ∷ drop (i + 1) bs
    split = drop_more bs i b within ∙ ap (λ y. y ∷ drop (i + 1) bs) (sym is)

    cases : (t : Bool) → cond t (done ++ (i + 1) ∷ []) done ++ rest ≡ done ++ cond t ((i + 1) ∷ rest) rest
    cases true = append_assoc done ((i + 1) ∷ []) rest
    cases false = refl

-- there are as many places as instances that pass
counted_in : (p : Instance → Bool) (unit number : ℕ) (xs : List Instance) → length (places_in unit number p xs) ≡ count_by p xs
counted_in p unit number [] = refl
counted_in p unit number (x ∷ xs) = cases (p x) _ (counted_in p unit (number + 1) xs) ∙ sym (sum_by-cons (λ y. cond (p y) 1 0) x xs)
  where
    cases : (b : Bool) (ps : List Place) → length ps ≡ count_by p xs
        → length (cond b ((record { unit = unit; number = number }) ∷ ps) ps) ≡ cond b 1 0 + count_by p xs
    cases true ps same = omega (arith, same)
    cases false ps same = omega (arith, same)

pub places_counted : (p : Instance → Bool) (unit : ℕ) (bs : List UnitBook) → length (places_among unit (λ b x. p x) bs) ≡ sum_by (λ (b : UnitBook). count_by p b.instances) bs
places_counted p unit [] = refl
places_counted p unit (b ∷ bs) =
    length-append (places_in unit 0 p b.instances) (places_among (unit + 1) (λ b x. p x) bs)
    ∙ ap (λ m. m + length (places_among (unit + 1) (λ b x. p x) bs)) (counted_in p unit 0 b.instances)
    ∙ ap (λ m. count_by p b.instances + m) (places_counted p (unit + 1) bs)
    ∙ sym (sum_by-cons (λ (b : UnitBook). count_by p b.instances) b bs)

pub held_counted : (w : World) (host count : ℕ) → count ≡ sum_by (λ (b : UnitBook). count_by (is_held_by host) b.instances) w.units
    → count ≡ length (held_by w host)
held_counted w host count is = is ∙ sym (places_counted (is_held_by host) 1 w.units)
