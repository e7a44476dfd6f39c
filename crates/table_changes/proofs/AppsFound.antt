-- Applications found by their names, and names in a longer list of applications.
use Rattle.std.proofs.Common.{◌≡◌, ℕ, ◌+◌, Bool, true, false, ◌||◌, cond, List, [], ◌∷◌, ◌++◌, Option, Some, None, option_map, option_and_then, sym, refl, ap, ◌∙◌, true≢false}
use Rattle.std.specs.Prelude.{find, unwrap_or}
use Rattle.std.specs.List.{list_any, position_from}
use Rattle.std.specs.Str.{bytes_eq}
use Rattle.std.proofs.lemmas.List.Folds.{list_any-append}
use Rattle.std.proofs.lemmas.Option.{none-some}
use Rattle.sched_book.specs.Desk.{placed_at, app_by_name}
use Rattle.sched_book.specs.Imports.{has_app}
use Rattle.sched_book.specs.Places.{nth, place_where, agreement_by}
use Rattle.sched_book.specs.declared.desk.Placed.{Placed}
use Rattle.sched_book.specs.declared.rows.Agreement.TheVariants.{Exact}
use Rattle.sched_book.specs.declared.rows.App.{App}
use Rattle.sched_book.specs.declared.world.World.{World}
use Rattle.sched_book.proofs.PlacesOf.{place_where-is, find-is}
use Rattle.table_meaning.specs.Worlds.{app_place}

module _ {X : Type 0} (p : X → Bool) where
  -- if an item is found, one passes
  found_passes : (xs : List X) (x : X) → find p xs ≡ Some x → list_any p xs ≡ true
  found_passes [] x found = absurd (none-some x found)
  found_passes (y ∷ ys) x found = cases (p y) found (found_passes ys x)
    where
      cases : (b : Bool) → cond b (Some y) (find p ys) ≡ Some x → (find p ys ≡ Some x → list_any p ys ≡ true) → (b || list_any p ys) ≡ true
      cases true found later = refl
      cases false found later = later found

  -- the first item that passes is still the first if more are appended
  first_stays : (n : ℕ) (xs ys : List X) → list_any p xs ≡ true → position_from p n (xs ++ ys) ≡ position_from p n xs
  first_stays n [] ys any = absurd (true≢false (sym any))
  first_stays n (x ∷ xs) ys any = cases (p x) any (first_stays (n + 1) xs ys)
    where
      cases : (b : Bool) → (b || list_any p xs) ≡ true → (list_any p xs ≡ true → position_from p (n + 1) (xs ++ ys) ≡ position_from p (n + 1) xs)
          → cond b (Some n) (position_from p (n + 1) (xs ++ ys)) ≡ cond b (Some n) (position_from p (n + 1) xs)
      cases true any later = refl
      cases false any later = later any

  found_stays : (xs ys : List X) → list_any p xs ≡ true → find p (xs ++ ys) ≡ find p xs
  found_stays [] ys any = absurd (true≢false (sym any))
  found_stays (x ∷ xs) ys any = cases (p x) any (found_stays xs ys)
    where
      cases : (b : Bool) → (b || list_any p xs) ≡ true → (list_any p xs ≡ true → find p (xs ++ ys) ≡ find p xs) → cond b (Some x) (find p (xs ++ ys)) ≡ cond b (Some x) (find p xs)
      cases true any later = refl
      cases false any later = later any

abbrev named : List ℕ → App → Bool
named name a = bytes_eq a.name name

-- the application that a desk found, and that exists
record IsFound (w : World) (name : List ℕ) (a : Placed App) : Type 0 where
  place : a.place ≡ app_place w name
  agreement : a.row.agreement ≡ agreement_by w.apps name
  stands : has_app w.apps name ≡ true

found : (w : World) (name : List ℕ) (a : Placed App) → app_by_name w name ≡ Some a → IsFound w name a
found w name a is = at (place_where (named name) w.apps) refl is
  where
    here : (n : ℕ) (o : Option App) → place_where (named name) w.apps ≡ Some n → nth w.apps n ≡ o → option_map (λ (x : App). record { place = n; row = x }) o ≡ Some a → IsFound w name a
    here n None place stands is = absurd (none-some a is)
    here n (Some x) place stands is =
        let same : record { place = n; row = x } ≡ a = ap (λ o. unwrap_or o a) is in
        let found : find (named name) w.apps ≡ Some x = find-is (named name) w.apps ∙ ap (option_and_then (nth w.apps)) place ∙ stands in
        record {
          place = ap (λ (p : Placed App). p.place) (sym same) ∙ sym (ap (λ o. unwrap_or o 0) place);
          agreement = ap (λ (p : Placed App). p.row.agreement) (sym same) ∙ sym (ap (λ o. unwrap_or (option_map (λ (b : App). b.agreement) o) Exact) found);
          stands = found_passes (named name) w.apps x found;
        }

    at : (o : Option ℕ) → place_where (named name) w.apps ≡ o → option_and_then (placed_at w.apps) o ≡ Some a → IsFound w name a
    at None place is = absurd (none-some a is)
    at (Some n) place is = here n (nth w.apps n) place refl is

pub found_place : (w : World) (name : List ℕ) (o : Option (Placed App)) (a : Placed App) → o ≡ app_by_name w name → o ≡ Some a → a.place ≡ app_place w name
found_place w name o a is some = (found w name a (sym is ∙ some)).place

pub found_agreement : (w : World) (name : List ℕ) (o : Option (Placed App)) (a : Placed App) → o ≡ app_by_name w name → o ≡ Some a → a.row.agreement ≡ agreement_by w.apps name
found_agreement w name o a is some = (found w name a (sym is ∙ some)).agreement

pub found_stands : (w : World) (name : List ℕ) (o : Option (Placed App)) (a : Placed App) → o ≡ app_by_name w name → o ≡ Some a → has_app w.apps name ≡ true
found_stands w name o a is some = (found w name a (sym is ∙ some)).stands

-- a name that exists has the same place, agreement and application in a longer list
pub place_stays : (w v : World) (more : List App) (name : List ℕ) → v.apps ≡ w.apps ++ more → has_app w.apps name ≡ true → app_place v name ≡ app_place w name
place_stays w v more name are has =
    ap (λ o. unwrap_or o 0)
    (ap (place_where (named name)) are
    ∙ place_where-is (named name) (w.apps ++ more)
    ∙ first_stays (named name) 1 w.apps more has
    ∙ sym (place_where-is (named name) w.apps))

pub agreement_stays : (w v : World) (more : List App) (name : List ℕ) → v.apps ≡ w.apps ++ more → has_app w.apps name ≡ true → agreement_by v.apps name ≡ agreement_by w.apps name
agreement_stays w v more name are has =
    ap (λ o. unwrap_or (option_map (λ (b : App). b.agreement) o) Exact) (ap (find (named name)) are ∙ found_stays (named name) w.apps more has)

pub still_stands : (w v : World) (more : List App) (name : List ℕ) → v.apps ≡ w.apps ++ more → has_app w.apps name ≡ true → has_app v.apps name ≡ true
still_stands w v more name are has = ap (list_any (named name)) are ∙ list_any-append (named name) w.apps more ∙ ap (λ b. b || list_any (named name) more) has
