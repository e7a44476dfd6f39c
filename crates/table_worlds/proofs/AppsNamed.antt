-- The application at the place of a name has that name.
use Rattle.std.proofs.Common.{◌≡◌, ℕ, suc, ◌+◌, Bool, true, false, ◌||◌, cond, List, [], ◌∷◌, Some, option_map, refl, sym, ap, ◌∙◌, arith, true≢false}
use Rattle.std.specs.Prelude.{slice_get, unwrap_or}
use Rattle.std.specs.List.{list_any, position_from}
use Rattle.std.specs.Str.{bytes_eq}
use Rattle.std.proofs.lemmas.Slice.Eq.{bytes_eq-Decides}
use Rattle.sched_book.specs.Imports.{has_app}
use Rattle.sched_book.specs.Places.{nth}
use Rattle.sched_book.specs.declared.rows.App.{App}
use Rattle.sched_book.specs.declared.world.World.{World}
use Rattle.sched_book.proofs.PlacesOf.{place_where-is}
use Rattle.table_meaning.specs.Worlds.{app_place}
use Rattle.table_worlds.specs.ReadBack.{app_name_at}
use Rattle.table_worlds.proofs.ByPlace.{nth_next}

-- if some application passes, the first one that does is at its index
first_that_passes : (p : App → Bool) (n : ℕ) (apps : List App) → list_any p apps ≡ true
    → (i : ℕ) × (a : App) × (position_from p n apps ≡ Some (i + n)) × (slice_get apps i ≡ Some a) × (p a ≡ true)
first_that_passes p n [] any = absurd (true≢false (sym any))
first_that_passes p n (a ∷ apps) any = go (p a) refl any (first_that_passes p (n + 1) apps)
  where
    go : (b : Bool) → p a ≡ b → (b || list_any p apps) ≡ true
        → (list_any p apps ≡ true → (i : ℕ) × (x : App) × (position_from p (n + 1) apps ≡ Some (i + (n + 1))) × (slice_get apps i ≡ Some x) × (p x ≡ true))
        → (i : ℕ) × (x : App) × (cond b (Some n) (position_from p (n + 1) apps) ≡ Some (i + n)) × (slice_get (a ∷ apps) i ≡ Some x) × (p x ≡ true)
    go true is any later = (0, a, ap Some (let same : n ≡ 0 + n = omega arith in same), refl, is)
    go false is any later =
        let more = later any in
        (suc more.0, more.1, more.2 ∙ ap Some (let same : more.0 + (n + 1) ≡ suc more.0 + n = omega arith in same), more.3, more.4)

-- the application at the place of a name has that name
pub named_app : (w : World) (name : List ℕ) → has_app w.apps name ≡ true → (a : App) × (nth w.apps (app_place w name) ≡ Some a) × (a.name ≡ name)
named_app w name has =
    let p : App → Bool = λ a. bytes_eq a.name name in
    let first = first_that_passes p 1 w.apps has in (
      first.1,
      ap (λ o. nth w.apps (unwrap_or o 0)) (place_where-is p w.apps ∙ first.2) ∙ nth_next w.apps first.0 ∙ first.3,
      (bytes_eq-Decides first.1.name name).0 first.4,
    )

-- a name is read back from its place, for any list equal to the world's
pub name_back : (apps : List App) (w : World) (name : List ℕ) → apps ≡ w.apps → has_app w.apps name ≡ true → app_name_at apps (app_place w name) ≡ name
name_back apps w name are has =
    let named = named_app w name has in
    ap (λ l. app_name_at l (app_place w name)) are ∙ ap (λ o. unwrap_or (option_map (λ (a : App). a.name) o) []) named.1 ∙ named.2
