-- What the desk says of an application with a name, and what is known of it.
use Rattle.std.proofs.Common.{◌≡◌, ℕ, Bool, true, false, cond, List, [], ◌∷◌, ◌++◌, Option, Some, None, All, sym, refl, ap, ◌∙◌}
use Rattle.std.specs.Prelude.{◌||◌, find, is_some, option_map, option_and_then}
use Rattle.std.specs.List.{list_any}
use Rattle.std.specs.Option.{option_or}
use Rattle.std.specs.Str.{bytes_eq}
use Rattle.std.proofs.lemmas.List.Elements.{All-head, All-tail}
use Rattle.std.proofs.lemmas.List.Folds.{find-append}
use Rattle.std.proofs.lemmas.Slice.Eq.{bytes_eq-Decides}
use Rattle.sched_book.specs.Desk.{placed_at, app_by_name}
use Rattle.sched_book.specs.Fits.{version_among, version_at, version_for}
use Rattle.sched_book.specs.Places.{nth, place_where}
use Rattle.sched_book.specs.declared.desk.Placed.{Placed}
use Rattle.sched_book.specs.declared.rows.App.{App}
use Rattle.sched_book.specs.declared.rows.HostRow.{HostRow}
use Rattle.sched_book.specs.declared.rows.Version.{Version}
use Rattle.sched_book.specs.declared.world.World.{World}
use Rattle.sched_book.proofs.PlacesOf.{find-is}
use Rattle.job_choice.specs.Choosing.{known_of, known_runs}
use Rattle.job_choice.specs.Offered.{IsKnown}
use Rattle.job_choice.specs.declared.choosing.KnownApp.{KnownApp}

-- Versions.
module _ (versions : List Version) (platforms : List (List ℕ)) (name : List ℕ) where
  abbrev named : App → Bool
  named a = bytes_eq a.name name

  abbrev of_app : App → Option Version
  of_app a = version_among versions a.name platforms

  -- the first application of the name, if there is one
  of_first : (apps : List App) → option_and_then of_app (find named apps) ≡ cond (list_any named apps) (version_among versions name platforms) None
  of_first [] = refl
  of_first (a ∷ apps) = cases (bytes_eq a.name name) refl (of_first apps)
    where
      cases : (b : Bool) → bytes_eq a.name name ≡ b
          → option_and_then of_app (find named apps) ≡ cond (list_any named apps) (version_among versions name platforms) None
          → option_and_then of_app (cond b (Some a) (find named apps)) ≡ cond (b || list_any named apps) (version_among versions name platforms) None
      cases true is later = ap (λ n. version_among versions n platforms) ((bytes_eq-Decides a.name name).0 is)
      cases false is later = later

-- the application at its place is the one that its name finds
by_place : (w : World) (h : HostRow) (o : Option ℕ)
    → option_and_then (λ (a : App). version_among w.versions a.name h.platforms) (option_and_then (nth w.apps) o)
    ≡ option_and_then (λ (a : Placed App). version_at w h a.place) (option_and_then (placed_at w.apps) o)
by_place w h None = refl
by_place w h (Some n) = at (nth w.apps n) refl
  where
    at : (o : Option App) → nth w.apps n ≡ o
        → option_and_then (λ (a : App). version_among w.versions a.name h.platforms) o
        ≡ option_and_then (λ (a : Placed App). version_at w h a.place) (option_map (λ x. record { place = n; row = x }) o)
    at None stands = refl
    at (Some a) stands = sym (ap (option_and_then (λ (a : App). version_among w.versions a.name h.platforms)) stands)

version_is : (w : World) (h : HostRow) (name : List ℕ) → version_for w h name ≡ option_and_then (λ (a : Placed App). version_at w h a.place) (app_by_name w name)
version_is w h name =
    sym (of_first w.versions h.platforms name w.apps)
    ∙ ap (option_and_then (λ (a : App). version_among w.versions a.name h.platforms)) (find-is (λ (a : App). bytes_eq a.name name) w.apps)
    ∙ by_place w h (place_where (λ (a : App). bytes_eq a.name name) w.apps)

-- there is no version if there is no application of the name
pub version_none : (w : World) (h : HostRow) (name : List ℕ) → app_by_name w name ≡ None → version_for w h name ≡ None
version_none w h name none = version_is w h name ∙ ap (option_and_then (λ (a : Placed App). version_at w h a.place)) none

-- otherwise it is the version of the application at the place
pub version_some : (w : World) (h : HostRow) (name : List ℕ) (a : Placed App) → app_by_name w name ≡ Some a → version_for w h name ≡ version_at w h a.place
version_some w h name a some = version_is w h name ∙ ap (option_and_then (λ (a : Placed App). version_at w h a.place)) some

-- what is known of an application is what the world says
pub known_is : (w : World) (h : HostRow) (name : List ℕ) (known : List KnownApp) (k : KnownApp) → All (IsKnown w h) known → known_of known name ≡ Some k
    → k.version ≡ version_for w h name
known_is w h name [] k right found = absurd (let never : None ≡ Some k = found in cc)
known_is w h name (y ∷ ys) k right found = by (bytes_eq y.app name) refl (known_is w h name ys k (All-tail (IsKnown w h) y ys right)) found
  where
    by : (b : Bool) → bytes_eq y.app name ≡ b → (known_of ys name ≡ Some k → k.version ≡ version_for w h name)
        → cond b (Some y) (known_of ys name) ≡ Some k → k.version ≡ version_for w h name
    by true is further found =
        let same : y ≡ k = (let s : Some y ≡ Some k = found in cc) in
        ap (λ (k : KnownApp). k.version) (sym same) ∙ All-head (IsKnown w h) y ys right ∙ ap (version_for w h) ((bytes_eq-Decides y.app name).0 is)
    by false is further found = further found

-- after an application was asked about, it is known whether the host runs it
pub runs_more : (known more : List KnownApp) (app : List ℕ) (version : Option Version) → more ≡ known ++ (record { app = app; version = version }) ∷ []
    → known_runs known app ≡ None → known_runs more app ≡ Some (is_some version)
runs_more known more app version added unknown =
    let k : KnownApp = record { app = app; version = version } in
    ap (λ ks. known_runs ks app) added
    ∙ ap runs (find-append (λ (e : KnownApp). bytes_eq e.app app) known (k ∷ []))
    ∙ by (known_of known app) (bytes_eq app app) unknown ((bytes_eq-Decides app app).1 refl)
  where
    runs : Option KnownApp → Option Bool
    runs o = option_map (λ (e : KnownApp). is_some e.version) o

    by : (o : Option KnownApp) (b : Bool) → runs o ≡ None → b ≡ true → runs (option_or o (cond b (Some (record { app = app; version = version })) None)) ≡ Some (is_some version)
    by (Some e) b unknown same = absurd (let never : Some (is_some e.version) ≡ None = unknown in cc)
    by None true unknown same = refl
    by None false unknown same = absurd cc
