-- What follows for new rows if an import has no reason to refuse them.
use Rattle.std.proofs.Common.{◌≡◌, ◌≢◌, ℕ, ◌+◌, ◌≤◌, Bool, true, false, not, cond, eqb, eqb-true, eq-eqb, List, [], ◌∷◌, ◌++◌, length, get_or, AllPairs, Option, Some, None, slice_get, sym, refl, ap, ◌∙◌, subst, append_assoc, append-nil, leb-true}
use Rattle.std.specs.Prelude.{◌&&◌, ◌||◌, IsTrue, nat_le, find, bytes_eq, option_map, unwrap_or}
use Rattle.std.specs.List.{list_any}
use Rattle.std.proofs.lemmas.List.Folds.{list_any-append}
use Rattle.std.proofs.lemmas.List.Quantifiers.{all_pairs_push}
use Rattle.std.proofs.lemmas.Option.{slice_get-get_or}
use Rattle.std.proofs.lemmas.Slice.Eq.{bytes_eq-Decides}
use Rattle.std.proofs.lemmas.Bool.{not-false}
use Rattle.sched_book.specs.Imports.{Shelf, first_known, first_fault, has_app, has_room, same_version}
use Rattle.sched_book.specs.Limits.{most_accounts, most_apps, most_versions, most_workunits}
use Rattle.sched_book.specs.Places.{place_where, agreement_by}
use Rattle.sched_book.specs.declared.rows.Agreement.TheVariants.{Exact}
use Rattle.sched_book.specs.declared.rows.App.{App}
use Rattle.sched_book.specs.declared.rows.Version.{Version}
use Rattle.sched_machine.proofs.Rows.Listed.{none_any, place_missing}

pub no_fault : (duplicate unknown : Option ℕ) (room : Bool) → first_fault duplicate unknown room ≡ None → (duplicate ≡ None) × (unknown ≡ None) × (room ≡ true)
no_fault (Some n) unknown room is = absurd cc
no_fault None (Some n) room is = absurd cc
no_fault None None false is = absurd cc
no_fault None None true is = (refl, refl, refl)

-- rows whose names no earlier row has: the names of each two differ
pub new_names : {X : Type 0} (same : X → X → Bool) (R : X → X → Type 0) → ((a b : X) → same b a ≡ false → R a b)
    → (n : ℕ) (known xs : List X) → first_known same n known xs ≡ None → AllPairs R known → AllPairs R (known ++ xs)
new_names same R apart n known [] none before = subst (AllPairs R) (sym (append-nil known)) before
new_names same R apart n known (x ∷ xs) none before =
    subst (AllPairs R) (append_assoc known (x ∷ []) xs)
    (cases (list_any (same x) known) refl none (new_names same R apart (n + 1) (known ++ x ∷ []) xs))
  where
    cases : (b : Bool) → list_any (same x) known ≡ b → cond b (Some n) (first_known same (n + 1) (known ++ x ∷ []) xs) ≡ None
        → (first_known same (n + 1) (known ++ x ∷ []) xs ≡ None → AllPairs R (known ++ x ∷ []) → AllPairs R ((known ++ x ∷ []) ++ xs))
        → AllPairs R ((known ++ x ∷ []) ++ xs)
    cases true is none later = absurd cc
    cases false is none later =
        later none (all_pairs_push R known x before (λ k d within.
        apart (get_or known k d) x (none_any (same x) known is k (get_or known k d) (slice_get-get_or known k d within))))

-- texts and versions that are not the same
pub other_text : (s t : List ℕ) → bytes_eq t s ≡ false → s ≢ t
other_text s t fails equal = let same : bytes_eq t s ≡ true = (bytes_eq-Decides t s).1 (sym equal) in absurd cc

three_hold : (a b c : Bool) → (a && b && c) ≡ true → (a ≡ true) × (b ≡ true) × (c ≡ true)
three_hold true true c is = (refl, refl, is)
three_hold true false c is = absurd cc
three_hold false b c is = absurd cc

pub other_version : (a b : Version) → same_version b a ≡ false → IsTrue (same_version a b) → ⊥
other_version a b fails same =
    let all = three_hold (bytes_eq a.app b.app) (bytes_eq a.platform b.platform) (eqb a.version_num b.version_num) same in
    let app : bytes_eq b.app a.app ≡ true = (bytes_eq-Decides b.app a.app).1 (sym ((bytes_eq-Decides a.app b.app).0 all.0)) in
    let platform : bytes_eq b.platform a.platform ≡ true = (bytes_eq-Decides b.platform a.platform).1 (sym ((bytes_eq-Decides a.platform b.platform).0 all.1)) in
    let number : eqb b.version_num a.version_num ≡ true = eq-eqb b.version_num a.version_num (sym (eqb-true a.version_num b.version_num all.2)) in
    let holds : same_version b a ≡ true =
    ap (λ t. t && bytes_eq b.platform a.platform && eqb b.version_num a.version_num) app
    ∙ ap (λ t. t && eqb b.version_num a.version_num) platform
    ∙ number in
    absurd cc

pub named_apps : {X : Type 0} (name : X → List ℕ) (apps : List App) (xs : List X) → place_where (λ x. not (has_app apps (name x))) xs ≡ None
    → (i : ℕ) (x : X) → slice_get xs i ≡ Some x → IsTrue (has_app apps (name x))
named_apps name apps xs none i x there = not-false (has_app apps (name x)) (place_missing (λ x. not (has_app apps (name x))) xs none i x there)

-- the tables have room
pub record HasRoom (s : Shelf) : Type 0 where
  pub accounts : length s.accounts ≤ most_accounts
  pub apps : length s.apps ≤ most_apps
  pub versions : length s.versions ≤ most_versions
  pub units : length s.units ≤ most_workunits

four_hold : (a b c d : Bool) → (a && b && c && d) ≡ true → (a ≡ true) × (b ≡ true) × (c ≡ true) × (d ≡ true)
four_hold true true true d is = (refl, refl, refl, is)
four_hold true true false d is = absurd cc
four_hold true false c d is = absurd cc
four_hold false b c d is = absurd cc

pub room_from : (s : Shelf) → has_room s ≡ true → HasRoom s
room_from s room =
    let all = four_hold (nat_le (length s.accounts) most_accounts) (nat_le (length s.apps) most_apps) (nat_le (length s.versions) most_versions) (nat_le (length s.units) most_workunits) room in
    record {
      accounts = leb-true (length s.accounts) most_accounts all.0;
      apps = leb-true (length s.apps) most_apps all.1;
      versions = leb-true (length s.versions) most_versions all.2;
      units = leb-true (length s.units) most_workunits all.3;
    }

-- more applications after the existing ones
pub app_stays : (apps new : List App) (name : List ℕ) → IsTrue (has_app apps name) → IsTrue (has_app (apps ++ new) name)
app_stays apps new name stands =
    let p = λ (a : App). bytes_eq a.name name in
    list_any-append p apps new ∙ ap (λ b. b || list_any p new) stands

found_in_front : {X : Type 0} (p : X → Bool) (xs ys : List X) → list_any p xs ≡ true → find p (xs ++ ys) ≡ find p xs
found_in_front p [] ys stands = absurd cc
found_in_front p (x ∷ xs) ys stands = cases (p x) stands (found_in_front p xs ys)
  where
    cases : (b : Bool) → (b || list_any p xs) ≡ true → (list_any p xs ≡ true → find p (xs ++ ys) ≡ find p xs)
        → cond b (Some x) (find p (xs ++ ys)) ≡ cond b (Some x) (find p xs)
    cases true stands later = refl
    cases false stands later = later stands

pub agreement_stays : (apps new : List App) (name : List ℕ) → IsTrue (has_app apps name) → agreement_by (apps ++ new) name ≡ agreement_by apps name
agreement_stays apps new name stands =
    ap (λ o. unwrap_or (option_map (λ (a : App). a.agreement) o) Exact) (found_in_front (λ (a : App). bytes_eq a.name name) apps new stands)
