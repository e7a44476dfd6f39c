-- A look-up finds a row exactly if some row passes its test.
use Rattle.std.proofs.Common.{◌≡◌, ℕ, ◌+◌, Bool, true, false, cond, List, [], ◌∷◌, length, Option, Some, None, refl, ap, ◌∙◌, add-one}
use Rattle.std.specs.Prelude.{find, map, position, is_some, is_none, not, nat_lt, option_map, option_and_then, ◌||◌, ◌&&◌, ◌==◌}
use Rattle.std.specs.List.{list_any, position_from, position_or_len}
use Rattle.std.specs.Str.{bytes_eq}
use Rattle.std.proofs.lemmas.Bool.{ltb-true}
use Rattle.std.proofs.lemmas.Cmp.{nat_list_eq_equiv, nat_eq_equiv}
use Rattle.std.proofs.lemmas.Iterator.Adapters.{position_from-zero}
use Rattle.sched_book.specs.Classes.{imported}
use Rattle.sched_book.specs.Desk.{placed_at, placed_where, account_by_key, app_by_name, version_by_key}
use Rattle.sched_book.specs.Imports.{same_account, same_app, same_version, same_unit, is_version, has_app}
use Rattle.sched_book.specs.Places.{nth, place_where, unit_named}
use Rattle.sched_book.specs.declared.instance.UnitBook.{UnitBook}
use Rattle.sched_book.specs.declared.rows.Account.{Account}
use Rattle.sched_book.specs.declared.rows.App.{App}
use Rattle.sched_book.specs.declared.rows.Version.{Version}
use Rattle.sched_book.specs.declared.rows.Workunit.{Workunit}
use Rattle.sched_book.specs.declared.world.World.{World}
use Rattle.sched_book.proofs.PlacesOf.{nth-suc, is_some-option_map, is_there}

by_test : {X : Type 0} (b : Bool) (x : X) (more : Option X) (c : Bool) → is_some more ≡ c → is_some (cond b (Some x) more) ≡ (b || c)
by_test true x more c e = refl
by_test false x more c e = e

is_some-position_from : {X : Type 0} (p : X → Bool) (n : ℕ) (xs : List X) → is_some (position_from p n xs) ≡ list_any p xs
is_some-position_from p n [] = refl
is_some-position_from p n (x ∷ xs) = by_test (p x) n (position_from p (n + 1) xs) (list_any p xs) (is_some-position_from p (n + 1) xs)

is_some-position : {X : Type 0} (p : X → Bool) (xs : List X) → is_some (position p xs) ≡ list_any p xs
is_some-position p xs = ap is_some (position_from-zero p xs) ∙ is_some-position_from p 0 xs

is_some-place_where : {X : Type 0} (p : X → Bool) (xs : List X) → is_some (place_where p xs) ≡ list_any p xs
is_some-place_where p xs = is_some-option_map (λ i. i + 1) (position p xs) ∙ is_some-position p xs

is_some-placed_at : {X : Type 0} (xs : List X) (k : ℕ) (b : Bool) → nat_lt k (length xs) ≡ b
    → is_some (option_and_then (placed_at xs) (option_map (λ i. i + 1) (cond b (Some k) None))) ≡ is_some (cond b (Some k) None)
is_some-placed_at xs k false e = refl
is_some-placed_at xs k true e =
    is_some-option_map (λ x. record { place = k + 1; row = x }) (nth xs (k + 1))
    ∙ ap (λ n. is_some (nth xs n)) (add-one k)
    ∙ ap is_some (nth-suc xs k)
    ∙ is_there xs k (ltb-true k (length xs) e)

is_some-placed_where : {X : Type 0} (p : X → Bool) (xs : List X) → is_some (placed_where p xs) ≡ list_any p xs
is_some-placed_where p xs = is_some-placed_at xs (position_or_len p xs) (nat_lt (position_or_len p xs) (length xs)) refl ∙ is_some-position p xs

is_some-find : {X : Type 0} (p : X → Bool) (xs : List X) → is_some (find p xs) ≡ list_any p xs
is_some-find p [] = refl
is_some-find p (x ∷ xs) = by_test (p x) x (find p xs) (list_any p xs) (is_some-find p xs)

-- tests that agree find the same
pub list_any-ext : {X : Type 0} (p q : X → Bool) → ((x : X) → p x ≡ q x) → (xs : List X) → list_any p xs ≡ list_any q xs
list_any-ext p q same [] = refl
list_any-ext p q same (x ∷ xs) = ap (λ b. b || list_any p xs) (same x) ∙ ap (λ b. q x || b) (list_any-ext p q same xs)

list_any-map : {X Y : Type 0} (p : Y → Bool) (f : X → Y) (xs : List X) → list_any (λ x. p (f x)) xs ≡ list_any p (map f xs)
list_any-map p f [] = refl
list_any-map p f (x ∷ xs) = ap (λ b. p (f x) || b) (list_any-map p f xs)

pub account_known : (w : World) (x : Account) → is_some (account_by_key w x.authenticator) ≡ list_any (same_account x) w.accounts
account_known w x =
    is_some-placed_where (λ (a : Account). bytes_eq a.authenticator x.authenticator) w.accounts
    ∙ list_any-ext _ (same_account x) (λ (a : Account). nat_list_eq_equiv.symm a.authenticator x.authenticator) w.accounts

pub app_known : (w : World) (x : App) → is_some (app_by_name w x.name) ≡ list_any (same_app x) w.apps
app_known w x =
    is_some-placed_where (λ (a : App). bytes_eq a.name x.name) w.apps
    ∙ list_any-ext _ (same_app x) (λ (a : App). nat_list_eq_equiv.symm a.name x.name) w.apps

version_swap : (x v : Version) → is_version x.app x.platform x.version_num v ≡ same_version x v
version_swap x v =
    ap (λ b. b && bytes_eq v.platform x.platform && (v.version_num == x.version_num)) (nat_list_eq_equiv.symm v.app x.app)
    ∙ ap (λ b. bytes_eq x.app v.app && b && (v.version_num == x.version_num)) (nat_list_eq_equiv.symm v.platform x.platform)
    ∙ ap (λ b. bytes_eq x.app v.app && bytes_eq x.platform v.platform && b) (nat_eq_equiv.symm v.version_num x.version_num)

pub version_known : (w : World) (x : Version) → is_some (version_by_key w x.app x.platform x.version_num) ≡ list_any (same_version x) w.versions
version_known w x =
    is_some-find (is_version x.app x.platform x.version_num) w.versions
    ∙ list_any-ext _ (same_version x) (version_swap x) w.versions

pub unit_known : (w : World) (x : Workunit) → is_some (unit_named w x.name) ≡ list_any (same_unit x) (map (λ (b : UnitBook). imported b.unit) w.units)
unit_known w x =
    is_some-place_where (λ (b : UnitBook). bytes_eq b.unit.name x.name) w.units
    ∙ list_any-ext _ (λ (b : UnitBook). same_unit x b.unit) (λ (b : UnitBook). nat_list_eq_equiv.symm b.unit.name x.name) w.units
    ∙ list_any-map (same_unit x) (λ (b : UnitBook). imported b.unit) w.units

is_none-not : {X : Type 0} (o : Option X) → is_none o ≡ not (is_some o)
is_none-not None = refl
is_none-not (Some x) = refl

pub app_lacking : (w : World) (name : List ℕ) → is_none (app_by_name w name) ≡ not (has_app w.apps name)
app_lacking w name =
    is_none-not (app_by_name w name) ∙ ap not (is_some-placed_where (λ (a : App). bytes_eq a.name name) w.apps)
