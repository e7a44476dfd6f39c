-- Changes that fit keep every table within its bounds.
use Rattle.std.proofs.Common.{◌≡◌, ℕ, zero, suc, ◌+◌, ◌-◌, ◌<◌, ◌≤◌, Bool, true, false, cond, eqb, ltb, List, [], ◌∷◌, ◌++◌, length, set, sym, refl, subst, arith, length-append, ◌∙◌}
use Rattle.std.specs.Prelude.{All, IsTrue, map, replicate}
use Rattle.std.proofs.lemmas.List.{length-set, length-replicate}
use Rattle.std.proofs.lemmas.List.Elements.{All-append, All-cons, All-tail}
use borrow.Author.Tests.{ltb-false}
use Rattle.sched_book.specs.Classes.{with_class}
use Rattle.sched_book.specs.Settle.{fresh}
use Rattle.sched_book.specs.Imports.{new_unit, has_app, with_rows}
use Rattle.sched_book.specs.Limits.{most_hosts, most_instances, IsBounded, IsUnitInLimits}
use Rattle.sched_book.specs.Reports.{modify_at, modify_nth}
use Rattle.sched_book.specs.Delta.{set_at, set_nth, with_instance, edited_one, EditFits, edited, EditsFit, RowsFit, applied}
use Rattle.sched_book.specs.Laws.{FittingKeepsBounds}
use Rattle.sched_book.specs.declared.delta.Delta.{Delta}
use Rattle.sched_book.specs.declared.delta.Delta.TheVariants as delta
use Rattle.sched_book.specs.declared.delta.Edit.{Edit}
use Rattle.sched_book.specs.declared.delta.Edit.TheVariants as edit
use Rattle.sched_book.specs.declared.instance.UnitBook.{UnitBook}
use Rattle.sched_book.specs.declared.rows.App.{App}
use Rattle.sched_book.specs.declared.rows.Rows.{Rows}
use Rattle.sched_book.specs.declared.rows.Rows.TheVariants as rows
use Rattle.sched_book.specs.declared.rows.Workunit.{Workunit}
use Rattle.sched_book.specs.declared.world.World.{World}
use Rattle.sched_book.proofs.PlacesOf.{length-modify_nth}

-- with one more element a list that has room stays within the limit
pushed : {X : Type 0} (xs : List X) (x : X) (limit : ℕ) → length xs < limit → length (xs ++ x ∷ []) ≤ limit
pushed xs x limit room = let long : length (xs ++ x ∷ []) ≡ length xs + 1 = length-append xs (x ∷ []) in omega arith

-- with an element put at an index below the limit, a list stays within it
put_within : {X : Type 0} (xs : List X) (i : ℕ) (x : X) (limit : ℕ) → length xs ≤ limit → i < limit → length (set_at xs i x) ≤ limit
put_within xs i x limit short below = cases (ltb i (length xs)) refl
  where
    cases : (b : Bool) → ltb i (length xs) ≡ b → length (cond b (set xs i x) (xs ++ x ∷ [])) ≤ limit
    cases true is = let same : length (set xs i x) ≡ length xs = length-set xs i x in omega arith
    cases false is = pushed xs x limit (let past : length xs ≤ i = ltb-false i (length xs) is in omega arith)

pub all_changed_at : {X : Type 0} (P : X → Type 0) (f : X → X) → ((x : X) → P x → P (f x)) → (xs : List X) (i : ℕ) → All P xs → All P (modify_at f xs i)
all_changed_at P f keeps [] i all = all
all_changed_at P f keeps (x ∷ xs) zero all = All-cons P (f x) xs (keeps x (all 0 x (omega arith))) (All-tail P x xs all)
all_changed_at P f keeps (x ∷ xs) (suc i) all =
    All-cons P x (modify_at f xs i) (all 0 x (omega arith)) (all_changed_at P f keeps xs i (All-tail P x xs all))

pub all_changed_nth : {X : Type 0} (P : X → Type 0) (f : X → X) → ((x : X) → P x → P (f x)) → (xs : List X) (n : ℕ) → All P xs → All P (modify_nth f xs n)
all_changed_nth P f keeps xs n all = cases (eqb n 0)
  where
    cases : (b : Bool) → All P (cond b xs (modify_at f xs (n - 1)))
    cases true = all
    cases false = all_changed_at P f keeps xs (n - 1) all

abbrev HasFew : UnitBook → Type 0
HasFew b = length b.instances ≤ most_instances

-- a host put at an existing number or the next
hosts_within : {X : Type 0} (xs : List X) (n : ℕ) (x : X) → length xs ≤ most_hosts → n ≤ most_hosts → length (set_nth xs n x) ≤ most_hosts
hosts_within xs zero x short low = short
hosts_within xs (suc i) x short low = cases (eqb (suc i) 0)
  where
    cases : (b : Bool) → length (cond b xs (set_at xs (suc i - 1) x)) ≤ most_hosts
    cases true = short
    cases false = put_within xs (suc i - 1) x most_hosts short (omega arith)

fitting_keeps_one : (w : World) (c : Edit) → w.settings.max_hosts ≤ most_hosts → IsBounded w → EditFits w c → IsBounded (edited_one w c)
fitting_keeps_one w (edit.Host number h) limit bounded fits = record {
  hosts = hosts_within w.hosts number h bounded.hosts (omega (arith, fits.2));
  accounts = bounded.accounts;
  apps = bounded.apps;
  versions = bounded.versions;
  units = bounded.units;
  instances = bounded.instances;
}
fitting_keeps_one w (edit.Instance p x) limit bounded fits = record {
  units = let same : length (modify_nth (with_instance p.number x) w.units p.unit) ≡ length w.units = length-modify_nth (with_instance p.number x) w.units p.unit in omega (arith, bounded.units);
  instances = all_changed_nth HasFew (with_instance p.number x) (λ b few. put_within b.instances p.number x most_instances few fits.1) w.units p.unit bounded.instances;
  accounts = bounded.accounts;
  apps = bounded.apps;
  versions = bounded.versions;
  hosts = bounded.hosts;
}
fitting_keeps_one w (edit.Class unit class) limit bounded fits = record {
  units = let same : length (modify_nth (with_class class) w.units unit) ≡ length w.units = length-modify_nth (with_class class) w.units unit in omega (arith, bounded.units);
  instances = all_changed_nth HasFew (with_class class) (λ b few. few) w.units unit bounded.instances;
  accounts = bounded.accounts;
  apps = bounded.apps;
  versions = bounded.versions;
  hosts = bounded.hosts;
}

-- the settings stay
pub settings_stay : (w : World) (c : Edit) → (edited_one w c).settings ≡ w.settings
settings_stay w (edit.Host number h) = refl
settings_stay w (edit.Instance p x) = refl
settings_stay w (edit.Class unit class) = refl

pub all_settings_stay : (w : World) (cs : List Edit) → (edited w cs).settings ≡ w.settings
all_settings_stay w [] = refl
all_settings_stay w (c ∷ cs) = all_settings_stay (edited_one w c) cs ∙ settings_stay w c

-- edits bring no applications
apps_stay : (w : World) (c : Edit) → (edited_one w c).apps ≡ w.apps
apps_stay w (edit.Host number h) = refl
apps_stay w (edit.Instance p x) = refl
apps_stay w (edit.Class unit class) = refl

pub all_apps_stay : (w : World) (cs : List Edit) → (edited w cs).apps ≡ w.apps
all_apps_stay w [] = refl
all_apps_stay w (c ∷ cs) = all_apps_stay (edited_one w c) cs ∙ apps_stay w c

edits_keep_bounds : (w : World) (edits : List Edit) → w.settings.max_hosts ≤ most_hosts → IsBounded w → EditsFit w edits → IsBounded (edited w edits)
edits_keep_bounds w [] limit bounded fits = bounded
edits_keep_bounds w (c ∷ cs) limit bounded fits =
    edits_keep_bounds (edited_one w c) cs (subst (λ s. s.max_hosts ≤ most_hosts) (sym (settings_stay w c)) limit)
    (fitting_keeps_one w c limit bounded fits.0) fits.1

-- new workunits have few instances
new_ones_few : (apps : List App) (us : List Workunit) → All (λ (u : Workunit). IsTrue (has_app apps u.app) × IsUnitInLimits u) us → All HasFew (map new_unit us)
new_ones_few apps [] limits = λ k d within. absurd (omega arith)
new_ones_few apps (u ∷ us) limits =
    All-cons HasFew (new_unit u) (map new_unit us)
    (let long : length (replicate u.target_nresults fresh) ≡ u.target_nresults = length-replicate u.target_nresults fresh in omega (arith, (limits 0 u (omega arith)).1.target.1))
    (new_ones_few apps us (All-tail (λ (v : Workunit). IsTrue (has_app apps v.app) × IsUnitInLimits v) u us limits))

rows_keep_bounds : (w : World) (new : Rows) → IsBounded w → RowsFit w new → IsBounded (with_rows w new)
rows_keep_bounds w (rows.Accounts xs) bounded fits = record {
  accounts = fits.0;
  apps = bounded.apps;
  versions = bounded.versions;
  hosts = bounded.hosts;
  units = bounded.units;
  instances = bounded.instances;
}
rows_keep_bounds w (rows.Apps xs) bounded fits = record {
  apps = fits.0;
  accounts = bounded.accounts;
  versions = bounded.versions;
  hosts = bounded.hosts;
  units = bounded.units;
  instances = bounded.instances;
}
rows_keep_bounds w (rows.Versions xs) bounded fits = record {
  versions = fits.0;
  accounts = bounded.accounts;
  apps = bounded.apps;
  hosts = bounded.hosts;
  units = bounded.units;
  instances = bounded.instances;
}
rows_keep_bounds w (rows.Workunits xs) bounded fits = record {
  units = fits.0;
  instances = All-append HasFew w.units (map new_unit xs) bounded.instances (new_ones_few w.apps xs fits.1);
  accounts = bounded.accounts;
  apps = bounded.apps;
  versions = bounded.versions;
  hosts = bounded.hosts;
}

pub fitting_keeps_bounds : FittingKeepsBounds
fitting_keeps_bounds w (delta.Rows new) limit bounded fits = rows_keep_bounds w new bounded fits
fitting_keeps_bounds w (delta.Edits edits) limit bounded fits = edits_keep_bounds w edits limit bounded fits

pub settings_stay_in : (w : World) (changes : Delta) → (applied w changes).settings ≡ w.settings
settings_stay_in w (delta.Rows (rows.Accounts xs)) = refl
settings_stay_in w (delta.Rows (rows.Apps xs)) = refl
settings_stay_in w (delta.Rows (rows.Versions xs)) = refl
settings_stay_in w (delta.Rows (rows.Workunits xs)) = refl
settings_stay_in w (delta.Edits edits) = all_settings_stay w edits
