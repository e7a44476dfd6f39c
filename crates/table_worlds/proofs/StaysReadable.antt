-- The rows of a sound world determine it. This stays true after changes whose rows can be read back.
use Rattle.std.proofs.Common.{◌≡◌, ◌≤◌, ℕ, Bool, true, false, ◌||◌, cond, List, [], ◌∷◌, ◌++◌, length, map, refl, sym, subst, ap, ◌∙◌, arith}
use Rattle.std.specs.Prelude.{All, ◌==◌, ◌-◌, nat_le, nat_lt, slice_set}
use Rattle.std.specs.List.{list_all, list_any}
use Rattle.std.specs.Str.{bytes_eq}
use Rattle.std.proofs.lemmas.Bool.{and_parts}
use Rattle.std.proofs.lemmas.Bool.Decides.{nat_tests}
use Rattle.std.proofs.lemmas.List.Elements.{All-append, All-map, All-push, All-set, All-weaker}
use Rattle.std.proofs.lemmas.List.Folds.{list_any-append}
use Rattle.std.proofs.lemmas.List.Sums.{AllPass-from_list_all}
use Rattle.texts.specs.Words.{is_word, IsWord}
use Rattle.sched_book.specs.Classes.{with_class}
use Rattle.sched_book.specs.Delta.{set_nth, with_instance, edited_one}
use Rattle.sched_book.specs.Imports.{has_app, new_unit}
use Rattle.sched_book.specs.Sound.{IsSoundHost, IsSoundUnit, IsSoundVersion}
use Rattle.sched_book.specs.declared.delta.Edit.{Edit}
use Rattle.sched_book.specs.declared.delta.Edit.TheVariants as edit
use Rattle.sched_book.specs.declared.instance.UnitBook.{UnitBook}
use Rattle.sched_book.specs.declared.rows.App.{App}
use Rattle.sched_book.specs.declared.rows.HostRow.{HostRow}
use Rattle.sched_book.specs.declared.rows.Rows.TheVariants as rows
use Rattle.sched_book.specs.declared.rows.Version.{Version}
use Rattle.sched_book.specs.declared.rows.Workunit.{Workunit}
use Rattle.sched_book.specs.declared.world.World.{World}
use Rattle.sched_book.proofs.Fitting.{all_changed_nth}
use Rattle.table_worlds.specs.Readable.{IsReadable, are_words, gives_words, SoundIsReadable, StaysReadable, RowsStayReadable}

-- ---- the conditions on versions, workunits and hosts

abbrev NamesApp : List App → Version → Type 0
NamesApp apps v = has_app apps v.app ≡ true

abbrev IsOfApp : List App → UnitBook → Type 0
IsOfApp apps b = has_app apps b.unit.app ≡ true

abbrev HasWords : HostRow → Type 0
HasWords h = (1 ≤ length h.platforms) × All IsWord h.platforms

-- the rows of a sound world determine it
pub sound_is_readable : SoundIsReadable
sound_is_readable w sound = record {
  versions = All-weaker (IsSoundVersion w.apps) (NamesApp w.apps) (λ v s. s.app) w.versions sound.rows.versions;
  units = All-weaker (IsSoundUnit w.hosts w.apps) (IsOfApp w.apps) (λ b s. s.well.app) w.units sound.units;
  hosts = All-weaker (IsSoundHost (length w.accounts) w.settings.daily_result_quota) HasWords (λ h s. (s.limits.platforms.0, s.limits.words)) w.hosts sound.rows.hosts;
}

-- ---- lists that change

-- what holds for all items of a list holds for them after one is put at a place
all_put : {X : Type 0} (P : X → Type 0) (xs : List X) (n : ℕ) (x : X) → All P xs → P x → All P (set_nth xs n x)
all_put P xs n x all one = at_place (n == 0) (nat_lt (n - 1) (length xs))
  where
    at_place : (none within : Bool) → All P (cond none xs (cond within (slice_set xs (n - 1) x) (xs ++ x ∷ [])))
    at_place true within = all
    at_place false true = All-set P xs (n - 1) x one all
    at_place false false = All-push P xs x all one

-- an application of a list is one of a longer list
still_has : (apps more : List App) (name : List ℕ) → has_app apps name ≡ true → has_app (apps ++ more) name ≡ true
still_has apps more name has =
    let p : App → Bool = λ b. bytes_eq b.name name in
    list_any-append p apps more ∙ ap (λ b. b || list_any p more) has

-- words by the test of words
words_by_test : (words : List (List ℕ)) → are_words words ≡ true → (1 ≤ length words) × All IsWord words
words_by_test words pass =
    let parts = and_parts (nat_le 1 (length words)) (list_all is_word words) pass in
    let some : nat_le 1 (length words) ≡ true = parts.0 in
    (grind (arith, nat_tests, some), AllPass-from_list_all is_word words parts.1)

-- ---- edits

module _ (w : World) (readable : IsReadable w) where
  units_after : (e : Edit) → All (IsOfApp w.apps) (edited_one w e).units
  units_after (edit.Host number h) = readable.units
  units_after (edit.Instance p x) = all_changed_nth (IsOfApp w.apps) (with_instance p.number x) (λ b has. has) w.units p.unit readable.units
  units_after (edit.Class unit class) = all_changed_nth (IsOfApp w.apps) (with_class class) (λ b has. has) w.units unit readable.units

  hosts_after : (e : Edit) → gives_words e ≡ true → All HasWords (edited_one w e).hosts
  hosts_after (edit.Host number h) pass = all_put HasWords w.hosts number h readable.hosts (words_by_test h.platforms pass)
  hosts_after (edit.Instance p x) pass = readable.hosts
  hosts_after (edit.Class unit class) pass = readable.hosts

  versions_after : (e : Edit) → All (NamesApp (edited_one w e).apps) (edited_one w e).versions
  versions_after (edit.Host number h) = readable.versions
  versions_after (edit.Instance p x) = readable.versions
  versions_after (edit.Class unit class) = readable.versions

  apps_after : (e : Edit) → (edited_one w e).apps ≡ w.apps
  apps_after (edit.Host number h) = refl
  apps_after (edit.Instance p x) = refl
  apps_after (edit.Class unit class) = refl

  after_one : (e : Edit) → gives_words e ≡ true → IsReadable (edited_one w e)
  after_one e pass = record {
    versions = versions_after e;
    units = subst (λ apps. All (IsOfApp apps) (edited_one w e).units) (sym (apps_after e)) (units_after e);
    hosts = hosts_after e pass;
  }

pub stays_readable : StaysReadable
stays_readable w [] readable pass = readable
stays_readable w (e ∷ es) readable pass =
    let parts = and_parts (gives_words e) (list_all gives_words es) pass in
    stays_readable (edited_one w e) es (after_one w readable e parts.0) parts.1

-- ---- new rows

pub rows_stay_readable : RowsStayReadable
rows_stay_readable w (rows.Accounts xs) readable pass = record { versions = readable.versions; units = readable.units; hosts = readable.hosts }
rows_stay_readable w (rows.Apps xs) readable pass = record {
  versions = All-weaker (NamesApp w.apps) (NamesApp (w.apps ++ xs)) (λ v has. still_has w.apps xs v.app has) w.versions readable.versions;
  units = All-weaker (IsOfApp w.apps) (IsOfApp (w.apps ++ xs)) (λ b has. still_has w.apps xs b.unit.app has) w.units readable.units;
  hosts = readable.hosts;
}
rows_stay_readable w (rows.Versions xs) readable pass = record {
  versions = All-append (NamesApp w.apps) w.versions xs readable.versions (AllPass-from_list_all (λ (v : Version). has_app w.apps v.app) xs pass);
  units = readable.units;
  hosts = readable.hosts;
}
rows_stay_readable w (rows.Workunits xs) readable pass = record {
  units = All-append (IsOfApp w.apps) w.units (map new_unit xs) readable.units
      (All-map (IsOfApp w.apps) new_unit xs (AllPass-from_list_all (λ (u : Workunit). has_app w.apps u.app) xs pass));
  versions = readable.versions;
  hosts = readable.hosts;
}
