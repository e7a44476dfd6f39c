-- An import whose rows were checked keeps a sound world sound.
use Rattle.std.proofs.Common.{◌≡◌, ◌≢◌, ℕ, ◌+◌, ◌≤◌, List, [], ◌∷◌, ◌++◌, length, map, get_or, All, AllPairs, None, sym, refl, ap, ◌∙◌, subst, arith, length-append}
use Rattle.std.specs.Prelude.{IsTrue}
use Rattle.std.proofs.lemmas.List.{length-map}
use Rattle.std.proofs.lemmas.List.Elements.{All-append, All-head, All-map, All-tail}
use Rattle.sched_book.specs.Classes.{imported}
use Rattle.sched_book.specs.Count.{is_open, status}
use Rattle.sched_book.specs.Imports.{shelf_of, shelved, same_account, same_app, same_version, same_unit, duplicate_at, unknown_at, has_room, AreChecked, new_unit, with_rows}
use Rattle.sched_book.specs.Limits.{most_workunits, IsAccountInLimits, IsAppInLimits, IsVersionInLimits, IsNewUnit}
use Rattle.sched_book.specs.Sound.{IsSoundUnit, IsSoundHost, IsSoundVersion, Sound}
use Rattle.sched_book.specs.declared.instance.UnitBook.{UnitBook}
use Rattle.sched_book.specs.declared.rows.Account.{Account}
use Rattle.sched_book.specs.declared.rows.App.{App}
use Rattle.sched_book.specs.declared.rows.HostRow.{HostRow}
use Rattle.sched_book.specs.declared.rows.Rows.{Rows}
use Rattle.sched_book.specs.declared.rows.Rows.TheVariants as rows
use Rattle.sched_book.specs.declared.rows.Version.{Version}
use Rattle.sched_book.specs.declared.rows.Workunit.{Workunit}
use Rattle.sched_book.specs.declared.world.World.{World}
use Rattle.sched_book.proofs.ByPlace.{all_get}
use Rattle.sched_machine.specs.Laws.{ImportKeepsSound}
use Rattle.sched_machine.proofs.Rows.Kept.{rows_kept}
use Rattle.sched_machine.proofs.Rows.Listed.{all_from, pairs_map, pairs_of_map}
use Rattle.sched_machine.proofs.Rows.Named.{no_fault, new_names, other_text, other_version, named_apps, HasRoom, room_from, app_stays, agreement_stays}
use Rattle.sched_machine.proofs.Rows.Fresh.{new_unit_is_sound}

-- an import that is not refused, by its parts
record IsUnrefused (w : World) (new : Rows) : Type 0 where
  new_ones : duplicate_at (shelf_of w) new ≡ None
  known_apps : unknown_at (shelf_of w) new ≡ None
  room : HasRoom (shelved (shelf_of w) new)

unrefused : (w : World) (new : Rows) → AreChecked w new → IsUnrefused w new
unrefused w new checked =
    let parts = no_fault (duplicate_at (shelf_of w) new) (unknown_at (shelf_of w) new) (has_room (shelved (shelf_of w) new)) checked.unrefused in
    record { new_ones = parts.0; known_apps = parts.1; room = room_from (shelved (shelf_of w) new) parts.2 }

-- a host stays sound with more accounts, a workunit and a version with more applications
host_stays : (accounts more : List Account) (limit : ℕ) (h : HostRow) → IsSoundHost (length accounts) limit h → IsSoundHost (length (accounts ++ more)) limit h
host_stays accounts more limit h sound = record {
  account = (sound.account.0, let long : length (accounts ++ more) ≡ length accounts + length more = length-append accounts more in omega (arith, sound.account.1));
  limits = sound.limits;
}

unit_stays : (hosts : List HostRow) (apps more : List App) (b : UnitBook) → IsSoundUnit hosts apps b → IsSoundUnit hosts (apps ++ more) b
unit_stays hosts apps more b sound = record {
  satisfied = λ is_it. sound.satisfied (subst (λ a. IsTrue (is_open (status a b.unit b.instances))) (agreement_stays apps more b.unit.app sound.well.app) is_it);
  classed = sound.classed;
  well = record {
    one_for_each_user = sound.well.one_for_each_user;
    places = sound.well.places;
    in_range = sound.well.in_range;
    bare = sound.well.bare;
    owners = sound.well.owners;
    app = app_stays apps more b.unit.app sound.well.app;
    few = sound.well.few;
    limits = sound.well.limits;
    instances = sound.well.instances;
  };
}

version_stays : (apps more : List App) (v : Version) → IsSoundVersion apps v → IsSoundVersion (apps ++ more) v
version_stays apps more v sound = record { app = app_stays apps more v.app sound.app; limits = sound.limits }

-- the rows of the workunits, old and new
unit_rows : (bs : List UnitBook) (us : List Workunit) → All (λ (u : Workunit). imported u ≡ u) us
    → map (λ (b : UnitBook). imported b.unit) (bs ++ map new_unit us) ≡ map (λ (b : UnitBook). imported b.unit) bs ++ us
unit_rows [] [] first = refl
unit_rows [] (u ∷ us) first =
    ap (λ (x : Workunit). x ∷ map (λ (b : UnitBook). imported b.unit) (map new_unit us)) (All-head (λ (u : Workunit). imported u ≡ u) u us first)
    ∙ ap (λ xs. u ∷ xs) (unit_rows [] us (All-tail (λ (u : Workunit). imported u ≡ u) u us first))
unit_rows (b ∷ bs) us first = ap (λ xs. imported b.unit ∷ xs) (unit_rows bs us first)

-- each kind of rows
module _ (w : World) (sound : Sound w) where
  accounts_added : (xs : List Account) → AreChecked w (rows.Accounts xs) → Sound (with_rows w (rows.Accounts xs))
  accounts_added xs checked =
      let free = unrefused w (rows.Accounts xs) checked in
      record {
        rows = record {
          settings = sound.rows.settings;
          accounts = All-append IsAccountInLimits w.accounts xs sound.rows.accounts checked.in_limits;
          apps = sound.rows.apps;
          versions = sound.rows.versions;
          hosts = λ k d within. host_stays w.accounts xs w.settings.daily_result_quota (get_or w.hosts k d) (sound.rows.hosts k d within);
          account_names = new_names same_account (λ a b. a.authenticator ≢ b.authenticator) (λ a b fails. other_text a.authenticator b.authenticator fails)
              1 w.accounts xs free.new_ones sound.rows.account_names;
          app_names = sound.rows.app_names;
          version_names = sound.rows.version_names;
          unit_names = sound.rows.unit_names;
          host_keys = sound.rows.host_keys;
          account_count = free.room.accounts;
          app_count = sound.rows.app_count;
          version_count = sound.rows.version_count;
          unit_count = sound.rows.unit_count;
          host_count = sound.rows.host_count;
        };
        units = sound.units;
      }

  apps_added : (xs : List App) → AreChecked w (rows.Apps xs) → Sound (with_rows w (rows.Apps xs))
  apps_added xs checked =
      let free = unrefused w (rows.Apps xs) checked in
      record {
        rows = record {
          settings = sound.rows.settings;
          accounts = sound.rows.accounts;
          apps = All-append IsAppInLimits w.apps xs sound.rows.apps checked.in_limits;
          versions = λ k d within. version_stays w.apps xs (get_or w.versions k d) (sound.rows.versions k d within);
          hosts = sound.rows.hosts;
          account_names = sound.rows.account_names;
          app_names = new_names same_app (λ a b. a.name ≢ b.name) (λ a b fails. other_text a.name b.name fails) 1 w.apps xs free.new_ones sound.rows.app_names;
          version_names = sound.rows.version_names;
          unit_names = sound.rows.unit_names;
          host_keys = sound.rows.host_keys;
          account_count = sound.rows.account_count;
          app_count = free.room.apps;
          version_count = sound.rows.version_count;
          unit_count = sound.rows.unit_count;
          host_count = sound.rows.host_count;
        };
        units = λ k d within. unit_stays w.hosts w.apps xs (get_or w.units k d) (sound.units k d within);
      }

  versions_added : (xs : List Version) → AreChecked w (rows.Versions xs) → Sound (with_rows w (rows.Versions xs))
  versions_added xs checked =
      let free = unrefused w (rows.Versions xs) checked in
      record {
        rows = record {
          settings = sound.rows.settings;
          accounts = sound.rows.accounts;
          apps = sound.rows.apps;
          versions = All-append (IsSoundVersion w.apps) w.versions xs sound.rows.versions (all_from (IsSoundVersion w.apps) xs (λ i v there. record {
            app = named_apps (λ (v : Version). v.app) w.apps xs free.known_apps i v there;
            limits = all_get IsVersionInLimits xs i v checked.in_limits there;
          }));
          hosts = sound.rows.hosts;
          account_names = sound.rows.account_names;
          app_names = sound.rows.app_names;
          version_names = new_names same_version (λ a b. IsTrue (same_version a b) → ⊥) other_version 1 w.versions xs free.new_ones sound.rows.version_names;
          unit_names = sound.rows.unit_names;
          host_keys = sound.rows.host_keys;
          account_count = sound.rows.account_count;
          app_count = sound.rows.app_count;
          version_count = free.room.versions;
          unit_count = sound.rows.unit_count;
          host_count = sound.rows.host_count;
        };
        units = sound.units;
      }

  units_added : (us : List Workunit) → AreChecked w (rows.Workunits us) → Sound (with_rows w (rows.Workunits us))
  units_added us checked =
      let free = unrefused w (rows.Workunits us) checked in
      record {
        rows = rows_kept w (w.units ++ map new_unit us) sound.rows
            (pairs_of_map (λ (b : UnitBook). imported b.unit) (λ a b. a.name ≢ b.name) (w.units ++ map new_unit us)
            (subst (AllPairs (λ a b. a.name ≢ b.name)) (sym (unit_rows w.units us first))
            (new_names same_unit (λ a b. a.name ≢ b.name) (λ a b fails. other_text a.name b.name fails) 1 (map (λ (b : UnitBook). imported b.unit) w.units) us free.new_ones
            (pairs_map (λ (b : UnitBook). imported b.unit) (λ a b. a.name ≢ b.name) w.units sound.rows.unit_names))))
            (units_fit free.room.units);
        units = All-append (IsSoundUnit w.hosts w.apps) w.units (map new_unit us) sound.units
            (All-map (IsSoundUnit w.hosts w.apps) new_unit us (all_from (λ u. IsSoundUnit w.hosts w.apps (new_unit u)) us (λ i u there.
            new_unit_is_sound w.hosts w.apps u (all_get IsNewUnit us i u checked.in_limits there).limits
            (named_apps (λ (u : Workunit). u.app) w.apps us free.known_apps i u there))));
      }
    where
      -- none has a class yet
      first : All (λ (u : Workunit). imported u ≡ u) us
      first = λ k d within. (checked.in_limits k d within).first

      units_fit : length (map (λ (b : UnitBook). imported b.unit) w.units ++ us) ≤ most_workunits → length (w.units ++ map new_unit us) ≤ most_workunits
      units_fit short =
          let same : length (map (λ (b : UnitBook). imported b.unit) (w.units ++ map new_unit us)) ≡ length (map (λ (b : UnitBook). imported b.unit) w.units ++ us) =
          ap length (unit_rows w.units us first) in
          let long : length (map (λ (b : UnitBook). imported b.unit) (w.units ++ map new_unit us)) ≡ length (w.units ++ map new_unit us) =
          length-map (w.units ++ map new_unit us) (λ (b : UnitBook). imported b.unit) in
          omega arith

pub rows_added : (w : World) (new : Rows) → Sound w → AreChecked w new → Sound (with_rows w new)
rows_added w (rows.Accounts xs) sound checked = accounts_added w sound xs checked
rows_added w (rows.Apps xs) sound checked = apps_added w sound xs checked
rows_added w (rows.Versions xs) sound checked = versions_added w sound xs checked
rows_added w (rows.Workunits xs) sound checked = units_added w sound xs checked

pub import_keeps_sound : ImportKeepsSound
import_keeps_sound w after new count sound step = subst Sound (sym step.left) (rows_added w new sound step.checked)
