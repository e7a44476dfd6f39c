-- Rule. What a desk is asked, in addition to the words of places, counts and fits.
use Rattle.std.specs.Prelude.{ℕ, ◌+◌, Bool, if◌then◌else◌, List, [], ◌∷◌, length, find, Option, option_map, option_and_then, unwrap_or}
use Rattle.std.specs.Str.{bytes_eq}
use Rattle.sched_book.specs.Places.{nth, place_where, unit_at, user_had, agreement_of, status_of}
use Rattle.sched_book.specs.Imports.{is_version}
use Rattle.sched_book.specs.declared.desk.Counts.{Counts}
use Rattle.sched_book.specs.declared.desk.Placed.{Placed}
use Rattle.sched_book.specs.declared.instance.Instance.{Instance}
use Rattle.sched_book.specs.declared.instance.Status.{Status}
use Rattle.sched_book.specs.declared.instance.UnitBook.{UnitBook}
use Rattle.sched_book.specs.declared.rows.Account.{Account}
use Rattle.sched_book.specs.declared.rows.Agreement.{Agreement}
use Rattle.sched_book.specs.declared.rows.App.{App}
use Rattle.sched_book.specs.declared.rows.Version.{Version}
use Rattle.sched_book.specs.declared.rows.Workunit.{Workunit}
use Rattle.sched_book.specs.declared.world.World.{World}

abbrev pub counts : World → Counts
counts w = record {
  accounts = length w.accounts;
  apps = length w.apps;
  versions = length w.versions;
  workunits = length w.units;
  hosts = length w.hosts;
}

-- the row at a place, with the place
abbrev pub placed_at : {X : Type 0} → List X → ℕ → Option (Placed X)
placed_at xs n = option_map (λ x. record { place = n; row = x }) (nth xs n)

-- the first row that passes, with its place
abbrev pub placed_where : {X : Type 0} → (X → Bool) → List X → Option (Placed X)
placed_where p xs = option_and_then (placed_at xs) (place_where p xs)

abbrev pub account_by_key : World → List ℕ → Option (Placed Account)
account_by_key w authenticator = placed_where (λ (a : Account). bytes_eq a.authenticator authenticator) w.accounts

abbrev pub app_by_name : World → List ℕ → Option (Placed App)
app_by_name w name = placed_where (λ (a : App). bytes_eq a.name name) w.apps

abbrev pub workunit_at : World → ℕ → Option Workunit
workunit_at w unit = option_map (λ (b : UnitBook). b.unit) (unit_at w unit)

abbrev pub agreement_at : World → ℕ → Option Agreement
agreement_at w unit = option_map (agreement_of w) (unit_at w unit)

abbrev pub unit_status : World → ℕ → Option Status
unit_status w unit = option_map (status_of w) (unit_at w unit)

-- the instances of the workunit at a place; none if there is no workunit
abbrev pub instances_at : World → ℕ → List Instance
instances_at w unit = unwrap_or (option_map (λ (b : UnitBook). b.instances) (unit_at w unit)) []

-- the places of the workunits that pass; the first one's is `place`
abbrev pub units_from : ℕ → (UnitBook → Bool) → List UnitBook → List ℕ
units_from place p [] = []
units_from place p (b ∷ bs) = if p b then place ∷ units_from (place + 1) p bs else units_from (place + 1) p bs

-- the workunits with some instance that was given to a host of the user
abbrev pub units_of_user : World → ℕ → List ℕ
units_of_user w account = units_from 1 (user_had w account) w.units

-- the version of an application for a platform with this number
abbrev pub version_by_key : World → List ℕ → List ℕ → ℕ → Option Version
version_by_key w app platform version_num = find (is_version app platform version_num) w.versions
