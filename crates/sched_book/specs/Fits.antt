-- Rule. What a host can run. The bounds are those of BOINC's workunits; how they are compared is this profile's.
use Rattle.std.specs.Prelude.{ℕ, ◌+◌, ◌-◌, ◌/◌, max, Bool, not, ◌&&◌, nat_le, if◌then◌else◌, List, [], ◌∷◌, filter, fold, Option, Some, None, option_and_then, option_map, is_some, is_none, unwrap_or}
use Rattle.std.specs.List.{list_any}
use Rattle.std.specs.Str.{bytes_eq}
use Rattle.sched_book.specs.Count.{is_open}
use Rattle.sched_book.specs.Classes.{suits}
use Rattle.sched_book.specs.Places.{nth, option_any, unit_at, status_of, user_had, passes}
use Rattle.sched_book.specs.declared.rows.HostRow.{HostRow}
use Rattle.sched_book.specs.declared.rows.Version.{Version}
use Rattle.sched_book.specs.declared.rows.Workunit.{Workunit}
use Rattle.sched_book.specs.declared.instance.Place.{Place}
use Rattle.sched_book.specs.declared.instance.UnitBook.{UnitBook}
use Rattle.sched_book.specs.declared.world.World.{World}

-- the seconds that the work takes at this speed, rounded up, and at least one
abbrev pub estimate : ℕ → ℕ → ℕ
estimate fpops p_fpops = max 1 ((fpops + p_fpops - 1) / p_fpops)

-- the seconds of the instance at a place on a host
abbrev pub estimate_at : World → HostRow → Place → ℕ
estimate_at w h p = unwrap_or (option_map (λ b. estimate b.unit.rsc_fpops_est h.p_fpops) (unit_at w p.unit)) 0

-- the newer of the best so far and one more version; the best so far if they are equal
abbrev pub newer : Option Version → Version → Option Version
newer None v = Some v
newer (Some best) v = if nat_le v.version_num best.version_num then Some best else Some v

-- the version with the greatest number; of equal ones the first
abbrev pub newest_version : List Version → Option Version
newest_version vs = fold newer None vs

abbrev pub is_version_for : List ℕ → List ℕ → Version → Bool
is_version_for app platform v = bytes_eq v.app app && bytes_eq v.platform platform

-- the newest version for the first of the platforms that has any
abbrev pub version_among : List Version → List ℕ → List (List ℕ) → Option Version
version_among versions app [] = None
version_among versions app (p ∷ platforms) =
    if is_some (newest_version (filter (is_version_for app p) versions))
    then newest_version (filter (is_version_for app p) versions)
    else version_among versions app platforms

-- the version that the host runs of the application of a name; none if there is no such application
abbrev pub version_for : World → HostRow → List ℕ → Option Version
version_for w h app = if list_any (λ a. bytes_eq a.name app) w.apps then version_among w.versions app h.platforms else None

-- the same of the application at a place
abbrev pub version_at : World → HostRow → ℕ → Option Version
version_at w h app = option_and_then (λ a. version_among w.versions a.name h.platforms) (nth w.apps app)

-- the version that the host runs of the application of the workunit at a place
abbrev pub version_at_unit : World → HostRow → ℕ → Option Version
version_at_unit w h unit = option_and_then (λ (b : UnitBook). version_for w h b.unit.app) (unit_at w unit)

-- the host has the memory, disk, speed and a version for the work, and the version suits the class that the workunit
-- keeps to
abbrev pub fits : HostRow → Workunit → Option Version → Bool
fits h u version =
    nat_le u.rsc_memory_bound h.m_nbytes && nat_le u.rsc_disk_bound h.d_free
    && nat_le (estimate u.rsc_fpops_est h.p_fpops) u.delay_bound && option_any (suits u.class_rule) version

abbrev pub unit_fits : World → HostRow → UnitBook → Bool
unit_fits w h b = fits h b.unit (version_for w h b.unit.app)

-- The workunit is open, fits the host, and no host of the user ever had an instance of it: BOINC's
-- one_result_per_user_per_wu.
abbrev pub is_for : World → HostRow → UnitBook → Bool
is_for w h b = is_open (status_of w b) && unit_fits w h b && not (user_had w h.account b)

-- an instance that the host may be given
abbrev pub is_eligible : World → HostRow → Place → Bool
is_eligible w h = passes w (λ b x. is_none x.owner && is_for w h b)
