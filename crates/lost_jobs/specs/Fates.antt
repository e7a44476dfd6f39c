-- Rule. What happens to the lost jobs of a host, as its call describes it.
use Rattle.std.specs.Prelude.{ℕ, Option, Some, None, if◌then◌else◌}
use Rattle.sched_book.specs.Fits.{estimate_at}
use Rattle.sched_book.specs.Lost.{is_resent, delay_at, deadline_after}
use Rattle.sched_book.specs.Step.{deadline_at}
use Rattle.sched_book.specs.declared.instance.Place.{Place}
use Rattle.sched_book.specs.declared.rows.HostRow.{HostRow}
use Rattle.sched_book.specs.declared.world.World.{World}
use Rattle.lost_jobs.specs.declared.fates.Fate.{Fate}

-- the new deadline of a lost job that is sent again; none if it is dropped
abbrev pub resent_to : World → HostRow → ℕ → Place → Option ℕ
resent_to w h now p =
    if is_resent w h p then Some (deadline_after now (estimate_at w h p) (delay_at w p) (deadline_at w p)) else None

-- a lost job is sent again, or dropped
abbrev pub fate : World → HostRow → ℕ → Place → Fate
fate w h now p = record { place = p; resent = resent_to w h now p }
