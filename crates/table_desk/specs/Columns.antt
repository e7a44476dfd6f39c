-- Rule. What the counted columns say.
use Rattle.std.specs.Prelude.{ℕ, length, Option, option_map}
use Rattle.sched_book.specs.Places.{host_at, held_by, host_credit}
use Rattle.sched_book.specs.declared.world.World.{World}
use Rattle.table_desk.specs.declared.hosts.CountedHost.{CountedHost}

-- the host of a number, with how many instances it holds and its credit
abbrev pub counted_host_at : World → ℕ → Option CountedHost
counted_host_at w number = option_map (λ h. record { row = h; held = length (held_by w number); credit = host_credit w number }) (host_at w number)
