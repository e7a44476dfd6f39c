-- Rule. What a step leaves as it was: the settings, the imported rows, and whose host each number is. (That these distinguish workunits and
-- hosts is BOINC's; that nothing is ever deleted is this project's.)
use Rattle.std.specs.Prelude.{◌≡◌, ℕ, List, map, Option, option_and_then}
use Rattle.reply_register.specs.declared.key.Key.{Key}
use Rattle.sched_book.specs.Imports.{Shelf, shelf_of, with_rows}
use Rattle.sched_book.specs.Places.{account_place, known_host}
use Rattle.sched_book.specs.Step.{Step, at_entry}
use Rattle.sched_book.specs.declared.machine.Answered.{Answered}
use Rattle.sched_book.specs.declared.machine.Call.{Call}
use Rattle.sched_book.specs.declared.machine.Call.TheVariants as call
use Rattle.sched_book.specs.declared.rows.HostRow.{HostRow}
use Rattle.sched_book.specs.declared.settings.Settings.{Settings}
use Rattle.sched_book.specs.declared.world.World.{World}

-- a host's account, and its own name for itself
abbrev pub host_name : HostRow → ℕ × List ℕ
host_name h = (h.account, h.cpid)

-- The settings, the imported rows, and the hosts by account and name.
pub record Frame : Type 0 where
  pub settings : Settings
  pub shelf : Shelf
  pub hosts : List (ℕ × List ℕ)

abbrev pub frame : World → Frame
frame w = record { settings = w.settings; shelf = shelf_of w; hosts = map host_name w.hosts }

-- what a step may change of these: a call may add its host, an import adds its rows
abbrev pub frame_after : World → Call → Frame
frame_after w (call.Rpc c r) = frame (at_entry w c r)
frame_after w (call.Import new) = frame (with_rows w new)
frame_after w call.Tick = frame w

abbrev pub StepLeavesTheRest : Type 0
StepLeavesTheRest = (w after : World) (c : Call) (now : ℕ) (answer : Answered) → Step w c now after answer → frame after ≡ frame_after w c

-- the number of the host of a key
abbrev pub host_of_key : World → Key → Option ℕ
host_of_key w key = option_and_then (λ account. known_host w account key.host_cpid) (account_place w key.authenticator)
