-- What a run leaves: its settings, the rows of its imports, and the hosts of its calls' keys.
use Rattle.std.proofs.Common.{◌≡◌, ℕ, List, [], ◌∷◌, ◌++◌, map, Some, true, sym, refl, ap, ◌∙◌, subst}
use Rattle.std.specs.Prelude.{All, Result}
use Rattle.std.specs.Str.{bytes_eq}
use Rattle.std.proofs.lemmas.List.{map-append}
use Rattle.std.proofs.lemmas.List.Elements.{All-head, All-tail}
use Rattle.reply_register.specs.declared.key.Key.{Key}
use Rattle.rpc_records.specs.declared.fault.Fault.{Fault}
use Rattle.rpc_records.specs.declared.request.Request.{Request}
use Rattle.sched_book.specs.Classes.{imported}
use Rattle.sched_book.specs.Imports.{Shelf, shelf_of, shelved, new_unit, with_rows}
use Rattle.sched_book.specs.Limits.{AreRowsInLimits, IsNewUnit}
use Rattle.sched_book.specs.Step.{Step}
use Rattle.sched_book.specs.declared.instance.UnitBook.{UnitBook}
use Rattle.sched_book.specs.declared.machine.Answered.{Answered}
use Rattle.sched_book.specs.declared.machine.Answered.TheVariants as answered
use Rattle.sched_book.specs.declared.machine.Call.{Call}
use Rattle.sched_book.specs.declared.machine.Call.TheVariants as call
use Rattle.sched_book.specs.declared.machine.Caller.{Caller}
use Rattle.sched_book.specs.declared.rows.Account.{Account}
use Rattle.sched_book.specs.declared.rows.Rows.{Rows}
use Rattle.sched_book.specs.declared.rows.Rows.TheVariants as rows
use Rattle.sched_book.specs.declared.rows.Workunit.{Workunit}
use Rattle.sched_book.specs.declared.settings.Settings.{Settings}
use Rattle.sched_book.specs.declared.world.World.{World}
use Rattle.sched_book.proofs.LeftByImports.{settings_with_rows, hosts_with_rows}
use Rattle.pasts.specs.FirstHeard.{account_on, shelf_said, rows_of, with_key, keys_said, keys_of, is_first_heard}
use Rattle.pasts.specs.Leaves.{host_name, Frame, frame}
use Rattle.pasts.specs.Messages.{Said, Rpc, Import, Tick, Read, Refused, Message, key_of}
use Rattle.pasts.specs.Runs.{Turn, SaysCall, IsTurn, world_of_run, messages_of}
use Rattle.pasts.proofs.HostKeys.{AreKeys, keys_entered}
use Rattle.pasts.proofs.Places.{place-more}
use Rattle.pasts.proofs.StepLeaves.{step_leaves}

-- The settings of a world, its rows and its hosts' keys are these.
pub record Leaves (s : Settings) (w : World) (shelf : Shelf) (keys : List Key) : Type 0 where
  pub settings : w.settings ≡ s
  pub shelf_is : shelf_of w ≡ shelf
  pub are : AreKeys (shelf_of w) (map host_name w.hosts) keys

-- a world of this frame
framed : (s : Settings) (w : World) (f : Frame) (shelf : Shelf) (keys : List Key) → frame w ≡ f → f.settings ≡ s → f.shelf ≡ shelf
    → AreKeys f.shelf f.hosts keys → Leaves s w shelf keys
framed s w f shelf keys is settings shelf_is are =
    let P : Frame → Type 0 = λ g. AreKeys g.shelf g.hosts keys in record {
      settings = ap (λ (g : Frame). g.settings) is ∙ settings;
      shelf_is = ap (λ (g : Frame). g.shelf) is ∙ shelf_is;
      are = subst P (sym is) are;
    }

-- ---- an import

new_units : (us : List Workunit) → All IsNewUnit us → map (λ (b : UnitBook). imported b.unit) (map new_unit us) ≡ us
new_units [] new = refl
new_units (u ∷ us) new =
    let one : IsNewUnit u = All-head IsNewUnit u us new in
    λ i. one.first i ∷ new_units us (All-tail IsNewUnit u us new) i

pub shelf_with_rows : (w : World) (new : Rows) → AreRowsInLimits new → shelf_of (with_rows w new) ≡ shelved (shelf_of w) new
shelf_with_rows w (rows.Accounts xs) limits = refl
shelf_with_rows w (rows.Apps xs) limits = refl
shelf_with_rows w (rows.Versions xs) limits = refl
shelf_with_rows w (rows.Workunits xs) limits =
    let unit_of : UnitBook → Workunit = λ b. imported b.unit in
    ap (λ us. record { accounts = w.accounts; apps = w.apps; versions = w.versions; units = us })
    (map-append unit_of w.units (map new_unit xs) ∙ ap (λ vs. map unit_of w.units ++ vs) (new_units xs limits))

-- an account that exists keeps its place
pub account-more : (shelf : Shelf) (new : Rows) (word : List ℕ) (account : ℕ) → account_on shelf word ≡ Some account → account_on (shelved shelf new) word ≡ Some account
account-more shelf (rows.Accounts xs) word account here = place-more (λ (a : Account). bytes_eq a.authenticator word) shelf.accounts xs account here
account-more shelf (rows.Apps xs) word account here = here
account-more shelf (rows.Versions xs) word account here = here
account-more shelf (rows.Workunits xs) word account here = here

keys-more : (shelf : Shelf) (new : Rows) (names : List (ℕ × List ℕ)) (keys : List Key) → AreKeys shelf names keys → AreKeys (shelved shelf new) names keys
keys-more shelf new [] [] are = tt
keys-more shelf new [] (k ∷ keys) are = absurd are
keys-more shelf new (n ∷ names) [] are = absurd are
keys-more shelf new (n ∷ names) (k ∷ keys) are = (account-more shelf new k.authenticator n.0 are.0, are.1, keys-more shelf new names keys are.2)

-- the rows of an import are in limits
new_rows : (w after : World) (new : Rows) (now : ℕ) (answer : Answered) → Step w (call.Import new) now after answer → AreRowsInLimits new
new_rows w after new now (answered.Imported n) step = step.checked.in_limits
new_rows w after new now (answered.Rpc reply) step = absurd step
new_rows w after new now (answered.Lapsed n) step = absurd step

import_leaves : (s : Settings) (w after : World) (new : Rows) (shelf : Shelf) (keys : List Key) → Leaves s w shelf keys → AreRowsInLimits new
    → frame after ≡ frame (with_rows w new) → Leaves s after (shelved shelf new) keys
import_leaves s w after new shelf keys leaves limits is =
    let P : Shelf × List (ℕ × List ℕ) → Type 0 = λ p. AreKeys p.0 p.1 keys in
    let here : ◌≡◌ {A = Shelf × List (ℕ × List ℕ)} (shelved (shelf_of w) new, map host_name w.hosts)
    (shelf_of (with_rows w new), map host_name (with_rows w new).hosts) =
    λ i. (sym (shelf_with_rows w new limits) i, map host_name (sym (hosts_with_rows w new) i)) in
    framed s after (frame (with_rows w new)) (shelved shelf new) keys is (settings_with_rows w new ∙ leaves.settings)
    (shelf_with_rows w new limits ∙ ap (λ sh. shelved sh new) leaves.shelf_is)
    (subst P here (keys-more (shelf_of w) new (map host_name w.hosts) keys leaves.are))

-- ---- a step

abbrev LeavesMessages : Settings → World → List Message → Type 0
LeavesMessages s w messages = Leaves s w (rows_of messages) (keys_of messages)

abbrev LeavesSaid : Settings → World → Said → List Message → Type 0
LeavesSaid s w said older = Leaves s w (shelf_said said (rows_of older)) (keys_said said (keys_of older))

call_leaves : (s : Settings) (w after : World) (c : Caller) (r : Request) (now : ℕ) (answer : Answered) (older : List Message) → LeavesMessages s w older
    → Step w (call.Rpc c r) now after answer → LeavesSaid s after (Rpc r) older
call_leaves s w after c r now (answered.Rpc reply) older leaves step =
    framed s after _ (rows_of older) (with_key (key_of r) (keys_of older)) (step_leaves w after (call.Rpc c r) now (answered.Rpc reply) step)
    leaves.settings leaves.shelf_is (keys_entered w c r (keys_of older) step.caller leaves.are)
call_leaves s w after c r now (answered.Imported n) older leaves step = absurd step
call_leaves s w after c r now (answered.Lapsed n) older leaves step = absurd step

pub said_leaves : (s : Settings) (w after : World) (said : Said) (c : Call) (now : ℕ) (answer : Answered) (older : List Message) → LeavesMessages s w older
    → SaysCall said c → Step w c now after answer → LeavesSaid s after said older
said_leaves s w after (Rpc request) (call.Rpc c r) now answer older leaves is step =
    let P : Request → Type 0 = λ q. LeavesSaid s after (Rpc q) older in subst P is (call_leaves s w after c r now answer older leaves step)
said_leaves s w after (Rpc request) (call.Import new) now answer older leaves is step = absurd is
said_leaves s w after (Rpc request) call.Tick now answer older leaves is step = absurd is
said_leaves s w after (Import kind batch text read) (call.Import new) now answer older leaves is step =
    let P : Result Rows Fault → Type 0 = λ q. LeavesSaid s after (Import kind batch text q) older in
    let left = step_leaves w after (call.Import new) now answer step in
    subst P (sym is) (import_leaves s w after new (rows_of older) (keys_of older) leaves (new_rows w after new now answer step) left)
said_leaves s w after (Import kind batch text read) (call.Rpc c r) now answer older leaves is step = absurd is
said_leaves s w after (Import kind batch text read) call.Tick now answer older leaves is step = absurd is
said_leaves s w after Tick call.Tick now answer older leaves is step =
    framed s after (frame w) (rows_of older) (keys_of older) (step_leaves w after call.Tick now answer step) leaves.settings leaves.shelf_is leaves.are
said_leaves s w after Tick (call.Rpc c r) now answer older leaves is step = absurd is
said_leaves s w after Tick (call.Import new) now answer older leaves is step = absurd is
said_leaves s w after (Read tells) c now answer older leaves is step = absurd is
said_leaves s w after (Refused fault) c now answer older leaves is step = absurd is

-- ---- a run

-- each turn is a step, of a message that is first heard after the older ones
abbrev pub IsRun : Settings → List Turn → Type 0
IsRun s [] = Unit {0}
IsRun s (turn ∷ older) = (is_first_heard s (messages_of older) turn.message.said ≡ true) × IsTurn s turn older × IsRun s older

pub run_leaves : (s : Settings) (turns : List Turn) → IsRun s turns → LeavesMessages s (world_of_run s turns) (messages_of turns)
run_leaves s [] run = record { settings = refl; shelf_is = refl; are = tt }
run_leaves s (turn ∷ older) run =
    said_leaves s (world_of_run s older) turn.after turn.message.said turn.call turn.message.now turn.answered (messages_of older)
    (run_leaves s older run.2) run.1.is_call run.1.step
