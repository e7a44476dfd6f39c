-- There are three kinds of calls, each with its kind of answer.
use Rattle.std.proofs.Common.{ℕ}
use Rattle.rpc_records.specs.declared.reply.Reply.{Reply}
use Rattle.rpc_records.specs.declared.request.Request.{Request}
use Rattle.sched_book.specs.Step.{Step, RpcStep, TickStep, ImportStep}
use Rattle.sched_book.specs.declared.machine.Answered.{Answered}
use Rattle.sched_book.specs.declared.machine.Answered.TheVariants as answered
use Rattle.sched_book.specs.declared.machine.Call.{Call}
use Rattle.sched_book.specs.declared.machine.Call.TheVariants as call
use Rattle.sched_book.specs.declared.machine.Caller.{Caller}
use Rattle.sched_book.specs.declared.rows.Rows.{Rows}
use Rattle.sched_book.specs.declared.world.World.{World}

-- What holds of each scheduler call, of each import and of each tick holds of every step.
module _ (w after : World) (now : ℕ) (P : Call → Answered → Type 0)
    (of_call : (c : Caller) (r : Request) (reply : Reply) → RpcStep w c r now after reply → P (call.Rpc c r) (answered.Rpc reply))
    (of_import : (new : Rows) (count : ℕ) → ImportStep w new after count → P (call.Import new) (answered.Imported count))
    (of_tick : (count : ℕ) → TickStep w now after count → P call.Tick (answered.Lapsed count)) where
  pub by_call : (c : Call) (answer : Answered) → Step w c now after answer → P c answer
  by_call (call.Rpc c r) (answered.Rpc reply) step = of_call c r reply step
  by_call (call.Rpc c r) (answered.Imported count) step = absurd step
  by_call (call.Rpc c r) (answered.Lapsed count) step = absurd step
  by_call (call.Import new) (answered.Imported count) step = of_import new count step
  by_call (call.Import new) (answered.Rpc reply) step = absurd step
  by_call (call.Import new) (answered.Lapsed count) step = absurd step
  by_call call.Tick (answered.Lapsed count) step = of_tick count step
  by_call call.Tick (answered.Rpc reply) step = absurd step
  by_call call.Tick (answered.Imported count) step = absurd step
