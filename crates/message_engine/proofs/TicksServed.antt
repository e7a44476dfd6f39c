-- A tick is served by its step and its commit.
use Rattle.std.proofs.Common.{◌≡◌, ℕ, ◌≤◌, sym, refl, subst}
use Rattle.std.specs.Prelude.{Result, Ok, Err, IfOk, OnOk, ⊤}
use Rattle.sched_book.specs.Delta.{applied}
use Rattle.sched_book.specs.Limits.{last_moment}
use Rattle.sched_book.specs.Step.{TickStep}
use Rattle.sched_book.specs.declared.delta.Delta.{Delta}
use Rattle.sched_book.specs.declared.machine.Answered.TheVariants as answered
use Rattle.sched_book.specs.declared.machine.Call.TheVariants as call
use Rattle.sched_book.specs.declared.world.World.{World}
use Rattle.stores.specs.Eras.{this_era}
use Rattle.stores.specs.Held.{Held, IsCommitted, IsKeptSoundly, MayBeCommitted}
use Rattle.stores.specs.declared.entry.Entry.TheVariants as entry
use Rattle.pasts.specs.Answers.{lapsed_text}
use Rattle.pasts.specs.Messages.{Tick, heard_now}
use Rattle.pasts.specs.declared.answer.AnswerContent.{AnswerContent}
use Rattle.pasts.specs.declared.answer.AnswerContent.TheVariants.{Good}
use Rattle.pasts.proofs.ByNumber.{kept_by_number}
use Rattle.message_engine.specs.Stores.{IsServed, ServesIn}
use Rattle.message_engine.proofs.EntriesKept.{step_serves, IsStep}

module _ (now count : ℕ) (delta : Delta) (old new : Held) (w : World) (world_is : old.world ≡ w) (soon : now ≤ last_moment)
    (made : IsStep (λ v. ⊤) (λ v after. TickStep v now after count) delta w) where
  tick_serves : IsKeptSoundly delta entry.Nothing old new → ServesIn (heard_now now Tick) (Good (lapsed_text count)) old new
  tick_serves done sound =
      let here = subst (IsStep (λ v. ⊤) (λ v after. TickStep v now after count) delta) (sym world_is) made in
      step_serves (heard_now now Tick) call.Tick (answered.Lapsed count) delta entry.Nothing old new
      refl tt (record { request = tt; moment = soon }) (here.step sound.world tt) (here.sound sound.world tt)
      (kept_by_number old.world (applied old.world delta) Tick call.Tick now (answered.Lapsed count) sound.world tt (here.step sound.world tt) this_era old.calls sound.hosts)
      (λ kind batch. refl) (λ says. tt) (done (record { fits = here.fits sound.world tt; newest = tt }) (here.sound sound.world tt)) sound

  pub tick_done : {E : Type 0} (result : Result AnswerContent E) → IfOk result (λ answer. answer ≡ Good (lapsed_text count))
      → OnOk result (MayBeCommitted delta entry.Nothing old → IsCommitted delta entry.Nothing old new)
      → IfOk result (λ answer. ServesIn (heard_now now Tick) answer old new)
  tick_done (Ok answer) is done = subst (λ a. ServesIn (heard_now now Tick) a old new) (sym is) (tick_serves (λ may_be soundly. done may_be))
  tick_done (Err e) is done = tt

  -- if a stop leaves the commit whole, the tick was served
  pub tick_ahead : IsKeptSoundly delta entry.Nothing old new → IsServed (heard_now now Tick) old new
  tick_ahead done = (Good (lapsed_text count), tick_serves done)
