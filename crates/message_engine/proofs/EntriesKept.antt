-- What a message does to a store: one that is answered without a step, and one whose changes and entry are committed.
use Rattle.std.proofs.Common.{◌≡◌, ℕ, List, sym, refl, ◌∙◌, subst}
use Rattle.std.specs.Prelude.{Option, Some, None}
use Rattle.reply_register.specs.declared.key.Key.{Key}
use Rattle.sched_book.specs.Delta.{applied, Fits}
use Rattle.sched_book.specs.Sound.{Sound}
use Rattle.sched_book.specs.Step.{Step}
use Rattle.sched_book.specs.declared.delta.Delta.{Delta}
use Rattle.sched_book.specs.declared.machine.Answered.{Answered}
use Rattle.sched_book.specs.declared.machine.Call.{Call}
use Rattle.sched_book.specs.declared.world.World.{World}
use Rattle.stores.specs.Held.{Held, calls_with, batches_with, IsCommitted, IsLeft}
use Rattle.stores.specs.Standing.{MayBeKept, MayStand}
use Rattle.stores.specs.declared.entry.Entry.{Entry}
use Rattle.stores.specs.declared.kind.Kind.{Kind}
use Rattle.stores.proofs.ReadsAct.{left_is}
use Rattle.pasts.specs.Answers.{body_of, kept_after, batch_after}
use Rattle.pasts.specs.ByNumber.{calls_by_number, AreOfHosts}
use Rattle.pasts.specs.Messages.{Message}
use Rattle.pasts.specs.Runs.{SaysCall, IsInLimits}
use Rattle.pasts.specs.Stands.{Same, ServesAs, told_by}
use Rattle.pasts.specs.declared.answer.AnswerContent.{AnswerContent}
use Rattle.pasts.specs.declared.answer.AnswerContent.TheVariants.{Good}
use Rattle.message_engine.specs.Stores.{tables_by, IsSoundStore, MayBeSaid, ServesIn}
use Rattle.message_engine.proofs.KeptStanding.{stands_with}

-- what is left as it was holds the same
pub left_same : (old new : Held) → IsLeft old new → Same (tables_by new) (tables_by old)
left_same old new left = record {
  world = left.world_is;
  calls = λ key. λ i. calls_by_number (left.world_is i) (λ host. left.calls_are host i) key;
  batches = left.batches_are;
}

-- and is as sound as before
pub left_sound : (old new : Held) → IsLeft old new → IsSoundStore old → IsSoundStore new
left_sound old new left = subst IsSoundStore (sym (left_is old new left))

-- and can be opened again if it could before
pub left_stands : (old new : Held) → IsLeft old new → MayStand old → MayStand new
left_stands old new left = subst MayStand (sym (left_is old new left))

-- what a commit makes is sound, if the changes and the entry make something sound
committed_sound : (delta : Delta) (e : Entry) (old new : Held) → IsCommitted delta e old new
    → IsSoundStore (record { world = applied old.world delta; calls = calls_with e old.calls; batches = batches_with e old.batches }) → IsSoundStore new
committed_sound delta e old new done = subst IsSoundStore (λ i. record {
  world = sym done.world_is i;
  calls = λ host. sym (done.calls_are host) i;
  batches = λ kind batch. sym (done.batches_are kind batch) i;
})

-- a message that is answered without a step leaves everything as it was
pub told_serves : (m : Message) (answer : AnswerContent) (old new : Held) → told_by (tables_by old) m.said ≡ Some answer → IsLeft old new → ServesIn m answer old new
told_serves m answer old new told left sound =
    let P : Option AnswerContent → Type 0 = λ o. ServesAs o (tables_by old) m answer (tables_by new) in
    record {
      serves = subst P (sym told) (refl, left_same old new left);
      sound = left_sound old new left sound;
      stands = λ says. left_stands old new left;
    }

-- A step was made of a sound world in which it is allowed. Its changes fit, and leave a sound world.
pub record IsStep (May : World → Type 0) (Steps : World → World → Type 0) (delta : Delta) (w : World) : Type 0 where
  pub step : Sound w → May w → Steps w (applied w delta)
  pub sound : Sound w → May w → Sound (applied w delta)
  pub fits : Sound w → May w → Fits w delta

-- a first-heard message is one step, and its entry is kept
pub step_serves : (m : Message) (c : Call) (answered : Answered) (delta : Delta) (e : Entry) (old new : Held)
    → told_by (tables_by old) m.said ≡ None → SaysCall m.said c → IsInLimits c m.now
    → Step old.world c m.now (applied old.world delta) answered → Sound (applied old.world delta)
    → AreOfHosts (applied old.world delta) (calls_with e old.calls)
    × ((key : Key) → calls_by_number (applied old.world delta) (calls_with e old.calls) key
    ≡ kept_after m.era key m.said (body_of answered m.said) (calls_by_number old.world old.calls key))
    → ((kind : Kind) (batch : List ℕ) → batches_with e old.batches kind batch ≡ batch_after kind batch m.said (body_of answered m.said) (old.batches kind batch))
    → (MayBeSaid m.said → MayBeKept (applied old.world delta) e)
    → IsCommitted delta e old new
    → ServesIn m (Good (body_of answered m.said)) old new
step_serves m c answered delta e old new told is_call limits step after numbered batched fits done sound =
    let P : Option AnswerContent → Type 0 = λ o. ServesAs o (tables_by old) m (Good (body_of answered m.said)) (tables_by new) in
    let Q : World → Type 0 = λ x. Step old.world c m.now x answered in
    record {
      serves = subst P (sym told) (record {
        call = c;
        answered = answered;
        is_call = is_call;
        limits = limits;
        step = subst Q (sym done.world_is) step;
        answer_is = refl;
        calls = λ key. (λ i. calls_by_number (done.world_is i) (λ host. done.calls_are host i) key) ∙ numbered.1 key;
        batches = λ kind batch. done.batches_are kind batch ∙ batched kind batch;
      });
      sound = committed_sound delta e old new done (record { world = after; hosts = numbered.0 });
      stands = λ says stood. stands_with c m.now answered delta e old new step after (fits says) done stood;
    }
