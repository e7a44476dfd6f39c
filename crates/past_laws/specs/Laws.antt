-- Rule. What holds of tables that agree with a past, and through messages. (This project's own: BOINC's rules are in the machine's step.)
use Rattle.std.specs.Prelude.{◌≡◌, ◌⊎◌, ℕ, true, List, [], ◌∷◌, Some, None}
use Rattle.rpc_records.specs.Replies.{reply_text_of}
use Rattle.rpc_records.specs.declared.reply.Reply.{Reply}
use Rattle.rpc_records.specs.declared.request.Request.{Request}
use Rattle.sched_book.specs.Limits.{AreSettingsInLimits}
use Rattle.sched_book.specs.Sound.{Sound}
use Rattle.sched_book.specs.Step.{IsCaller, deadline_at}
use Rattle.sched_book.specs.declared.instance.Owner.{Owner}
use Rattle.sched_book.specs.declared.instance.Place.{Place}
use Rattle.sched_book.specs.declared.machine.Call.TheVariants as call
use Rattle.sched_book.specs.declared.machine.Caller.{Caller}
use Rattle.sched_book.specs.declared.world.World.{World}
use Rattle.pasts.specs.Many.{ServesAll}
use Rattle.pasts.specs.Messages.{Rpc, Message}
use Rattle.pasts.specs.Stands.{Heard, Past, Tables, Same, Stands, Serves, messages_in, told_by}
use Rattle.pasts.specs.declared.answer.AnswerContent.{AnswerContent}
use Rattle.pasts.specs.declared.answer.AnswerContent.TheVariants.{Good}
use Rattle.sched_machine.specs.Held.{IsHeldByName}
use Rattle.sched_machine.specs.Runs.{owner_at, IsSentAgain}

-- The tables agree with a past, and their settings are within limits.
pub record HaveStood (t : Tables) : Type 0 where
  pub settings : AreSettingsInLimits t.world.settings
  pub past : Past
  pub stands : Stands t past

abbrev pub StandsIsSound : Type 0
StandsIsSound = (t : Tables) → HaveStood t → Sound t.world

-- Suppose that two tables have the same settings, and agree with pasts of the same messages. Then they hold the same, and the answers are the
-- same.
abbrev pub TablesAreDetermined : Type 0
TablesAreDetermined =
    (one other : Tables) (past other_past : Past) → Stands one past → Stands other other_past → one.world.settings ≡ other.world.settings
    → messages_in past ≡ messages_in other_past → Same one other × (past ≡ other_past)

-- P holds of the world of such tables
abbrev pub HoldsWhereTablesStand : (World → Type 0) → Type 0
HoldsWhereTablesStand P = (t : Tables) → HaveStood t → P t.world

-- R holds between the world before a message and the world after it
abbrev pub HoldsAtAMessage : (World → World → Type 0) → Type 0
HoldsAtAMessage R = (old new : Tables) (m : Message) (answer : AnswerContent) → HaveStood old → Serves old m answer new → R old.world new.world

-- R holds between any two worlds of many messages, the earlier first: the one after some of them, and the one after more
abbrev pub HoldsOverMessages : (World → World → Type 0) → Type 0
HoldsOverMessages R =
    (old mid new : Tables) (some more : List Heard) → HaveStood old → ServesAll old some mid → ServesAll mid more new → R mid.world new.world

abbrev pub HoldsOfMessages : (World → World → Type 0) → Type 0
HoldsOfMessages R = HoldsAtAMessage R × HoldsOverMessages R

-- the later world has the settings of the earlier one
abbrev pub SettingsStay : World → World → Type 0
SettingsStay old new = new.settings ≡ old.settings

-- the message is a call of a host, which has the instance at a place sent again
pub record IsSentAgainBy (w : World) (m : Message) (p : Place) (o : Owner) : Type 0 where
  pub caller : Caller
  pub request : Request
  pub said : m.said ≡ Rpc request
  pub is_caller : IsCaller w caller request
  pub again : IsSentAgain w (call.Rpc caller request) p o

-- through a message the deadline of an instance with an owner stays, or its host's call has the instance sent again
abbrev pub DeadlinesMoveByResendsAlone : Type 0
DeadlinesMoveByResendsAlone =
    (old new : Tables) (m : Message) (answer : AnswerContent) → Serves old m answer new → (p : Place) (o : Owner) → owner_at old.world p ≡ Some o
    → (deadline_at new.world p ≡ deadline_at old.world p) ⊎ IsSentAgainBy old.world m p o

-- one of these messages is a call of a host, which has the instance at a place sent again
abbrev pub IsSentAgainBySome : (old : Tables) (more : List Heard) (new : Tables) → ServesAll old more new → Place → Owner → Type 0
IsSentAgainBySome old [] new all p o = ⊥
IsSentAgainBySome old (h ∷ more) new all p o = IsSentAgainBy old.world h.message p o ⊎ IsSentAgainBySome all.0 more new all.2 p o

-- through many messages, from any tables, the deadline stays, or a call of its host among them has the instance sent again
abbrev pub DeadlinesMoveByResendsOverMessages : Type 0
DeadlinesMoveByResendsOverMessages =
    (old new : Tables) (more : List Heard) (all : ServesAll old more new) (p : Place) (o : Owner) → owner_at old.world p ≡ Some o
    → (deadline_at new.world p ≡ deadline_at old.world p) ⊎ IsSentAgainBySome old more new all p o

-- A call of this host was answered by this reply, and its host holds just what is listed or named.
pub record IsInSight (old new : World) (r : Request) (names : List (List ℕ)) (answer : AnswerContent) : Type 0 where
  pub caller : Caller
  pub is_caller : IsCaller old caller r
  pub reply : Reply
  pub answer_is : answer ≡ Good (reply_text_of reply)
  pub held : IsHeldByName old new caller r names reply

abbrev pub NoHeldJobDropsFromSight : Type 0
NoHeldJobDropsFromSight =
    (old new : Tables) (m : Message) (answer : AnswerContent) (r : Request) (names : List (List ℕ)) → HaveStood old → m.said ≡ Rpc r
    → told_by old m.said ≡ None → Serves old m answer new → old.world.settings.resend_lost_results ≡ true → r.other_results ≡ Some names
    → IsInSight old.world new.world r names answer
