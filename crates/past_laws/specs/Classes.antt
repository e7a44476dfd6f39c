-- Rule. The owners of instances, in tables that agree with a past and through messages. Each got its instance by a call of its host, with a
-- version of the class that the workunit keeps to. (This project's own.)
use Rattle.std.specs.Prelude.{◌≡◌, ◌⊎◌, List, [], ◌∷◌, Some}
use Rattle.rpc_records.specs.declared.request.Request.{Request}
use Rattle.sched_book.specs.Limits.{AreSettingsInLimits}
use Rattle.sched_book.specs.Step.{IsCaller}
use Rattle.sched_book.specs.declared.instance.Owner.{Owner}
use Rattle.sched_book.specs.declared.instance.Place.{Place}
use Rattle.sched_book.specs.declared.machine.Call.TheVariants as call
use Rattle.sched_book.specs.declared.machine.Caller.{Caller}
use Rattle.sched_book.specs.declared.settings.Settings.{Settings}
use Rattle.sched_book.specs.declared.world.World.{World}
use Rattle.pasts.specs.Many.{ServesAll}
use Rattle.pasts.specs.Messages.{Rpc, Message}
use Rattle.pasts.specs.Runs.{Turn, world_of_run}
use Rattle.pasts.specs.Stands.{Heard, Past, Tables, Serves, StandsBy}
use Rattle.pasts.specs.declared.answer.AnswerContent.{AnswerContent}
use Rattle.sched_machine.specs.Classes.{IsGiven, HadOwner}
use Rattle.sched_machine.specs.Runs.{owner_at}
use Rattle.past_laws.specs.Laws.{HaveStood}

-- The message is a call of the owner, which gives it the instance at a place with the version that it runs. In a later world the workunit
-- keeps to that version's class, or to none at all.
pub record IsGivenByMessage (w later : World) (m : Message) (p : Place) (o : Owner) : Type 0 where
  pub caller : Caller
  pub request : Request
  pub said : m.said ≡ Rpc request
  pub is_caller : IsCaller w caller request
  pub given : IsGiven w later (call.Rpc caller request) m.now p o

-- if a host owns an instance after a message, it owned it before, or the message gives it
abbrev pub OwnersAreOfClassesAtAMessage : Type 0
OwnersAreOfClassesAtAMessage =
    (old new : Tables) (m : Message) (answer : AnswerContent) → HaveStood old → Serves old m answer new → (p : Place) (o : Owner)
    → owner_at new.world p ≡ Some o → HadOwner old.world p o ⊎ IsGivenByMessage old.world new.world m p o

-- one of these messages gives the instance at a place; the class is read in a later world
abbrev pub IsGivenBySome : (old : Tables) (more : List Heard) (new : Tables) → ServesAll old more new → World → Place → Owner → Type 0
IsGivenBySome old [] new all later p o = ⊥
IsGivenBySome old (h ∷ more) new all later p o = IsGivenByMessage old.world later h.message p o ⊎ IsGivenBySome all.0 more new all.2 later p o

-- If a host owns an instance after many messages, it owned it before them, or one of them gives it. The class is read in the world at the
-- end.
abbrev pub OwnersAreOfClassesOverMessages : Type 0
OwnersAreOfClassesOverMessages =
    (old new : Tables) (more : List Heard) (all : ServesAll old more new) → HaveStood old → (p : Place) (o : Owner)
    → owner_at new.world p ≡ Some o → HadOwner old.world p o ⊎ IsGivenBySome old more new all new.world p o

-- some turn of a run, which has the newest first, gives the instance at a place; the class is read in a later world
abbrev pub IsGivenByATurn : Settings → World → List Turn → Place → Owner → Type 0
IsGivenByATurn s later [] p o = ⊥
IsGivenByATurn s later (turn ∷ older) p o =
    IsGiven (world_of_run s older) later turn.call turn.message.now p o ⊎ IsGivenByATurn s later older p o

-- if tables agree with a past, some turn of their run gave each owner its instance; the class is read in the world at the end
abbrev pub OwnersWereGiven : Type 0
OwnersWereGiven =
    (t : Tables) (past : Past) (turns : List Turn) → AreSettingsInLimits t.world.settings → StandsBy t past turns → (p : Place) (o : Owner)
    → owner_at t.world p ≡ Some o → IsGivenByATurn t.world.settings t.world turns p o
