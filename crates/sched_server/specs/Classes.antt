-- Rule. Who owns the instances before and after messages of bytes. Each owner got its instance by a call of its host, with a version of the
-- class that the workunit keeps to. Arrivals are listed with the newest first. (This project's own.)
use Rattle.std.specs.Prelude.{◌≡◌, ◌⊎◌, ℕ, List, [], ◌∷◌, Some}
use Rattle.http_responses.specs.declared.answer.Answer.{Answer}
use Rattle.http_responses.specs.declared.answer.Answer.TheVariants as answer
use Rattle.http_responses.specs.declared.response.Response.{Response}
use Rattle.sched_book.specs.declared.instance.Owner.{Owner}
use Rattle.sched_book.specs.declared.instance.Place.{Place}
use Rattle.sched_book.specs.declared.world.World.{World}
use Rattle.sched_machine.specs.Classes.{HadOwner}
use Rattle.sched_machine.specs.Runs.{owner_at}
use Rattle.pasts.specs.Messages.{heard_now}
use Rattle.past_laws.specs.Classes.{IsGivenByMessage, IsGivenByATurn}
use Rattle.stores.specs.Held.{Held}
use Rattle.sched_server.specs.Arrivals.{Came, StandsFor, HandledInTurn}
use Rattle.sched_server.specs.Handled.{Handles, HandledAs}

-- If a host owns an instance after a message, it owned it before, or the message is its call, which gives it the instance.
abbrev pub OwnersAreOfClassesAtAMessage : Type 0
OwnersAreOfClassesAtAMessage =
    (key bytes : List ℕ) (now : ℕ) (r : Response) (old new : Held) (upgrade_points : List ℕ) (before : List Came)
    → StandsFor key old upgrade_points before → (h : Handles key bytes now r old new)
    → (p : Place) (o : Owner) → owner_at new.world p ≡ Some o → HadOwner old.world p o ⊎ IsGivenByMessage old.world new.world (heard_now now h.said) p o

-- this message is a call of the owner, which gives it the instance; the class is read in a later world
abbrev pub IsGivenAt : (key bytes : List ℕ) (now : ℕ) (a : Answer) (old new : Held) → HandledAs key bytes now a old new → World → Place → Owner → Type 0
IsGivenAt key bytes now answer.Unavailable old new done later p o = ⊥
IsGivenAt key bytes now (answer.Response r) old new done later p o = IsGivenByMessage old.world later (heard_now now done.said) p o

-- one of these messages, which were handled in turn, is such a call
abbrev pub IsGivenAmong : (key : List ℕ) (came : List Came) (old new : Held) → HandledInTurn key came old new → World → Place → Owner → Type 0
IsGivenAmong key [] old new all later p o = ⊥
IsGivenAmong key (c ∷ earlier) old new all later p o =
    IsGivenAt key c.arrival.bytes c.arrival.now c.answer all.0 new all.2 later p o ⊎ IsGivenAmong key earlier old all.0 all.1 later p o

-- Over many messages: if a host owns an instance after them, it owned it before, or a call among them gave it. The class is read in the
-- world at the end.
abbrev pub OwnersAreOfClassesOverMessages : Type 0
OwnersAreOfClassesOverMessages =
    (key : List ℕ) (old new : Held) (upgrade_points : List ℕ) (came before : List Came) → StandsFor key old upgrade_points before → (all : HandledInTurn key came old new)
    → (p : Place) (o : Owner) → owner_at new.world p ≡ Some o → HadOwner old.world p o ⊎ IsGivenAmong key came old new all new.world p o

-- Each owner in the stored world got its instance by a turn of the run that the store agrees with.
abbrev pub OwnersWereGiven : Type 0
OwnersWereGiven =
    (key : List ℕ) (held : Held) (upgrade_points : List ℕ) (before : List Came) → (st : StandsFor key held upgrade_points before)
    → (p : Place) (o : Owner) → owner_at held.world p ≡ Some o → IsGivenByATurn held.world.settings held.world st.stands.0 p o
