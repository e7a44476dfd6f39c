-- Promise. Arrivals with their answers, and what it means that a store agrees with them. Arrivals are listed with the newest first. (This
-- project's own.)
use Rattle.std.specs.Prelude.{◌≡◌, ◌⊎◌, ℕ, List, [], ◌∷◌}
use Rattle.http_messages.specs.Deciding.{Asked}
use Rattle.http_messages.specs.Meaning.{Means}
use Rattle.http_responses.specs.declared.answer.Answer.{Answer}
use Rattle.http_responses.specs.declared.answer.Answer.TheVariants as answer
use Rattle.http_responses.specs.declared.response.Response.{Response}
use Rattle.stores.specs.Acting.{Parts}
use Rattle.stores.specs.Eras.{this_era}
use Rattle.stores.specs.Held.{Held, IsLeft}
use Rattle.pasts.specs.UpgradePoints.{IsInEra}
use Rattle.pasts.specs.Stands.{Heard, Past, Stands}
use Rattle.message_engine.specs.Stores.{tables_by, IsSoundStore}
use Rattle.sched_server.specs.Handled.{response_to, HandledAs, StaysSound}
use Rattle.sched_server.specs.Meanings.{SaysIn, allowed_by}
use Rattle.sched_server.specs.declared.arrival.Arrival.{Arrival}

-- An arrival (the bytes of a message at a moment) with its answer.
pub record Came : Type 0 where
  pub arrival : Arrival
  pub answer : Answer

pub record Answered : Type 0 where
  pub arrival : Arrival
  pub response : Response

-- the arrivals that were answered: one whose answer is unavailable counts as lost
abbrev pub with_answer : Arrival → Answer → List Answered → List Answered
with_answer arrival answer.Unavailable before = before
with_answer arrival (answer.Response response) before = record { arrival = arrival; response = response } ∷ before

abbrev pub answered : List Came → List Answered
answered [] = []
answered (c ∷ before) = with_answer c.arrival c.answer (answered before)

-- What was heard is what the bytes of an arrival mean, in its era and at its moment. The response is the one for the answer in the past.
-- (An operator's message has this key.)
pub record IsHeard (key : List ℕ) (a : Answered) (h : Heard) : Type 0 where
  pub asked : Asked
  pub means : Means key a.arrival.bytes asked
  pub says : SaysIn h.message.era asked h.message.said
  pub moment : h.message.now ≡ a.arrival.now
  pub response : a.response ≡ response_to (allowed_by asked) h.answer

-- a past has just the messages and answers of these arrivals
abbrev pub IsPastOf : List ℕ → List Answered → Past → Type 0
IsPastOf key [] [] = Unit {0}
IsPastOf key (a ∷ before) (h ∷ past) = IsHeard key a h × IsPastOf key before past
IsPastOf key [] (h ∷ past) = ⊥
IsPastOf key (a ∷ before) [] = ⊥

-- What a store of an era holds agrees with the arrivals, with these upgrade points. There is a past of them that is in that era, and with
-- which it agrees. It is sound. The operator's key is that of its settings.
pub record StandsIn (era : ℕ) (key : List ℕ) (held : Held) (upgrade_points : List ℕ) (before : List Came) : Type 0 where
  pub past : Past
  pub tells : IsPastOf key (answered before) past
  pub in_era : IsInEra era upgrade_points past
  pub keyed : key ≡ held.world.settings.operator_key
  pub stands : Stands (tables_by held) past
  pub sound : IsSoundStore held

-- the same, for what this program holds
abbrev pub StandsFor : List ℕ → Held → List ℕ → List Came → Type 0
StandsFor = StandsIn this_era

-- A message is in doubt if its answer was unavailable and no later message was answered otherwise: a fault may have come after it had
-- acted.
abbrev pub IsInDoubt : Arrival → List Came → Type 0
IsInDoubt arrival [] = ⊥
IsInDoubt arrival (c ∷ before) = (c.answer ≡ answer.Unavailable) × ((c.arrival ≡ arrival) ⊎ IsInDoubt arrival before)

-- What a stop leaves agrees with the arrivals, or with them and one message in doubt, whose response nobody read.
abbrev pub StandsAtAStop : List ℕ → Held → List ℕ → List Came → Type 0
StandsAtAStop key held upgrade_points before =
    StandsFor key held upgrade_points before
    ⊎ ((arrival : Arrival) × IsInDoubt arrival before × (r : Response) × StandsFor key held upgrade_points (record { arrival = arrival; answer = answer.Response r } ∷ before))

-- A store agrees with the arrivals, with these upgrade points. While it is open, it is well kept, and what it holds agrees with them. What
-- a stop may leave agrees with them or with one message in doubt more, whether a fault has shut the store or not.
pub record StoreStandsFor {S : Type 0} (store : Parts S) (key upgrade_points : List ℕ) (before : List Came) (s : S) : Type 0 where
  pub held : store.honest s → store.well_kept s × StandsFor key (store.holds s) upgrade_points before
  pub left : (h : Held) → store.may_leave s h → StandsAtAStop key h upgrade_points before

-- the arrivals before, and then these with their answers, as far as both lists go
abbrev pub followed : List Came → List Arrival → List Answer → List Came
followed before [] answers = before
followed before (a ∷ arrivals) [] = before
followed before (a ∷ arrivals) (answer ∷ answers) = followed (record { arrival = a; answer = answer } ∷ before) arrivals answers

-- these arrivals, the newest first, were handled one after the other
abbrev pub HandledInTurn : List ℕ → List Came → Held → Held → Type 0
HandledInTurn key [] old new = StaysSound old new
HandledInTurn key (c ∷ earlier) old new =
    (mid : Held) × HandledInTurn key earlier old mid × HandledAs key c.arrival.bytes c.arrival.now c.answer mid new

-- Messages came in stretches, with a stop after each but the newest. The newest stretch is first. A store that was opened after a stop holds what
-- the stretches before it left. Then the messages of its stretch were handled in turn. The one at which a stop came has some answer, as
-- the law StopsAreHandled gives it.
abbrev pub HandledOverStops : List ℕ → List (List Came) → Held → Held → Type 0
HandledOverStops key [] old new = IsLeft old new
HandledOverStops key (came ∷ stretches) old new =
    (left : Held) × (opened : Held) × HandledOverStops key stretches old left × IsLeft opened left × HandledInTurn key came opened new

-- The first of these arrivals acted one after the other, with answers for which `Given` holds.
pub record ActInTurn {S : Type 0} (store : Parts S) (key : List ℕ) (arrivals : List Arrival) (Given : List Answer → Type 0) (old new : S) : Type 0 where
  pub answers : List Answer
  pub given : Given answers
  pub handled : store.honest new → store.well_kept old → HandledInTurn key (followed [] arrivals answers) (store.holds old) (store.holds new)
  pub stands : (upgrade_points : List ℕ) (before : List Came) → StoreStandsFor store key upgrade_points before old → store.clean new
      → StoreStandsFor store key upgrade_points (followed before arrivals answers) new
