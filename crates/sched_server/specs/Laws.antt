-- Promise. Laws that join the promises of a store, and the laws of every run, for what is stored before and after messages of bytes. (This
-- project's own: BOINC's rules are in the machine's step.)
use Rattle.std.specs.Prelude.{◌≡◌, ◌⊎◌, ℕ, suc, ◌<◌, true, List, [], ◌∷◌, ◌++◌, length, map, Option, Some, None}
use Rattle.http_responses.specs.declared.answer.Answer.{Answer}
use Rattle.http_responses.specs.declared.answer.Answer.TheVariants as answer
use Rattle.http_responses.specs.declared.response.Response.{Response}
use Rattle.http_serving.specs.Serving.{IsAnswered}
use Rattle.http_serving.specs.declared.handler.Handler.{Ghosts}
use Rattle.rpc_records.specs.declared.request.Request.{Request}
use Rattle.sched_book.specs.Former.{IsUnclassed}
use Rattle.sched_book.specs.Limits.{AreSettingsInLimits}
use Rattle.sched_book.specs.Step.{deadline_at}
use Rattle.sched_book.specs.declared.instance.Owner.{Owner}
use Rattle.sched_book.specs.declared.instance.Place.{Place}
use Rattle.sched_book.specs.declared.settings.Settings.{Settings}
use Rattle.sched_book.specs.declared.world.World.{World}
use Rattle.sched_machine.specs.Classes.{ClassesStay}
use Rattle.sched_machine.specs.Decisions.{UnitsStay, CanonicalsStay, VerdictsStay, StatusesStay, CreditsStay}
use Rattle.sched_machine.specs.Runs.{owner_at, OwnersStay, ReportsStay, LapsesStay}
use Rattle.pasts.specs.Messages.{Rpc, heard_now}
use Rattle.pasts.specs.Stands.{Same, told_by}
use Rattle.past_laws.specs.Laws.{SettingsStay, IsSentAgainBy, IsInSight}
use Rattle.stores.specs.Acting.{Parts, Acts}
use Rattle.stores.specs.Eras.{this_era, era_of_classes, new_upgrade_points}
use Rattle.stores.specs.Held.{Held, IsLeft, IsNew}
use Rattle.message_engine.specs.Stores.{tables_by}
use Rattle.sched_server.specs.Arrivals.{Came, Answered, answered, StandsFor, StandsIn, StoreStandsFor, HandledInTurn, HandledOverStops}
use Rattle.sched_server.specs.Handled.{is_answered, Handles, HandledAs, IsHandled}
use Rattle.sched_server.specs.Serving.{ServesMessage}
use Rattle.sched_server.specs.declared.arrival.Arrival.{Arrival}
use Rattle.sched_server.specs.declared.service.Service.{Service}

-- a new store agrees with no arrivals, with the upgrade points of new tables
abbrev pub NewStoresStand : {S : Type 0} → Parts S → Type 0
NewStoresStand {S} store =
    (s : S) (settings : Settings) → store.honest s → store.well_kept s → IsNew settings (store.holds s) → AreSettingsInLimits settings
    → StoreStandsFor store settings.operator_key (new_upgrade_points this_era) [] s

-- a store that was only read agrees with what it agreed with, even if a fault has shut it
abbrev pub ReadsStand : {S : Type 0} → Parts S → Type 0
ReadsStand {S} store =
    (old new : S) → store.reads old new → (key upgrade_points : List ℕ) (before : List Came) → StoreStandsFor store key upgrade_points before old
    → StoreStandsFor store key upgrade_points before new

-- a store that acted on a message, and handled it, agrees with the arrivals before and that message
abbrev pub HandledStands : {S : Type 0} → Parts S → Type 0
HandledStands {S} store =
    (key bytes : List ℕ) (now : ℕ) (a : Answer) (old new : S) → Acts store (is_answered a) (IsHandled key bytes now (store.holds old)) old new
    → (store.honest new → store.well_kept old → HandledAs key bytes now a (store.holds old) (store.holds new))
    → (upgrade_points : List ℕ) (before : List Came) → StoreStandsFor store key upgrade_points before old → store.clean new
    → StoreStandsFor store key upgrade_points (record { arrival = record { now = now; bytes = bytes }; answer = a } ∷ before) new

-- Suppose that a service was served one message, as the clauses of `serve_one` say it: these bytes were read, and this is the text of the
-- answer. Then it handled that message.
abbrev pub ServedStands : {S : Type 0} → Parts S → Ghosts (Service S) → Type 0
ServedStands {S} store handler =
    (old new : Service S) (now : ℕ) (bytes text : List ℕ) (unread : Option (List ℕ))
    → IsAnswered handler.settled handler.handles unread old now bytes text new → ServesMessage store now bytes text old new

-- with no open transaction, what a stop leaves of a store agrees with what the store agrees with
abbrev pub WhatIsLeftStands : {S : Type 0} → Parts S → Type 0
WhatIsLeftStands {S} store =
    (s : S) → store.honest s → store.well_kept s → (key upgrade_points : List ℕ) (before : List Came) → StandsFor key (store.holds s) upgrade_points before
    → (h : Held) → store.may_leave s h → StandsFor key h upgrade_points before

-- Suppose that an open store acts on a message. What a stop then leaves of it is what the message leaves, handled with some answer, which
-- maybe nobody read. So each law over messages that are handled in turn holds up to what a stop leaves.
abbrev pub StopsAreHandled : {S : Type 0} → Parts S → Type 0
StopsAreHandled {S} store =
    (key bytes : List ℕ) (now : ℕ) (a : Answer) (old new : S) → Acts store (is_answered a) (IsHandled key bytes now (store.holds old)) old new
    → (upgrade_points : List ℕ) (before : List Came) → StoreStandsFor store key upgrade_points before old → store.honest old
    → (h : Held) → store.may_leave new h → (some : Answer) × HandledAs key bytes now some (store.holds old) h

-- a store that holds what a stop left agrees with what that agreed with
abbrev pub ReopenedStands : {S : Type 0} → Parts S → Type 0
ReopenedStands {S} store =
    (s : S) → store.honest s → store.well_kept s → (h : Held) → IsLeft (store.holds s) h → (key upgrade_points : List ℕ) (before : List Came)
    → StandsFor key h upgrade_points before → StoreStandsFor store key upgrade_points before s

-- Suppose that what is stored agrees with the arrivals in an era, and an upgrade leaves it as it is. Then it agrees with them in the next era.
-- The further upgrade point is the number of arrivals that were answered.
abbrev pub UpgradedStands : Type 0
UpgradedStands =
    (era : ℕ) (key : List ℕ) (old new : Held) (upgrade_points : List ℕ) (before : List Came) → IsLeft old new → StandsIn era key old upgrade_points before
    → StandsIn (suc era) key new (upgrade_points ++ length (answered before) ∷ []) before

-- What agrees with arrivals from before versions had classes is unclassed: the class of each version is its platform, and no workunit is
-- marked. So an upgrade that gives each version its platform as its class, and marks no workunit, leaves the world as it is.
abbrev pub FormerWorldsAreUnclassed : Type 0
FormerWorldsAreUnclassed =
    (era : ℕ) (key : List ℕ) (held : Held) (upgrade_points : List ℕ) (before : List Came) → era < era_of_classes → StandsIn era key held upgrade_points before
    → IsUnclassed held.world

-- the arrivals of these, without the responses
abbrev pub arrivals_of : List Answered → List Arrival
arrivals_of = map (λ (a : Answered). a.arrival)

-- Suppose that what two stores hold agrees with the same answered arrivals, with the same upgrade points, and that the settings are the same.
-- Then they hold the same, and the responses are the same.
abbrev pub StoresAreDetermined : Type 0
StoresAreDetermined =
    (era : ℕ) (key : List ℕ) (one other : Held) (upgrade_points : List ℕ) (before other_before : List Came)
    → StandsIn era key one upgrade_points before → StandsIn era key other upgrade_points other_before → one.world.settings ≡ other.world.settings
    → arrivals_of (answered before) ≡ arrivals_of (answered other_before)
    → Same (tables_by one) (tables_by other) × (answered before ≡ answered other_before)

-- ---- the laws of every run

-- P holds of each world that agrees with arrivals
abbrev pub HoldsOfWhatStands : (World → Type 0) → Type 0
HoldsOfWhatStands P = (key : List ℕ) (held : Held) (upgrade_points : List ℕ) (before : List Came) → StandsFor key held upgrade_points before → P held.world

-- R holds between the world before a message and the world after it
abbrev pub HoldsAtAMessage : (World → World → Type 0) → Type 0
HoldsAtAMessage R =
    (key bytes : List ℕ) (now : ℕ) (old new : Held) (a : Answer) (upgrade_points : List ℕ) (before : List Came)
    → StandsFor key old upgrade_points before → HandledAs key bytes now a old new → R old.world new.world

-- and between the world before many messages and the world after them
abbrev pub HoldsOverMessages : (World → World → Type 0) → Type 0
HoldsOverMessages R =
    (key : List ℕ) (old new : Held) (upgrade_points : List ℕ) (came before : List Came)
    → StandsFor key old upgrade_points before → HandledInTurn key came old new → R old.world new.world

abbrev pub Lasts : (World → World → Type 0) → Type 0
Lasts R = HoldsAtAMessage R × HoldsOverMessages R

-- R holds between the world before many messages and the world after them, over any stops between them
abbrev pub HoldsOverStops : (World → World → Type 0) → Type 0
HoldsOverStops R =
    (key : List ℕ) (old new : Held) (upgrade_points : List ℕ) (stretches : List (List Came)) (before : List Came)
    → StandsFor key old upgrade_points before → HandledOverStops key stretches old new → R old.world new.world

-- everything that lasts over messages
pub record AllStay (old new : World) : Type 0 where
  pub settings : SettingsStay old new
  pub units : UnitsStay old new
  pub owners : OwnersStay old new
  pub reports : ReportsStay old new
  pub lapses : LapsesStay old new
  pub canonicals : CanonicalsStay old new
  pub verdicts : VerdictsStay old new
  pub statuses : StatusesStay old new
  pub credits : CreditsStay old new
  pub classes : ClassesStay old new

-- A deadline stays, or the message is a call of the instance's host, which has the instance sent again.
abbrev pub DeadlinesMoveByResendsAlone : Type 0
DeadlinesMoveByResendsAlone =
    (key bytes : List ℕ) (now : ℕ) (r : Response) (old new : Held) (upgrade_points : List ℕ) (before : List Came)
    → StandsFor key old upgrade_points before → (h : Handles key bytes now r old new)
    → (p : Place) (o : Owner) → owner_at old.world p ≡ Some o
    → (deadline_at new.world p ≡ deadline_at old.world p) ⊎ IsSentAgainBy old.world (heard_now now h.said) p o

-- this message is a call of the instance's host, which has the instance sent again
abbrev pub IsSentAgainAt : (key bytes : List ℕ) (now : ℕ) (a : Answer) (old new : Held) → HandledAs key bytes now a old new → Place → Owner → Type 0
IsSentAgainAt key bytes now answer.Unavailable old new done p o = ⊥
IsSentAgainAt key bytes now (answer.Response r) old new done p o = IsSentAgainBy old.world (heard_now now done.said) p o

-- one of these messages, which were handled in turn, is such a call
abbrev pub IsSentAgainAmong : (key : List ℕ) (came : List Came) (old new : Held) → HandledInTurn key came old new → Place → Owner → Type 0
IsSentAgainAmong key [] old new all p o = ⊥
IsSentAgainAmong key (c ∷ earlier) old new all p o =
    IsSentAgainAt key c.arrival.bytes c.arrival.now c.answer all.0 new all.2 p o ⊎ IsSentAgainAmong key earlier old all.0 all.1 p o

-- Over many messages a deadline stays, or a call of the instance's host among them has the instance sent again.
abbrev pub DeadlinesMoveByResendsOverMessages : Type 0
DeadlinesMoveByResendsOverMessages =
    (key : List ℕ) (old new : Held) (upgrade_points : List ℕ) (came before : List Came) → StandsFor key old upgrade_points before → (all : HandledInTurn key came old new)
    → (p : Place) (o : Owner) → owner_at old.world p ≡ Some o
    → (deadline_at new.world p ≡ deadline_at old.world p) ⊎ IsSentAgainAmong key came old new all p o

-- If a first-heard call lists what its client has, and lost jobs are sent again, then its host holds just what is listed or named.
abbrev pub NoHeldJobDropsFromSight : Type 0
NoHeldJobDropsFromSight =
    (key bytes : List ℕ) (now : ℕ) (r : Response) (old new : Held) (upgrade_points : List ℕ) (before : List Came)
    → StandsFor key old upgrade_points before → (h : Handles key bytes now r old new)
    → (request : Request) (names : List (List ℕ)) → h.said ≡ Rpc request → told_by (tables_by old) h.said ≡ None
    → old.world.settings.resend_lost_results ≡ true → request.other_results ≡ Some names → IsInSight old.world new.world request names h.told
