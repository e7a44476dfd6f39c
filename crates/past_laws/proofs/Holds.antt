-- What holds through each run of the machine holds of tables, before and after messages.
use Rattle.std.proofs.Common.{◌≡◌, ℕ, List, [], ◌∷◌, length, sym, refl, ap, ◌∙◌, subst, arith}
use Rattle.sched_book.specs.Limits.{AreSettingsInLimits}
use Rattle.sched_book.specs.Sound.{Sound}
use Rattle.sched_book.specs.Step.{Trace, empty_world}
use Rattle.sched_book.specs.declared.machine.Answered.{Answered}
use Rattle.sched_book.specs.declared.machine.Call.{Call}
use Rattle.sched_book.specs.declared.settings.Settings.{Settings}
use Rattle.sched_book.specs.declared.world.World.{World}
use Rattle.pasts.specs.Laws.{calls_of_run, worlds_in, last_world, IsRunTo, RunsTo}
use Rattle.pasts.specs.Many.{ServesAll, followed}
use Rattle.pasts.specs.Runs.{Turn}
use Rattle.pasts.specs.Stands.{Heard, Tables, Same}
use Rattle.pasts.proofs.Carried.{served_settings}
use Rattle.pasts.proofs.OneRun.{is_one_run, serves_by_one_run, stands_is_carried_by_all}
use Rattle.sched_machine.specs.Classes.{ClassesStay}
use Rattle.sched_machine.specs.Decisions.{UnitsStay, CanonicalsStay, VerdictsStay, StatusesStay, CreditsStay, CreditsAddUp}
use Rattle.sched_machine.specs.Laws.{AreCallsInLimits}
use Rattle.sched_machine.specs.Runs.{HoldsInRuns, HoldsAlways, world_after, OwnersStay, ReportsStay, LapsesStay, OneForEachUser}
use Rattle.sched_machine.proofs.Classes.Runs as classes
use Rattle.sched_machine.proofs.Decided.Runs as decided
use Rattle.sched_machine.proofs.Runs.Lasting as lasting
use Rattle.sched_machine.proofs.Runs.Stretches.{settings_stay_in_step}
use Rattle.sched_machine.proofs.Runs.Users as users
use Rattle.sched_machine.proofs.Moves.Sound.{the_empty_world_is_sound}
use Rattle.past_laws.specs.Laws.{HaveStood, HoldsWhereTablesStand, HoldsOfMessages, SettingsStay}
use Rattle.past_laws.proofs.Sounds.{calls_in_limits, last_after, what_stands_is_sound}

-- R holds between the first world of a run and its last
to_the_last : (R : World → World → Type 0) → HoldsInRuns R → ((w : World) → R w w) → (w : World) (calls : List (Call × ℕ)) (turns : List (Answered × World))
    → Sound w → AreCallsInLimits calls → Trace w calls turns → R w (last_world w turns)
to_the_last R holds self w calls [] sound limits trace = self w
to_the_last R holds self w calls (t ∷ ts) sound limits trace =
    subst (R w) (after_all w (t ∷ ts)) (holds w calls (t ∷ ts) sound limits trace 0 (length (t ∷ ts)) (omega arith) (omega arith))
  where
    after_all : (w : World) (turns : List (Answered × World)) → world_after w turns (length turns) ≡ last_world w turns
    after_all w [] = refl
    after_all w (t ∷ ts) = after_all t.1 ts

-- many messages are one run from a sound world
between : (R : World → World → Type 0) → HoldsInRuns R → ((w : World) → R w w) → (old new : Tables) (more : List Heard) → HaveStood old → ServesAll old more new
    → R old.world new.world
between R holds self old new more stood all =
    let runs : RunsTo old.world new.world = serves_by_one_run old new more all in
    let sound : Sound old.world = what_stands_is_sound old stood in
    subst (R old.world) runs.2.last
    (to_the_last R holds self old.world runs.0 runs.1 sound (calls_in_limits runs.0 runs.2.limits) runs.2.trace)

-- a run keeps the settings, so the tables after many messages agree with a longer past
run_settings : (w : World) (calls : List (Call × ℕ)) (turns : List (Answered × World)) → Trace w calls turns → (last_world w turns).settings ≡ w.settings
run_settings w calls [] trace = refl
run_settings w [] (t ∷ ts) trace = absurd trace
run_settings w (e ∷ es) (t ∷ ts) trace = run_settings t.1 es ts trace.1 ∙ settings_stay_in_step w t.1 e.0 e.1 t.0 trace.0

pub have_stood_on : (old mid : Tables) (some : List Heard) → HaveStood old → ServesAll old some mid → HaveStood mid
have_stood_on old mid some stood all =
    let runs : RunsTo old.world mid.world = serves_by_one_run old mid some all in record {
      settings =
          subst AreSettingsInLimits
          (sym (ap (λ (w : World). w.settings) (sym runs.2.last) ∙ run_settings old.world runs.0 runs.1 runs.2.trace)) stood.settings;
      past = followed stood.past some;
      stands = stands_is_carried_by_all old mid some all stood.past stood.stands;
    }

-- one message is the case of a list of one
of_messages : (R : World → World → Type 0) → HoldsInRuns R → ((w : World) → R w w) → HoldsOfMessages R
of_messages R holds self = (
  λ old new m answer stood serves. between R holds self old new (record { message = m; answer = answer } ∷ []) stood (new, serves, same new),
  λ old mid new some more stood first second. between R holds self mid new more (have_stood_on old mid some stood first) second,
)
  where
    same : (t : Tables) → Same t t
    same t = record { world = refl; calls = λ key. refl; batches = λ kind batch. refl }

-- the stored world is the last one of a run from the world of new tables
where_tables_stand : (P : World → Type 0) → HoldsAlways P → HoldsWhereTablesStand P
where_tables_stand P holds t stood =
    let s : Settings = t.world.settings in
    let turns : List Turn = stood.stands.0 in
    let run : IsRunTo (empty_world s) (calls_of_run turns) (worlds_in turns) t.world = is_one_run t stood.past turns stood.stands.1 in
    let all = holds (empty_world s) (calls_of_run turns) (worlds_in turns) (the_empty_world_is_sound s stood.settings)
    (calls_in_limits (calls_of_run turns) run.limits) run.trace in
    subst P run.last (last_after P (empty_world s) (worlds_in turns) all.0 all.1)

-- the settings stay in each message, from any tables
pub settings_stay : HoldsOfMessages SettingsStay
settings_stay = (λ old new m answer stood serves. served_settings old new m answer serves, λ old mid new some more stood first second. all_settings mid new more second)
  where
    all_settings : (old new : Tables) (more : List Heard) → ServesAll old more new → SettingsStay old.world new.world
    all_settings old new [] same = ap (λ (w : World). w.settings) same.world
    all_settings old new (h ∷ more) all = all_settings all.0 new more all.2 ∙ served_settings old all.0 h.message h.answer all.1

pub owners_stay : HoldsOfMessages OwnersStay
owners_stay = of_messages OwnersStay lasting.owners_stay (λ w p o is. (o, is, refl, refl))

pub reports_stay : HoldsOfMessages ReportsStay
reports_stay = of_messages ReportsStay lasting.reports_stay (λ w p t is. is)

pub lapses_stay : HoldsOfMessages LapsesStay
lapses_stay = of_messages LapsesStay lasting.lapses_stay (λ w p l is. is)

pub classes_stay : HoldsOfMessages ClassesStay
classes_stay = of_messages ClassesStay classes.classes_stay (λ w unit rule known is. is)

pub units_stay : HoldsOfMessages UnitsStay
units_stay = of_messages UnitsStay decided.units_stay (λ w unit is. is)

pub canonicals_stay : HoldsOfMessages CanonicalsStay
canonicals_stay = of_messages CanonicalsStay decided.canonicals_stay (λ w unit number is. is)

pub verdicts_stay : HoldsOfMessages VerdictsStay
verdicts_stay = of_messages VerdictsStay decided.verdicts_stay (λ w p v is. is)

pub statuses_stay : HoldsOfMessages StatusesStay
statuses_stay = of_messages StatusesStay decided.statuses_stay (λ w unit stands closed. refl)

pub credits_never_fall : HoldsOfMessages CreditsStay
credits_never_fall = of_messages CreditsStay decided.credits_never_fall (λ w. record { host = λ number. omega arith; user = λ account. omega arith })

pub credits_add_up : HoldsWhereTablesStand CreditsAddUp
credits_add_up = where_tables_stand CreditsAddUp decided.credits_add_up

pub one_for_each_user : HoldsWhereTablesStand OneForEachUser
one_for_each_user = where_tables_stand OneForEachUser users.one_for_each_user
