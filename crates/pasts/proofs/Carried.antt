-- Tables that agree with a past and serve a message agree with both.
use Rattle.std.proofs.Common.{◌≡◌, ℕ, List, [], ◌∷◌, true, refl, sym, ◌∙◌, ap, subst, inl, inr}
use Rattle.std.specs.Prelude.{if◌then◌else◌, Option, Some, None, is_none}
use Rattle.sched_book.specs.Step.{Step}
use Rattle.sched_book.specs.declared.machine.Answered.{Answered}
use Rattle.sched_book.specs.declared.machine.Call.{Call}
use Rattle.sched_book.specs.declared.machine.Call.TheVariants as call
use Rattle.sched_book.specs.declared.settings.Settings.{Settings}
use Rattle.sched_book.specs.declared.world.World.{World}
use Rattle.sched_book.proofs.LeftByImports.{settings_with_rows}
use Rattle.pasts.specs.Answers.{body_of, kept_after, batch_after}
use Rattle.pasts.specs.FirstHeard.{is_first_heard, first_heard}
use Rattle.pasts.specs.Laws.{IsOfFirstHeard, NewTablesStand, StandsCarried, FirstHeardIsToldNothing, RunsTheFirstHeard, RowsAreOfFirstHeard}
use Rattle.pasts.specs.Leaves.{Frame, frame_after}
use Rattle.pasts.specs.Messages.{Said, Message}
use Rattle.pasts.specs.Runs.{Turn, IsTurn, world_of_run, messages_of, kept_of, batch_of}
use Rattle.pasts.specs.Stands.{Past, Tables, Same, Answers, StandsBy, Stands, Commits, ServesAs, Serves, then_heard, messages_in, told_by}
use Rattle.pasts.specs.Told.{told}
use Rattle.pasts.specs.declared.answer.AnswerContent.{AnswerContent}
use Rattle.pasts.proofs.HostKeys.{host_of_key-place, host_count}
use Rattle.pasts.proofs.RunLeaves.{IsRun, run_leaves}
use Rattle.pasts.proofs.StepLeaves.{step_leaves}
use Rattle.pasts.proofs.ToldNone.{told_none}

-- ---- if a run answers a past, it is over its first-heard messages

abbrev pub IsRunOf : Settings → List Message → List Turn → Type 0
IsRunOf s messages turns = (messages_of turns ≡ messages) × IsRun s turns

first_heard_turn : (s : Settings) (heard : List Message) (m : Message) (turn : Turn) (older : List Turn)
    → is_first_heard s heard m.said ≡ true → turn.message ≡ m → IsTurn s turn older
    → IsRunOf s heard older → IsRunOf s (if is_first_heard s heard m.said then m ∷ heard else heard) (turn ∷ older)
first_heard_turn s heard m turn older first is step run =
    (rw first (λ i. is i ∷ run.0 i), (rw (run.0, is) first, step, run.1))

pub run_of : (s : Settings) (past : Past) (turns : List Turn) → Answers s past turns → IsRunOf s (first_heard s (messages_in past)) turns
run_of s [] turns none = let P : List Turn → Type 0 = λ ts. IsRunOf s [] ts in subst P (sym none) (refl, tt)
run_of s (h ∷ past) turns answers =
    elim answers [
      | inl acted ↦
          let P : List Turn → Type 0 = λ ts. IsRunOf s (first_heard s (messages_in (h ∷ past))) ts in
          subst P (sym acted.3)
          (first_heard_turn s _ h.message acted.1 acted.2 acted.0 acted.4.message acted.4.step (run_of s past acted.2 acted.5))
      | inr same ↦ let run = run_of s past turns same.2 in (rw same.0 run.0, run.1)
    ]

pub runs_the_first_heard : RunsTheFirstHeard
runs_the_first_heard t past turns by = (run_of t.world.settings past turns by.answers).0

-- ---- tables that hold the same

pub same_itself : (t : Tables) → Same t t
same_itself t = record { world = refl; calls = λ key. refl; batches = λ kind batch. refl }

pub stands_same : (a b : Tables) (past : Past) (turns : List Turn) → Same a b → StandsBy b past turns → StandsBy a past turns
stands_same a b past turns same by =
    let P : World → Type 0 = λ w. Answers w.settings past turns in
    let Q : World → Type 0 = λ w. w ≡ world_of_run w.settings turns in record {
      answers = subst P (sym same.world) by.answers;
      world = subst Q (sym same.world) by.world;
      calls = λ key. same.calls key ∙ by.calls key;
      batches = λ kind batch. same.batches kind batch ∙ by.batches kind batch;
    }

pub new_tables_stand : NewTablesStand
new_tables_stand s t same =
    let P : World → Type 0 = λ w. w ≡ world_of_run w.settings [] in
    ([], record { answers = refl; world = subst P (sym same.world) refl; calls = same.calls; batches = same.batches })

-- ---- one message

-- the answer to a message without a step, from the run that tables agree with
pub told_by_run : (t : Tables) (past : Past) (turns : List Turn) → StandsBy t past turns → (said : Said)
    → told_by t said ≡ told (world_of_run t.world.settings turns) (kept_of turns) (batch_of turns) said
told_by_run t past turns by said = λ i. told (by.world i) (λ key. by.calls key i) (λ kind batch. by.batches kind batch i) said

pub first_is_told : (t : Tables) (past : Past) (turns : List Turn) → StandsBy t past turns → (said : Said)
    → is_first_heard t.world.settings (first_heard t.world.settings (messages_in past)) said ≡ is_none (told_by t said)
first_is_told t past turns by said =
    let s : Settings = t.world.settings in
    let run : IsRunOf s (first_heard s (messages_in past)) turns = run_of s past turns by.answers in
    ap (λ messages. is_first_heard s messages said) (sym run.0)
    ∙ told_none s turns run.1 said
    ∙ ap is_none (sym (told_by_run t past turns by said))

pub first_heard_is_told_nothing : FirstHeardIsToldNothing
first_heard_is_told_nothing t past stands said = first_is_told t past stands.0 stands.1 said

settings_stay : (w after : World) (c : Call) (now : ℕ) (answer : Answered) → Step w c now after answer → after.settings ≡ w.settings
settings_stay w after c now answer step = ap (λ (f : Frame). f.settings) (step_leaves w after c now answer step) ∙ cases c
  where
    cases : (c : Call) → (frame_after w c).settings ≡ w.settings
    cases (call.Rpc c r) = refl
    cases (call.Import new) = settings_with_rows w new
    cases call.Tick = refl

served_settings_as : (o : Option AnswerContent) (old new : Tables) (m : Message) (answer : AnswerContent) → ServesAs o old m answer new → new.world.settings ≡ old.world.settings
served_settings_as (Some told) old new m answer serves = ap (λ (w : World). w.settings) serves.1.world
served_settings_as None old new m answer c = settings_stay old.world new.world c.call m.now c.answered c.step

-- a message changes no settings
pub served_settings : (old new : Tables) (m : Message) (answer : AnswerContent) → Serves old m answer new → new.world.settings ≡ old.world.settings
served_settings old new m answer serves = served_settings_as (told_by old m.said) old new m answer serves

-- the turn that a commit makes
abbrev pub turn_of : (old : Tables) (m : Message) (answer : AnswerContent) (new : Tables) → Commits old m answer new → Turn
turn_of old m answer new c = record { message = m; call = c.call; answered = c.answered; after = new.world }

pub commit_stands : (old new : Tables) (m : Message) (answer : AnswerContent) (past : Past) (turns : List Turn) → StandsBy old past turns
    → told_by old m.said ≡ None → (c : Commits old m answer new) → StandsBy new (then_heard past m answer) (turn_of old m answer new c ∷ turns)
commit_stands old new m answer past turns by none c =
    let P : Settings → Type 0 = λ s. Answers s (then_heard past m answer) (turn_of old m answer new c ∷ turns) in
    let Q : World → Type 0 = λ w. Step w c.call m.now new.world c.answered in record {
      answers =
          subst P (sym (settings_stay old.world new.world c.call m.now c.answered c.step))
          (inl (
            first_is_told old past turns by m.said ∙ ap is_none none,
            turn_of old m answer new c,
            turns,
            refl,
            record { message = refl; step = record { is_call = c.is_call; limits = c.limits; step = subst Q by.world c.step }; answer = c.answer_is },
            by.answers,
          ));
      world = refl;
      calls = λ key. c.calls key ∙ ap (kept_after m.era key m.said (body_of c.answered m.said)) (by.calls key);
      batches = λ kind batch. c.batches kind batch ∙ ap (batch_after kind batch m.said (body_of c.answered m.said)) (by.batches kind batch);
    }

pub quiet_stands : (t : Tables) (m : Message) (answer : AnswerContent) (past : Past) (turns : List Turn) → StandsBy t past turns
    → told_by t m.said ≡ Some answer → StandsBy t (then_heard past m answer) turns
quiet_stands t m answer past turns by told_is = record {
  answers = inr (first_is_told t past turns by m.said ∙ ap is_none told_is, sym (told_by_run t past turns by m.said) ∙ told_is, by.answers);
  world = by.world;
  calls = by.calls;
  batches = by.batches;
}

pub stands_is_carried : StandsCarried
stands_is_carried old new m answer serves past stands = cases (told_by old m.said) refl serves
  where
    cases : (o : Option AnswerContent) → told_by old m.said ≡ o → ServesAs o old m answer new → Stands new (then_heard past m answer)
    cases (Some told_it) is serves = (
      stands.0,
      stands_same new old (then_heard past m answer) stands.0 serves.1
          (quiet_stands old m answer past stands.0 stands.1 (is ∙ ap Some (sym serves.0))),
    )
    cases None is c = (turn_of old m answer new c ∷ stands.0, commit_stands old new m answer past stands.0 stands.1 is c)

-- ---- the stored rows are those of the first-heard messages

pub rows_are_of_first_heard : RowsAreOfFirstHeard
rows_are_of_first_heard t past stands =
    let s : Settings = t.world.settings in
    let turns : List Turn = stands.0 in
    let run : IsRunOf s (first_heard s (messages_in past)) turns = run_of s past turns stands.1.answers in
    let P : World × List Message → Type 0 = λ p. IsOfFirstHeard p.0 p.1 in
    let both : ◌≡◌ {A = World × List Message} (world_of_run s turns, messages_of turns) (t.world, first_heard s (messages_in past)) =
    λ i. (sym stands.1.world i, run.0 i) in
    subst P both (of_run s turns run.1)
  where
    of_run : (s : Settings) (turns : List Turn) → IsRun s turns → IsOfFirstHeard (world_of_run s turns) (messages_of turns)
    of_run s turns run =
        let leaves = run_leaves s turns run in record {
          rows = leaves.shelf_is;
          hosts = λ key. host_of_key-place (world_of_run s turns) _ key leaves.are;
          host_count = host_count (world_of_run s turns) _ leaves.are;
        }
