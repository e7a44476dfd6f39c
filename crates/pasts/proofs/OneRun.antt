-- What is stored, and what many messages do, is one run of the machine.
use Rattle.std.proofs.Common.{◌≡◌, ℕ, List, [], ◌∷◌, ◌++◌, refl, sym, subst}
use Rattle.std.specs.Prelude.{Option, Some, None}
use Rattle.sched_book.specs.Step.{Step, Trace, empty_world}
use Rattle.sched_book.specs.declared.machine.Answered.{Answered}
use Rattle.sched_book.specs.declared.machine.Call.{Call}
use Rattle.sched_book.specs.declared.settings.Settings.{Settings}
use Rattle.sched_book.specs.declared.world.World.{World}
use Rattle.pasts.specs.Laws.{calls_of_run, worlds_in, AreInLimits, last_world, IsRunTo, RunsTo, IsOneRun, ServesByOneRun, StandsCarriedByAll}
use Rattle.pasts.specs.Messages.{Message}
use Rattle.pasts.specs.Runs.{Turn, IsInLimits, world_of_run}
use Rattle.pasts.specs.Stands.{Tables, ServesAs, then_heard, told_by}
use Rattle.pasts.specs.declared.answer.AnswerContent.{AnswerContent}
use Rattle.pasts.proofs.Carried.{run_of, stands_same, stands_is_carried}
use Rattle.pasts.proofs.RunLeaves.{IsRun}

-- ---- one call more at the end

last_more : (w : World) (ts : List (Answered × World)) (t : Answered × World) → last_world w (ts ++ t ∷ []) ≡ t.1
last_more w [] t = refl
last_more w (x ∷ ts) t = last_more x.1 ts t

limits_more : (es : List (Call × ℕ)) (e : Call × ℕ) → AreInLimits es → IsInLimits e.0 e.1 → AreInLimits (es ++ e ∷ [])
limits_more [] e limits one = (one, tt)
limits_more (x ∷ es) e limits one = (limits.0, limits_more es e limits.1 one)

trace_more : (w : World) (es : List (Call × ℕ)) (ts : List (Answered × World)) (e : Call × ℕ) (t : Answered × World) → Trace w es ts
    → Step (last_world w ts) e.0 e.1 t.1 t.0 → Trace w (es ++ e ∷ []) (ts ++ t ∷ [])
trace_more w [] [] e t trace step = (step, tt)
trace_more w [] (y ∷ ts) e t trace step = absurd trace
trace_more w (x ∷ es) [] e t trace step = absurd trace
trace_more w (x ∷ es) (y ∷ ts) e t trace step = (trace.0, trace_more y.1 es ts e t trace.1 step)

one_run : (s : Settings) (turns : List Turn) → IsRun s turns → IsRunTo (empty_world s) (calls_of_run turns) (worlds_in turns) (world_of_run s turns)
one_run s [] run = record { trace = tt; limits = tt; last = refl }
one_run s (turn ∷ older) run =
    let before : IsRunTo (empty_world s) (calls_of_run older) (worlds_in older) (world_of_run s older) = one_run s older run.2 in
    let P : World → Type 0 = λ w. Step w turn.call turn.message.now turn.after turn.answered in record {
      trace = trace_more (empty_world s) (calls_of_run older) (worlds_in older) (turn.call, turn.message.now) (turn.answered, turn.after) before.trace
          (subst P (sym before.last) run.1.step);
      limits = limits_more (calls_of_run older) (turn.call, turn.message.now) before.limits run.1.limits;
      last = last_more (empty_world s) (worlds_in older) (turn.answered, turn.after);
    }

pub is_one_run : IsOneRun
is_one_run t past turns by =
    let s : Settings = t.world.settings in
    let P : World → Type 0 = λ w. IsRunTo (empty_world s) (calls_of_run turns) (worlds_in turns) w in
    subst P (sym by.world) (one_run s turns (run_of s past turns by.answers).1)

-- ---- many messages

pub stands_is_carried_by_all : StandsCarriedByAll
stands_is_carried_by_all old new [] same past stands = (stands.0, stands_same new old past stands.0 same stands.1)
stands_is_carried_by_all old new (h ∷ more) all past stands =
    stands_is_carried_by_all all.0 new more all.2 (then_heard past h.message h.answer)
    (stands_is_carried old all.0 h.message h.answer all.1 past stands)

-- one message before a run
one_before : (old mid : Tables) (m : Message) (answer : AnswerContent) (after : World) (o : Option AnswerContent) → ServesAs o old m answer mid
    → RunsTo mid.world after → RunsTo old.world after
one_before old mid m answer after (Some told) serves runs =
    let P : World → Type 0 = λ w. RunsTo w after in subst P serves.1.world runs
one_before old mid m answer after None c runs = (
  (c.call, m.now) ∷ runs.0,
  (c.answered, mid.world) ∷ runs.1,
  record { trace = (c.step, runs.2.trace); limits = (c.limits, runs.2.limits); last = runs.2.last },
)

pub serves_by_one_run : ServesByOneRun
serves_by_one_run old new [] same = ([], [], record { trace = tt; limits = tt; last = sym same.world })
serves_by_one_run old new (h ∷ more) all =
    one_before old all.0 h.message h.answer new.world (told_by old h.message.said) all.1 (serves_by_one_run all.0 new more all.2)
