-- The messages and the settings determine the run, and so what tables hold.
use Rattle.std.proofs.Common.{◌≡◌, ℕ, List, [], ◌∷◌, refl, sym, ◌∙◌, ap, subst, inl, inr, Ok, true≢false}
use Rattle.std.specs.Prelude.{Some}
use Rattle.rpc_records.specs.declared.request.Request.{Request}
use Rattle.sched_book.specs.Places.{known_host}
use Rattle.sched_book.specs.Step.{IsCaller, Step}
use Rattle.sched_book.specs.declared.machine.Answered.{Answered}
use Rattle.sched_book.specs.declared.machine.Answered.TheVariants as answered
use Rattle.sched_book.specs.declared.machine.Call.{Call}
use Rattle.sched_book.specs.declared.machine.Call.TheVariants as call
use Rattle.sched_book.specs.declared.machine.Caller.{Caller}
use Rattle.sched_book.specs.declared.settings.Settings.{Settings}
use Rattle.sched_book.specs.declared.world.World.{World}
use Rattle.sched_machine.proofs.Runs.One.{a_step_is_determined}
use Rattle.pasts.specs.FirstHeard.{is_first_heard, first_heard}
use Rattle.pasts.specs.Messages.{Said, Rpc, Import, Tick, Read, Refused, Message}
use Rattle.pasts.specs.Runs.{Turn, SaysCall, IsTurn, turn_body, world_of_run, kept_of, batch_of}
use Rattle.pasts.specs.Stands.{Heard, Past, Answers, messages_in}
use Rattle.pasts.specs.Told.{told}
use Rattle.pasts.specs.declared.answer.AnswerContent.TheVariants.{Good}
use Rattle.pasts.proofs.ByNumber.{caller_of}
use Rattle.pasts.proofs.Rising.{head_of}
use Rattle.past_laws.specs.Laws.{TablesAreDetermined}

-- ---- one turn

one_caller : (w : World) (c d : Caller) (r : Request) → IsCaller w c r → IsCaller w d r → c ≡ d
one_caller w c d r one other =
    let found : Some c.account ≡ Some d.account = sym one.account ∙ other.account in
    let account : c.account ≡ d.account = cc in
    let host : c.host ≡ d.host = sym one.host ∙ ap (λ a. known_host w a r.host.host_cpid) account ∙ other.host in
    λ i. record { account = account i; host = host i }

-- what a message says, and the world, determine the call of the machine
one_call : (w v u : World) (said : Said) (c d : Call) (now : ℕ) (a b : Answered) → SaysCall said c → SaysCall said d
    → Step w c now v a → Step w d now u b → c ≡ d
one_call w v u (Rpc request) (call.Rpc c r) (call.Rpc d q) now a b says tells first second =
    let same : r ≡ q = says ∙ sym tells in
    let P : Request → Type 0 = λ x. Step w (call.Rpc d x) now u b in
    let one : c ≡ d = one_caller w c d r (caller_of w v c r now a first) (caller_of w u d r now b (subst P (sym same) second)) in
    λ i. call.Rpc (one i) (same i)
one_call w v u (Rpc request) (call.Rpc c r) (call.Import new) now a b says tells first second = absurd tells
one_call w v u (Rpc request) (call.Rpc c r) call.Tick now a b says tells first second = absurd tells
one_call w v u (Rpc request) (call.Import new) d now a b says tells first second = absurd says
one_call w v u (Rpc request) call.Tick d now a b says tells first second = absurd says
one_call w v u (Import kind batch text read) (call.Import new) (call.Import more) now a b says tells first second =
    let both : Ok new ≡ Ok more = sym says ∙ tells in
    let same : new ≡ more = cc in
    ap call.Import same
one_call w v u (Import kind batch text read) (call.Import new) (call.Rpc d q) now a b says tells first second = absurd tells
one_call w v u (Import kind batch text read) (call.Import new) call.Tick now a b says tells first second = absurd tells
one_call w v u (Import kind batch text read) (call.Rpc c r) d now a b says tells first second = absurd says
one_call w v u (Import kind batch text read) call.Tick d now a b says tells first second = absurd says
one_call w v u Tick call.Tick call.Tick now a b says tells first second = refl
one_call w v u Tick call.Tick (call.Rpc d q) now a b says tells first second = absurd tells
one_call w v u Tick call.Tick (call.Import more) now a b says tells first second = absurd tells
one_call w v u Tick (call.Rpc c r) d now a b says tells first second = absurd says
one_call w v u Tick (call.Import new) d now a b says tells first second = absurd says
one_call w v u (Read asks) c d now a b says tells first second = absurd says
one_call w v u (Refused fault) c d now a b says tells first second = absurd says

one_turn : (s : Settings) (turn other : Turn) (older : List Turn) → turn.message ≡ other.message → IsTurn s turn older → IsTurn s other older → turn ≡ other
one_turn s turn other older same one is =
    let P : Message → Type 0 = λ m. IsTurn s (record { message = m; call = other.call; answered = other.answered; after = other.after }) older in
    let second = subst P (sym same) is in
    let w : World = world_of_run s older in
    let call : turn.call ≡ other.call =
    one_call w turn.after other.after turn.message.said turn.call other.call turn.message.now turn.answered other.answered
    one.is_call second.is_call one.step second.step in
    let Q : Call → Type 0 = λ c. Step w c turn.message.now other.after other.answered in
    let made = a_step_is_determined w turn.after other.after turn.call turn.message.now turn.answered other.answered one.step (subst Q (sym call) second.step) in
    λ i. record { message = same i; call = call i; answered = made.1 i; after = made.0 i }

-- ---- one run

-- the newest message of two pasts, if the older ones have one run
newest : (s : Settings) (h g : Heard) (past other_past : Past) (turns others : List Turn) → h.message ≡ g.message → messages_in past ≡ messages_in other_past
    → ((ts us : List Turn) → Answers s past ts → Answers s other_past us → (ts ≡ us) × (past ≡ other_past))
    → Answers s (h ∷ past) turns → Answers s (g ∷ other_past) others → (turns ≡ others) × (h ∷ past ≡ g ∷ other_past)
newest s h g past other_past turns others m rest below (inl (first, turn, older, is, acts, one)) (inl (second, made, elder, are, acted, other)) =
    let under = below older elder one other in
    let P : List Turn → Type 0 = λ ts. IsTurn s made ts in
    let same : turn ≡ made = one_turn s turn made older (acts.message ∙ m ∙ sym acted.message) acts.step (subst P (sym under.0) acted.step) in
    let answer : h.answer ≡ g.answer = acts.answer ∙ ap (λ t. Good (turn_body t)) same ∙ sym acted.answer in (
      is ∙ (λ i. same i ∷ under.0 i) ∙ sym are,
      λ i. record { message = m i; answer = answer i } ∷ under.1 i,
    )
newest s h g past other_past turns others m rest below (inl acted) (inr quiet) =
    absurd (true≢false (sym acted.0 ∙ (λ i. is_first_heard s (first_heard s (rest i)) (m i).said) ∙ quiet.0))
newest s h g past other_past turns others m rest below (inr quiet) (inl acted) =
    absurd (true≢false (sym acted.0 ∙ (λ i. is_first_heard s (first_heard s (sym rest i)) (sym m i).said) ∙ quiet.0))
newest s h g past other_past turns others m rest below (inr (first, tells, one)) (inr (second, says, other)) =
    let under = below turns others one other in
    let both : Some h.answer ≡ Some g.answer =
    sym tells ∙ (λ i. told (world_of_run s (under.0 i)) (kept_of (under.0 i)) (batch_of (under.0 i)) (m i).said) ∙ says in
    let answer : h.answer ≡ g.answer = cc in
    (under.0, λ i. record { message = m i; answer = answer i } ∷ under.1 i)

no_more : (x : Message) (xs : List Message) → x ∷ xs ≡ [] → ⊥
no_more x xs same = cc

pub one_run : (s : Settings) (past other_past : Past) (turns others : List Turn) → messages_in past ≡ messages_in other_past → Answers s past turns
    → Answers s other_past others → (turns ≡ others) × (past ≡ other_past)
one_run s [] [] turns others same one other = (one ∙ sym other, refl)
one_run s [] (g ∷ other_past) turns others same one other = absurd (no_more g.message (messages_in other_past) (sym same))
one_run s (h ∷ past) [] turns others same one other = absurd (no_more h.message (messages_in past) same)
one_run s (h ∷ past) (g ∷ other_past) turns others same one other =
    let parts = head_of h.message g.message (messages_in past) (messages_in other_past) same in
    newest s h g past other_past turns others parts.0 parts.1 (λ ts us first second. one_run s past other_past ts us parts.1 first second) one other

pub tables_are_determined : TablesAreDetermined
tables_are_determined one other past other_past stands agrees same messages =
    let s : Settings = one.world.settings in
    let P : Settings → Type 0 = λ z. Answers z other_past agrees.0 in
    let run = one_run s past other_past stands.0 agrees.0 messages stands.1.answers (subst P (sym same) agrees.1.answers) in (
      record {
        world = stands.1.world ∙ (λ i. world_of_run (same i) (run.0 i)) ∙ sym agrees.1.world;
        calls = λ key. stands.1.calls key ∙ ap (λ ts. kept_of ts key) run.0 ∙ sym (agrees.1.calls key);
        batches = λ kind batch. stands.1.batches kind batch ∙ ap (λ ts. batch_of ts kind batch) run.0 ∙ sym (agrees.1.batches kind batch);
      },
      run.1,
    )
