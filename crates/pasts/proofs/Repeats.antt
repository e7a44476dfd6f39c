-- The answer to a message that comes again. For a call it follows from the kept ones of its key, for an import from the newest of its name.
use Rattle.std.proofs.Common.{◌≡◌, ◌≢◌, ℕ, zero, suc, ◌+◌, ◌<◌, List, [], ◌∷◌, ◌++◌, length, take, Bool, true, false, cond, get_or, nat_lt, slice_get, refl, sym, ◌∙◌, ap, subst, inl, inr, arith}
use Rattle.std.specs.Prelude.{◌&&◌, ◌||◌, ◌==◌, if◌then◌else◌, position, All, Contains, Option, Some, None, option_and_then, option_map, unwrap_or, is_some, Result, Ok, Err}
use Rattle.std.specs.Option.{option_or}
use Rattle.std.specs.Str.{bytes_eq}
use Rattle.std.proofs.lemmas.Bool.{le-ltb, lt-ltb, false_from_ne_true}
use Rattle.std.proofs.lemmas.Option.{slice_get_read, slice_get_within, get_or_from_slice_get}
use Rattle.std.proofs.lemmas.Slice.Eq.{bytes_eq-Decides}
use Rattle.reply_register.specs.Calls.{greatest, has_number, heard, heard_at, is_above_all, IsFirstOf}
use Rattle.reply_register.specs.Keys.{same_key}
use Rattle.reply_register.specs.declared.kept.Heard.TheVariants as call
use Rattle.reply_register.specs.declared.kept.Kept.{Kept}
use Rattle.reply_register.specs.declared.key.Key.{Key}
use Rattle.reply_register.proofs.Calls.{same_key-is}
use Rattle.reply_register.proofs.Hearing.{found_heard, nowhere_heard}
use Rattle.reply_register.proofs.Numbers.{above_more, above_place, above_taken, greatest_first}
use Rattle.rpc_records.specs.Spelling.{canonical_text}
use Rattle.rpc_records.specs.declared.fault.Fault.{Fault}
use Rattle.rpc_records.specs.declared.fault.Fault.TheVariants as fault
use Rattle.rpc_records.specs.declared.request.Request.{Request}
use Rattle.sched_book.specs.Imports.{Shelf, empty_shelf, shelf_of}
use Rattle.sched_book.specs.Places.{place_where, account_place, known_host}
use Rattle.sched_book.specs.declared.rows.Rows.{Rows}
use Rattle.sched_book.specs.declared.settings.Settings.{Settings}
use Rattle.sched_book.proofs.PlacesOf.{place_where-is, place_where-push}
use Rattle.stores.specs.Eras.{kept_before_last}
use Rattle.stores.specs.declared.batch.KeptBatch.{KeptBatch}
use Rattle.stores.specs.declared.kind.Kind.{Kind}
use Rattle.pasts.specs.Answers.{kept_call, kept_after, batch_after}
use Rattle.pasts.specs.FirstHeard.{account_on, is_above, has_host_room, is_batch, is_first_heard, first_heard, keys_of, keys_said, names_host, rows_of, shelf_said, with_key}
use Rattle.pasts.specs.Laws.{IsOfFirstHeard}
use Rattle.pasts.specs.Leaves.{host_of_key}
use Rattle.pasts.specs.Messages.{Said, Rpc, Import, Tick, Read, Refused, Message, key_of}
use Rattle.pasts.specs.Repeats.{is_call_of, newest_heard, kept_calls, IsCallOf, AreToldBeside, CallsAreToldBesideTheKept, BatchesCountOnce}
use Rattle.pasts.specs.Runs.{Turn, turn_body, kept_of, batch_of}
use Rattle.pasts.specs.Stands.{Heard, Past, Tables, MakesTurn, Answers, messages_in, told_by}
use Rattle.pasts.specs.Told.{told_heard, answer_from_kept, told_number, told_account, told_import}
use Rattle.pasts.specs.declared.answer.AnswerContent.TheVariants.{Good, Refusal}
use Rattle.pasts.proofs.Carried.{IsRunOf, run_of, rows_are_of_first_heard}
use Rattle.pasts.proofs.HostKeys.{keys_after, with_key-is}
use Rattle.pasts.proofs.Places.{place-more}
use Rattle.pasts.proofs.RunLeaves.{account-more}
use Rattle.pasts.proofs.ToldNone.{above_run, call_rises}

-- ---- down a past, to the newest first-heard message that passes

-- what holds once that message acted, and is kept by later ones that do not pass, holds of the run
module _ (s : Settings) (passes : Said → Bool) (h : Heard) (K : List Turn → List Message → Type 0)
    (here : (turn : Turn) (older : List Turn) (heard : List Message) → is_first_heard s heard h.message.said ≡ true → passes h.message.said ≡ true
    → MakesTurn s h turn older → K (turn ∷ older) (h.message ∷ heard))
    (later : (g : Heard) (turn : Turn) (older : List Turn) (heard : List Message) → passes g.message.said ≡ false → MakesTurn s g turn older → K older heard
    → K (turn ∷ older) (g.message ∷ heard)) where
  acted : (g : Heard) (turn : Turn) (older : List Turn) (heard : List Message) (rest : Option Heard) (b : Bool) → passes g.message.said ≡ b
      → is_first_heard s heard g.message.said ≡ true → MakesTurn s g turn older → (if b then Some g else rest) ≡ Some h → (rest ≡ Some h → K older heard)
      → K (turn ∷ older) (g.message ∷ heard)
  acted g turn older heard rest true pass first acts is below =
      let same : h ≡ g = cc in
      let P : Heard → Type 0 = λ x. K (turn ∷ older) (x.message ∷ heard) in
      let F : Heard → Type 0 = λ x. is_first_heard s heard x.message.said ≡ true in
      let Q : Heard → Type 0 = λ x. passes x.message.said ≡ true in
      let A : Heard → Type 0 = λ x. MakesTurn s x turn older in
      subst P same (here turn older heard (subst F (sym same) first) (subst Q (sym same) pass) (subst A (sym same) acts))
  acted g turn older heard rest false pass first acts is below = later g turn older heard pass acts (below is)

  down : (past : Past) (turns : List Turn) → Answers s past turns → newest_heard s passes past ≡ Some h → K turns (first_heard s (messages_in past))
  down [] turns answers is = absurd cc
  down (g ∷ past) turns answers is =
      let heard : List Message = first_heard s (messages_in past) in
      let first : Bool = is_first_heard s heard g.message.said in
      elim answers [
        | inl acts ↦
            let T : List Turn → Type 0 = λ ts. K ts (first_heard s (messages_in (g ∷ past))) in
            let L : Bool → Type 0 = λ b. K (acts.1 ∷ acts.2) (if b then g.message ∷ heard else heard) in
            let found_it : (if passes g.message.said then Some g else newest_heard s passes past) ≡ Some h =
            ap (λ (b : Bool). if b && passes g.message.said then Some g else newest_heard s passes past) (sym acts.0) ∙ is in
            subst T (sym acts.3)
            (subst L (sym acts.0)
            (acted g acts.1 acts.2 heard (newest_heard s passes past) (passes g.message.said) refl acts.0 acts.4 found_it (λ below. down past acts.2 acts.5 below)))
        | inr quiet ↦
            let L : Bool → Type 0 = λ b. K turns (if b then g.message ∷ heard else heard) in
            let found_it : newest_heard s passes past ≡ Some h =
            ap (λ (b : Bool). if b && passes g.message.said then Some g else newest_heard s passes past) (sym quiet.0) ∙ is in
            subst L (sym quiet.0) (down past turns quiet.2 found_it)
      ]

-- ---- a call that was let in once is let in for good

-- the account of a call exists, its key has a number, and the call names that number or none
record IsLetIn (shelf : Shelf) (keys : List Key) (r : Request) : Type 0 where
  account : ℕ
  stands : account_on shelf r.authenticator ≡ Some account
  number : ℕ
  place : place_where (same_key (key_of r)) keys ≡ Some number
  names : names_host r.hostid (Some number) ≡ true

place_stays : (key k : Key) (keys : List Key) (n : ℕ) → place_where (same_key key) keys ≡ Some n → place_where (same_key key) (with_key k keys) ≡ Some n
place_stays key k keys n is = ap (place_where (same_key key)) (with_key-is k 1 keys) ∙ cases _
  where
    cases : (o : Option ℕ) → place_where (same_key key) (keys_after k o keys) ≡ Some n
    cases None = place-more (same_key key) keys (k ∷ []) n is
    cases (Some m) = is

let_in_more : (shelf : Shelf) (keys : List Key) (r : Request) (said : Said) → IsLetIn shelf keys r → IsLetIn (shelf_said said shelf) (keys_said said keys) r
let_in_more shelf keys r (Rpc q) was = record {
  account = was.account;
  stands = was.stands;
  number = was.number;
  place = place_stays (key_of r) (key_of q) keys was.number was.place;
  names = was.names;
}
let_in_more shelf keys r (Import kind batch text (Ok rows)) was = record {
  account = was.account;
  stands = account-more shelf rows r.authenticator was.account was.stands;
  number = was.number;
  place = was.place;
  names = was.names;
}
let_in_more shelf keys r (Import kind batch text (Err fault)) was = was
let_in_more shelf keys r Tick was = was
let_in_more shelf keys r (Read tells) was = was
let_in_more shelf keys r (Refused fault) was = was

same_key-self : (key : Key) → same_key key key ≡ true
same_key-self key =
    let word : bytes_eq key.authenticator key.authenticator ≡ true = (bytes_eq-Decides key.authenticator key.authenticator).1 refl in
    let cpid : bytes_eq key.host_cpid key.host_cpid ≡ true = (bytes_eq-Decides key.host_cpid key.host_cpid).1 refl in
    λ i. word i && cpid i

-- a first-heard call is let in
first_let_in : (s : Settings) (older : List Message) (r : Request) → is_first_heard s older (Rpc r) ≡ true
    → IsLetIn (rows_of older) (with_key (key_of r) (keys_of older)) r
first_let_in s older r first = cases (account_on (rows_of older) r.authenticator) refl (place_where (same_key (key_of r)) (keys_of older)) refl first
  where
    key : Key
    key = key_of r

    keys : List Key
    keys = keys_of older

    second : (a b c : Bool) → (true && a && b && c) ≡ true → a ≡ true
    second true b c all = refl
    second false b c all = all

    named : (number : Option ℕ) → (true && names_host r.hostid number && is_above key r.rpc_seqno older && has_host_room s.max_hosts number (length keys)) ≡ true
        → names_host r.hostid number ≡ true
    named number all =
        second (names_host r.hostid number) (is_above key r.rpc_seqno older) (has_host_room s.max_hosts number (length keys)) all

    zero_names : (b : Bool) (x : Bool) → (b || false) ≡ true → (b || x) ≡ true
    zero_names true x is = refl
    zero_names false x is = absurd cc

    pushed : place_where (same_key key) keys ≡ None → place_where (same_key key) (with_key key keys) ≡ Some (length keys + 1)
    pushed none =
        let position : with_key key keys ≡ keys ++ key ∷ [] =
        with_key-is key 1 keys ∙ ap (λ o. keys_after key o keys) (sym (place_where-is (same_key key) keys) ∙ none) in
        ap (place_where (same_key key)) position
        ∙ place_where-push (same_key key) keys key
        ∙ (λ i. option_or (none i) (cond (same_key-self key i) (Some (length keys + 1)) None))

    cases : (account : Option ℕ) → account_on (rows_of older) r.authenticator ≡ account → (number : Option ℕ) → place_where (same_key key) keys ≡ number
        → (is_some account && names_host r.hostid number && is_above key r.rpc_seqno older && has_host_room s.max_hosts number (length keys)) ≡ true
        → IsLetIn (rows_of older) (with_key key keys) r
    cases None stands number place all = absurd cc
    cases (Some a) stands (Some n) place all = record {
      account = a;
      stands = stands;
      number = n;
      place = place_stays key key keys n place;
      names = named (Some n) all;
    }
    cases (Some a) stands None place all = record {
      account = a;
      stands = stands;
      number = length keys + 1;
      place = pushed place;
      names = zero_names (r.hostid == 0) (r.hostid == length keys + 1) (named None all);
    }

-- ---- the calls that are kept of a key

-- what is kept of a heard call that was let in
record IsKeptCall (shelf : Shelf) (keys : List Key) (key : Key) (h : Heard) (k : Kept) : Type 0 where
  request : Request
  says : h.message.said ≡ Rpc request
  key_is : key_of request ≡ key
  body : List ℕ
  kept : k ≡ kept_call request body
  answer : h.answer ≡ Good body
  let_in : IsLetIn shelf keys request

-- each of the heard calls is kept, and each is above the later ones of the list
abbrev AreKept : Shelf → List Key → Key → List Heard → List Kept → Type 0
AreKept shelf keys key [] [] = Unit {0}
AreKept shelf keys key [] (k ∷ ks) = ⊥
AreKept shelf keys key (h ∷ hs) [] = ⊥
AreKept shelf keys key (h ∷ hs) (k ∷ ks) = IsKeptCall shelf keys key h k × (is_above_all k.seqno ks ≡ true) × AreKept shelf keys key hs ks

-- they still are after one message more
kept_more : (shelf : Shelf) (keys : List Key) (key : Key) (said : Said) (h : Heard) (k : Kept) → IsKeptCall shelf keys key h k
    → IsKeptCall (shelf_said said shelf) (keys_said said keys) key h k
kept_more shelf keys key said h k was = record {
  request = was.request;
  says = was.says;
  key_is = was.key_is;
  body = was.body;
  kept = was.kept;
  answer = was.answer;
  let_in = let_in_more shelf keys was.request said was.let_in;
}

are_more : (shelf : Shelf) (keys : List Key) (key : Key) (said : Said) (hs : List Heard) (ks : List Kept) → AreKept shelf keys key hs ks
    → AreKept (shelf_said said shelf) (keys_said said keys) key hs ks
are_more shelf keys key said [] [] are = tt
are_more shelf keys key said [] (k ∷ ks) are = absurd are
are_more shelf keys key said (h ∷ hs) [] are = absurd are
are_more shelf keys key said (h ∷ hs) (k ∷ ks) are = (kept_more shelf keys key said h k are.0, are.1, are_more shelf keys key said hs ks are.2)

-- so are the first ones of them
are_taken : (n : ℕ) (shelf : Shelf) (keys : List Key) (key : Key) (hs : List Heard) (ks : List Kept) → AreKept shelf keys key hs ks
    → AreKept shelf keys key (take n hs) (take n ks)
are_taken zero shelf keys key hs ks are = tt
are_taken (suc n) shelf keys key [] [] are = tt
are_taken (suc n) shelf keys key [] (k ∷ ks) are = absurd are
are_taken (suc n) shelf keys key (h ∷ hs) [] are = absurd are
are_taken (suc n) shelf keys key (h ∷ hs) (k ∷ ks) are = (are.0, above_taken n ks k.seqno are.1, are_taken n shelf keys key hs ks are.2)

-- a message that acted is kept in front of the others if it is a call of the key
acted_are : (s : Settings) (key : Key) (era : ℕ) (heard : List Message) (h : Heard) (body : List ℕ) (said : Said) (hs : List Heard) (ks : List Kept)
    → h.message.said ≡ said → is_first_heard s heard said ≡ true → h.answer ≡ Good body
    → ((seqno : ℕ) → is_above key seqno heard ≡ is_above_all seqno ks)
    → AreKept (rows_of heard) (keys_of heard) key hs ks
    → AreKept (shelf_said said (rows_of heard)) (keys_said said (keys_of heard)) key (if is_call_of key said then h ∷ take (kept_before_last era) hs else hs)
    (kept_after era key said body ks)
acted_are s key era heard h body (Rpc r) hs ks says first answer above are = cases (same_key key (key_of r)) refl
  where
    cases : (same : Bool) → same_key key (key_of r) ≡ same
        → AreKept (rows_of heard) (with_key (key_of r) (keys_of heard)) key (if same then h ∷ take (kept_before_last era) hs else hs)
        (if same then kept_call r body ∷ take (kept_before_last era) ks else ks)
    cases true same =
        let is : key ≡ key_of r = same_key-is key (key_of r) same in
        let rises : is_above_all r.rpc_seqno ks ≡ true =
        sym (above r.rpc_seqno) ∙ ap (λ k. is_above k r.rpc_seqno heard) is ∙ call_rises s r heard first in (
          record {
            request = r;
            says = says;
            key_is = sym is;
            body = body;
            kept = refl;
            answer = answer;
            let_in = first_let_in s heard r first;
          },
          above_taken (kept_before_last era) ks r.rpc_seqno rises,
          are_taken (kept_before_last era) _ _ key hs ks (are_more (rows_of heard) (keys_of heard) key (Rpc r) hs ks are),
        )
    cases false other = are_more (rows_of heard) (keys_of heard) key (Rpc r) hs ks are
acted_are s key era heard h body (Import kind batch text read) hs ks says first answer above are =
    are_more (rows_of heard) (keys_of heard) key (Import kind batch text read) hs ks are
acted_are s key era heard h body Tick hs ks says first answer above are = are
acted_are s key era heard h body (Read tells) hs ks says first answer above are = are
acted_are s key era heard h body (Refused fault) hs ks says first answer above are = are

-- the kept calls of the past are those that the run keeps
kept_are : (s : Settings) (key : Key) (past : Past) (turns : List Turn) → Answers s past turns
    → AreKept (rows_of (first_heard s (messages_in past))) (keys_of (first_heard s (messages_in past))) key (kept_calls s key past) (kept_of turns key)
kept_are s key [] turns none =
    let P : List Turn → Type 0 = λ ts. AreKept empty_shelf [] key [] (kept_of ts key) in subst P (sym none) tt
kept_are s key (h ∷ past) turns answers =
    let heard : List Message = first_heard s (messages_in past) in
    let said : Said = h.message.said in
    elim answers [
      | inl acts ↦
          let turn : Turn = acts.1 in
          let older : List Turn = acts.2 in
          let run : IsRunOf s heard older = run_of s past older acts.5 in
          let above : (seqno : ℕ) → is_above key seqno heard ≡ is_above_all seqno (kept_of older key) =
          λ seqno. ap (is_above key seqno) (sym run.0) ∙ above_run s older run.1 key seqno in
          let mine = acted_are s key h.message.era heard h (turn_body turn) said (kept_calls s key past) (kept_of older key) refl acts.0 acts.4.answer above
          (kept_are s key past older acts.5) in
          let M : Message → Type 0 = λ m. AreKept (shelf_said said (rows_of heard)) (keys_said said (keys_of heard)) key
          (if is_call_of key said then h ∷ take (kept_before_last h.message.era) (kept_calls s key past) else kept_calls s key past)
          (kept_after m.era key m.said (turn_body turn) (kept_of older key)) in
          let T : List Turn → Type 0 = λ ts. AreKept (rows_of (first_heard s (messages_in (h ∷ past)))) (keys_of (first_heard s (messages_in (h ∷ past)))) key
          (kept_calls s key (h ∷ past)) (kept_of ts key) in
          let L : Bool → Type 0 = λ b. AreKept (rows_of (if b then h.message ∷ heard else heard)) (keys_of (if b then h.message ∷ heard else heard)) key
          (if b && is_call_of key said then h ∷ take (kept_before_last h.message.era) (kept_calls s key past) else kept_calls s key past)
          (kept_of (turn ∷ older) key) in
          subst T (sym acts.3) (subst L (sym acts.0) (subst M (sym acts.4.message) mine))
      | inr quiet ↦
          let L : Bool → Type 0 = λ b. AreKept (rows_of (if b then h.message ∷ heard else heard)) (keys_of (if b then h.message ∷ heard else heard)) key
          (if b && is_call_of key said then h ∷ take (kept_before_last h.message.era) (kept_calls s key past) else kept_calls s key past)
          (kept_of turns key) in
          subst L (sym quiet.0) (kept_are s key past turns quiet.2)
    ]

-- ---- the place of a kept call in the list

-- the kept call at a place, which is the first of its number
record IsKeptAt (shelf : Shelf) (keys : List Key) (key : Key) (h : Heard) (ks : List Kept) (place : ℕ) : Type 0 where
  kept : Kept
  is : IsKeptCall shelf keys key h kept
  there : slice_get ks place ≡ Some kept
  before : (i : ℕ) (d : Kept) → i < place → kept.seqno < (get_or ks i d).seqno

found_at : (shelf : Shelf) (keys : List Key) (key : Key) (hs : List Heard) (ks : List Kept) (h : Heard) (place : ℕ) → AreKept shelf keys key hs ks
    → slice_get hs place ≡ Some h → IsKeptAt shelf keys key h ks place
found_at shelf keys key [] ks h place are there = absurd cc
found_at shelf keys key (x ∷ hs) [] h place are there = absurd are
found_at shelf keys key (x ∷ hs) (k ∷ ks) h zero are there =
    let one : x ≡ h = cc in
    let P : Heard → Type 0 = λ x. IsKeptCall shelf keys key x k in
    record { kept = k; is = subst P one are.0; there = refl; before = λ i d less. absurd (omega (arith, less)) }
found_at shelf keys key (x ∷ hs) (k ∷ ks) h (suc place) are there =
    let rest : IsKeptAt shelf keys key h ks place = found_at shelf keys key hs ks h place are.2 there in
    record { kept = rest.kept; is = rest.is; there = rest.there; before = before rest.kept rest.there rest.before }
  where
    before : (kept : Kept) → slice_get ks place ≡ Some kept → ((i : ℕ) (d : Kept) → i < place → kept.seqno < (get_or ks i d).seqno)
        → (i : ℕ) (d : Kept) → i < suc place → kept.seqno < (get_or (k ∷ ks) i d).seqno
    before kept at later zero d less = above_place ks k.seqno place kept are.1 at
    before kept at later (suc i) d less = later i d (omega (arith, less))

found_among : (shelf : Shelf) (keys : List Key) (key : Key) (hs : List Heard) (ks : List Kept) (h : Heard) → AreKept shelf keys key hs ks
    → (among : Contains hs h) → IsKeptAt shelf keys key h ks among.0
found_among shelf keys key hs ks h are among =
    found_at shelf keys key hs ks h among.0 are (slice_get_read hs (length hs) among.0 h refl among.1 (sym among.2))

-- a number that no heard call has is no kept call's
found_nowhere : (shelf : Shelf) (keys : List Key) (key : Key) (hs : List Heard) (ks : List Kept) (seqno : ℕ) → AreKept shelf keys key hs ks
    → ((i : ℕ) (h : Heard) (r : Request) → slice_get hs i ≡ Some h → h.message.said ≡ Rpc r → seqno ≢ r.rpc_seqno)
    → All (λ (k : Kept). k.seqno ≢ seqno) ks
found_nowhere shelf keys key hs [] seqno are apart i d less = absurd (omega (arith, less))
found_nowhere shelf keys key [] (k ∷ ks) seqno are apart i d less = absurd are
found_nowhere shelf keys key (h ∷ hs) (k ∷ ks) seqno are apart zero d less =
    λ same. apart 0 h are.0.request refl are.0.says (sym same ∙ ap (λ (k : Kept). k.seqno) are.0.kept)
found_nowhere shelf keys key (h ∷ hs) (k ∷ ks) seqno are apart (suc i) d less =
    found_nowhere shelf keys key hs ks seqno are.2 (λ j g r there says. apart (suc j) g r there says) i d (omega (arith, less))

-- ---- the answers to calls, compared with the kept ones

module _ (t : Tables) (shelf : Shelf) (keys : List Key) (key : Key) (rows : shelf_of t.world ≡ shelf)
    (host : host_of_key t.world key ≡ place_where (same_key key) keys) (h : Heard) (hs : List Heard) (k : Kept) (ks : List Kept)
    (calls : t.calls key ≡ k ∷ ks) (are : AreKept shelf keys key (h ∷ hs) (k ∷ ks)) where
  -- the number of the host of a call of the key that was let in
  host_is : (r : Request) → key_of r ≡ key → (was : IsLetIn shelf keys r) → host_of_key t.world key ≡ Some was.number
  host_is r mine was = host ∙ ap (λ k. place_where (same_key k) keys) (sym mine) ∙ was.place

  -- a call of the key that names no wrong number
  beside : (r : Request) → key_of r ≡ key → (was : IsLetIn shelf keys r) → (q : Request) → key_of q ≡ key → names_host q.hostid (Some was.number) ≡ true
      → told_by t (Rpc q) ≡ told_heard true (k ∷ ks) (heard (k ∷ ks) q.rpc_seqno (canonical_text q))
  beside r mine was q same names =
      let account : account_place t.world q.authenticator ≡ Some was.account =
      ap (λ (k : Key). account_place t.world k.authenticator) (same ∙ sym mine)
      ∙ ap (λ shelf. account_on shelf r.authenticator) rows ∙ was.stands in
      let number : known_host t.world was.account q.host.host_cpid ≡ Some was.number =
      ap (option_and_then (λ a. known_host t.world a q.host.host_cpid)) (sym account)
      ∙ ap (host_of_key t.world) same ∙ host_is r mine was in
      (λ i. told_account t.world ((ap t.calls same ∙ calls) i) q (account i))
      ∙ ap (told_number t.world (k ∷ ks) q) number
      ∙ ap (λ (b : Bool). if b then answer_from_kept true (k ∷ ks) q.rpc_seqno (canonical_text q) else Some (Refusal fault.BadHost)) names

  -- any call of the key
  told_so : (q : Request) → IsCallOf t key q → told_by t (Rpc q) ≡ told_heard true (k ∷ ks) (heard (k ∷ ks) q.rpc_seqno (canonical_text q))
  told_so q is =
      beside are.0.request are.0.key_is are.0.let_in q is.0
      (ap (names_host q.hostid) (sym (host_is are.0.request are.0.key_is are.0.let_in)) ∙ is.1)

  -- a kept call is the first of its number
  first_of_number : (g : Heard) (place seqno : ℕ) (at : IsKeptAt shelf keys key g (k ∷ ks) place) → at.is.request.rpc_seqno ≡ seqno
      → IsFirstOf (k ∷ ks) seqno place at.kept
  first_of_number g place seqno at equal =
      let number : at.kept.seqno ≡ seqno = ap (λ (k : Kept). k.seqno) at.is.kept ∙ equal in record {
        there = at.there;
        number = number;
        before = λ i d less same. omega (arith, at.before i d less, number, same);
      }

  repeat_told : (g : Heard) (place : ℕ) (at : IsKeptAt shelf keys key g (k ∷ ks) place) → told_by t (Rpc at.is.request) ≡ Some g.answer
  repeat_told g place at =
      let r : Request = at.is.request in
      beside r at.is.key_is at.is.let_in r at.is.key_is at.is.let_in.names
      ∙ ap (told_heard true (k ∷ ks))
      (found_heard (k ∷ ks) r.rpc_seqno place (canonical_text r) at.kept (first_of_number g place r.rpc_seqno at refl)
      ∙ ap (λ (b : Bool). if b then call.Repeat place else call.Reused (greatest (k ∷ ks)))
      ((bytes_eq-Decides at.kept.text (canonical_text r)).1 (ap (λ (k : Kept). k.text) at.is.kept)))
      ∙ ap (λ o. Some (Good (unwrap_or (option_map (λ (k : Kept). k.reply) o) []))) at.there
      ∙ ap (λ (k : Kept). Some (Good k.reply)) at.is.kept
      ∙ ap Some (sym at.is.answer)

  reused_told : (g : Heard) (place : ℕ) (at : IsKeptAt shelf keys key g (k ∷ ks) place) (q : Request) → IsCallOf t key q
      → q.rpc_seqno ≡ at.is.request.rpc_seqno → canonical_text q ≢ canonical_text at.is.request
      → told_by t (Rpc q) ≡ Some (Refusal (fault.Reused (greatest (k ∷ ks))))
  reused_told g place at q is equal other =
      told_so q is
      ∙ ap (told_heard true (k ∷ ks))
      (found_heard (k ∷ ks) q.rpc_seqno place (canonical_text q) at.kept (first_of_number g place q.rpc_seqno at (sym equal))
      ∙ ap (λ (b : Bool). if b then call.Repeat place else call.Reused (greatest (k ∷ ks)))
      (false_from_ne_true (bytes_eq at.kept.text (canonical_text q))
      (λ alike. other (sym ((bytes_eq-Decides at.kept.text (canonical_text q)).0 alike) ∙ ap (λ (k : Kept). k.text) at.is.kept))))

  -- a heard call says one request
  one_request : (g : Heard) (place : ℕ) (at : IsKeptAt shelf keys key g (k ∷ ks) place) (r : Request) → g.message.said ≡ Rpc r → at.is.request ≡ r
  one_request g place at r says = let same : Rpc at.is.request ≡ Rpc r = sym at.is.says ∙ says in cc

  told_beside_kept : (last : ℕ) → k.seqno ≡ last → AreToldBeside t key (h ∷ hs) last
  told_beside_kept last is_last =
      let most : greatest (k ∷ ks) ≡ last = greatest_first k ks are.1 ∙ is_last in record {
        repeat = λ g r was.
            let at = found_among shelf keys key (h ∷ hs) (k ∷ ks) g are was.0 in
            let P : Request → Type 0 = λ r. told_by t (Rpc r) ≡ Some g.answer in
            subst P (one_request g was.0.0 at r was.1) (repeat_told g was.0.0 at);
        reused = λ g r q was is equal other.
            let at = found_among shelf keys key (h ∷ hs) (k ∷ ks) g are was.0 in
            let one : at.is.request ≡ r = one_request g was.0.0 at r was.1 in
            reused_told g was.0.0 at q is (equal ∙ ap (λ (r : Request). r.rpc_seqno) (sym one)) (λ alike. other (alike ∙ ap canonical_text one))
            ∙ ap (λ n. Some (Refusal (fault.Reused n))) most;
        stale = λ q is less apart.
            told_so q is
            ∙ ap (told_heard true (k ∷ ks))
            (nowhere_heard (k ∷ ks) q.rpc_seqno (canonical_text q)
            (found_nowhere shelf keys key (h ∷ hs) (k ∷ ks) q.rpc_seqno are
            (λ i g r there says. apart g r ((i, slice_get_within (h ∷ hs) i g there, get_or_from_slice_get (h ∷ hs) i g g there), says)))
            (ap (λ b. b && is_above_all q.rpc_seqno ks) (le-ltb k.seqno q.rpc_seqno (omega (arith, is_last, less)))))
            ∙ ap (λ n. Some (Refusal (fault.Stale n))) most;
        fresh = λ q is more.
            let less : nat_lt k.seqno q.rpc_seqno ≡ true = lt-ltb k.seqno q.rpc_seqno (omega (arith, is_last, more)) in
            told_so q is
            ∙ ap (λ (b : Bool). told_heard true (k ∷ ks) (if b then call.Fresh
            else heard_at (k ∷ ks) (canonical_text q) (position (has_number q.rpc_seqno) (k ∷ ks))))
            (λ i. less i && above_more ks k.seqno q.rpc_seqno less are.1 i);
      }

pub calls_are_told_beside_the_kept : CallsAreToldBesideTheKept
calls_are_told_beside_the_kept t past h older r stands is says =
    let s : Settings = t.world.settings in
    let messages : List Message = first_heard s (messages_in past) in
    let P : List Heard → Type 0 = λ hs. AreKept (rows_of messages) (keys_of messages) (key_of r) hs (kept_of stands.0 (key_of r)) in
    cases (kept_of stands.0 (key_of r)) (stands.1.calls (key_of r)) (subst P is (kept_are s (key_of r) past stands.0 stands.1.answers))
  where
    cases : (ks : List Kept) → t.calls (key_of r) ≡ ks
        → AreKept (rows_of (first_heard t.world.settings (messages_in past))) (keys_of (first_heard t.world.settings (messages_in past))) (key_of r) (h ∷ older) ks
        → AreToldBeside t (key_of r) (h ∷ older) r.rpc_seqno
    cases [] calls are = absurd are
    cases (k ∷ ks) calls are =
        let of : IsOfFirstHeard t.world (first_heard t.world.settings (messages_in past)) = rows_are_of_first_heard t past stands in
        let one : Rpc are.0.request ≡ Rpc r = sym are.0.says ∙ says in
        let request : are.0.request ≡ r = cc in
        told_beside_kept t _ _ (key_of r) of.rows (of.hosts (key_of r)) h older k ks calls are r.rpc_seqno
        (ap (λ (k : Kept). k.seqno) are.0.kept ∙ ap (λ (r : Request). r.rpc_seqno) request)

-- ---- batches

record IsKeptBatch (h : Heard) (kind : Kind) (batch text : List ℕ) (turns : List Turn) (messages : List Message) : Type 0 where
  body : List ℕ
  kept : batch_of turns kind batch ≡ Some (record { text = text; answer = body })
  answer : h.answer ≡ Good body

batch_after_other : (kind : Kind) (batch : List ℕ) (said : Said) (body : List ℕ) (kept : Option KeptBatch) → is_batch kind batch said ≡ false
    → batch_after kind batch said body kept ≡ kept
batch_after_other kind batch (Import k b text read) body kept other =
    ap (λ (is : Bool). if is then Some (record { text = text; answer = body }) else kept) other
batch_after_other kind batch (Rpc q) body kept other = refl
batch_after_other kind batch Tick body kept other = refl
batch_after_other kind batch (Read tells) body kept other = refl
batch_after_other kind batch (Refused fault) body kept other = refl

kept_batch : (s : Settings) (past : Past) (turns : List Turn) (h : Heard) (kind : Kind) (batch text : List ℕ) (read : Result Rows Fault) → Answers s past turns
    → newest_heard s (is_batch kind batch) past ≡ Some h → h.message.said ≡ Import kind batch text read
    → IsKeptBatch h kind batch text turns (first_heard s (messages_in past))
kept_batch s past turns h kind batch text read answers is says =
    down s (is_batch kind batch) h (IsKeptBatch h kind batch text) here later past turns answers is
  where
    here : (turn : Turn) (older : List Turn) (heard : List Message) → is_first_heard s heard h.message.said ≡ true
        → is_batch kind batch h.message.said ≡ true → MakesTurn s h turn older → IsKeptBatch h kind batch text (turn ∷ older) (h.message ∷ heard)
    here turn older heard first pass acts =
        let said_is : turn.message.said ≡ Import kind batch text read = ap (λ (m : Message). m.said) acts.message ∙ says in
        let mine : is_batch kind batch (Import kind batch text read) ≡ true = ap (is_batch kind batch) (sym says) ∙ pass in record {
          body = turn_body turn;
          kept = ap (λ said. batch_after kind batch said (turn_body turn) (batch_of older kind batch)) said_is
              ∙ ap (λ (b : Bool). if b then Some (record { text = text; answer = turn_body turn }) else batch_of older kind batch) mine;
          answer = acts.answer;
        }

    later : (g : Heard) (turn : Turn) (older : List Turn) (heard : List Message) → is_batch kind batch g.message.said ≡ false → MakesTurn s g turn older
        → IsKeptBatch h kind batch text older heard → IsKeptBatch h kind batch text (turn ∷ older) (g.message ∷ heard)
    later g turn older heard other acts was = record {
      body = was.body;
      kept = batch_after_other kind batch turn.message.said (turn_body turn) (batch_of older kind batch)
          (ap (λ (m : Message). is_batch kind batch m.said) acts.message ∙ other) ∙ was.kept;
      answer = was.answer;
    }

pub batches_count_once : BatchesCountOnce
batches_count_once t past h kind batch text read stands is says =
    let was : IsKeptBatch h kind batch text stands.0 (first_heard t.world.settings (messages_in past)) =
    kept_batch t.world.settings past stands.0 h kind batch text read stands.1.answers is says in
    let kept : t.batches kind batch ≡ Some (record { text = text; answer = was.body }) = stands.1.batches kind batch ∙ was.kept in record {
      again = λ other.
          ap (λ o. told_import t.world o text other) kept
          ∙ ap (λ (b : Bool). Some (if b then Good was.body else Refusal fault.BatchReused)) ((bytes_eq-Decides text text).1 refl)
          ∙ ap Some (sym was.answer);
      reused = λ other rows apart.
          ap (λ o. told_import t.world o other rows) kept
          ∙ ap (λ (b : Bool). Some (if b then Good was.body else Refusal fault.BatchReused))
          (false_from_ne_true (bytes_eq text other) (λ alike. apart (sym ((bytes_eq-Decides text other).0 alike))));
    }
