-- A call over a store: its answer, and what acting on it does.
use Rattle.std.proofs.Common.{◌≡◌, ℕ, ◌≤◌, ◌<◌, Bool, true, false, cond, List, length, Option, Some, None, Result, Ok, Err, refl, sym, ◌∙◌, ap, subst}
use Rattle.std.specs.Prelude.{is_none, option_and_then, IfOk, OnOk}
use Rattle.std.proofs.lemmas.Bool.{and_parts, lt-ltb, le-ltb}
use Rattle.std.proofs.lemmas.Option.{none-some}
use Rattle.reply_register.specs.Calls.{heard, is_above_all, reply_at}
use Rattle.reply_register.specs.declared.kept.Heard.{Heard}
use Rattle.reply_register.specs.declared.kept.Heard.TheVariants as heard
use Rattle.reply_register.specs.declared.kept.Kept.{Kept}
use Rattle.reply_register.specs.declared.key.Key.{Key}
use Rattle.rpc_records.specs.Ranges.{IsInRange}
use Rattle.rpc_records.specs.Replies.{reply_text_of}
use Rattle.rpc_records.specs.Spelling.{canonical_text}
use Rattle.rpc_records.specs.declared.fault.Fault.TheVariants as fault
use Rattle.rpc_records.specs.declared.reply.Reply.{Reply}
use Rattle.rpc_records.specs.declared.request.Request.{Request}
use Rattle.sched_book.specs.Delta.{applied}
use Rattle.sched_book.specs.Places.{account_place, known_host}
use Rattle.sched_book.specs.Sound.{Sound}
use Rattle.sched_book.specs.Step.{RpcStep, host_number}
use Rattle.sched_book.specs.declared.delta.Delta.{Delta}
use Rattle.sched_book.specs.declared.machine.Answered.TheVariants as answered
use Rattle.sched_book.specs.declared.machine.Call.TheVariants as call
use Rattle.sched_book.specs.declared.machine.Caller.{Caller}
use Rattle.sched_book.specs.declared.world.World.{World}
use Rattle.sched_machine.specs.Admission as admission
use Rattle.sched_machine.specs.Calling.{IsAdmitted, LacksRoom}
use Rattle.stores.specs.Eras.{this_era}
use Rattle.stores.specs.Held.{Calls, Held, calls_with, IsCommitted, IsKeptSoundly, IsLeft, IsNewest, MayBeCommitted}
use Rattle.stores.specs.declared.entry.Entry.TheVariants as entry
use Rattle.pasts.specs.Answers.{kept_after, kept_call}
use Rattle.pasts.specs.ByNumber.{kept_at, calls_by_number, AreOfHosts}
use Rattle.pasts.specs.FirstHeard.{has_host_room}
use Rattle.pasts.specs.Leaves.{host_of_key}
use Rattle.pasts.specs.Messages.{Rpc, key_of, heard_now}
use Rattle.sched_book.specs.Limits.{last_moment}
use Rattle.pasts.specs.Told.{told_fresh, told_heard, answer_from_kept, told_call, told_account, told_number}
use Rattle.pasts.specs.declared.answer.AnswerContent.{AnswerContent}
use Rattle.pasts.specs.declared.answer.AnswerContent.TheVariants.{Good, Refusal}
use Rattle.pasts.proofs.ByNumber.{at_number, kept_by_number}
use Rattle.pasts.proofs.ToldNone.{beside_none}
use Rattle.message_engine.specs.Calls.{IsNamedCaller, told_caller, MayAct, ServesCall, IsCallServed, entry_of_call}
use Rattle.message_engine.proofs.EntriesKept.{told_serves, step_serves, IsStep}
use Rattle.message_engine.proofs.KeptStanding.{call_may_be_kept}

-- ---- who calls

-- the number of a named caller's key is that of its host
number_named : (w : World) (c : Caller) (r : Request) → IsNamedCaller w c r → host_of_key w (key_of r) ≡ c.host
number_named w c r named =
    ap (option_and_then (λ account. known_host w account r.host.host_cpid)) named.0.account ∙ named.0.host

abbrev room_for : World → Caller → Bool
room_for w c = has_host_room w.settings.max_hosts c.host (length w.hosts)

-- the answer to a named caller follows from the place of its call among its host's kept calls, and from room
told_named : (w : World) (c : Caller) (r : Request) (kept : List Kept) → IsNamedCaller w c r
    → told_call w kept r ≡ answer_from_kept (room_for w c) kept r.rpc_seqno (canonical_text r)
told_named w c r kept named =
    ap (told_account w kept r) named.0.account
    ∙ ap (told_number w kept r) named.0.host
    ∙ ap (λ (b : Bool). cond b (answer_from_kept (room_for w c) kept r.rpc_seqno (canonical_text r)) (Some (Refusal fault.BadHost)))
    named.1

-- ---- compared with the kept calls, with the room apart

heard_some : (room : Bool) (kept : List Kept) (h : Heard) (answer : AnswerContent) → told_heard true kept h ≡ Some answer → told_heard room kept h ≡ Some answer
heard_some room kept heard.Fresh answer is = absurd (none-some answer is)
heard_some room kept (heard.Repeat place) answer is = is
heard_some room kept (heard.Reused last) answer is = is
heard_some room kept (heard.Stale last) answer is = is

beside_some : (room : Bool) (kept : List Kept) (seqno : ℕ) (text : List ℕ) (answer : AnswerContent) → answer_from_kept true kept seqno text ≡ Some answer
    → answer_from_kept room kept seqno text ≡ Some answer
beside_some room kept seqno text answer is = heard_some room kept (heard kept seqno text) answer is

heard_fresh : (room : Bool) (kept : List Kept) (h : Heard) → told_heard true kept h ≡ None → told_heard room kept h ≡ told_fresh room
heard_fresh room kept heard.Fresh is = refl
heard_fresh room kept (heard.Repeat place) is = absurd (none-some (Good (reply_at kept place)) (sym is))
heard_fresh room kept (heard.Reused last) is = absurd (none-some (Refusal (fault.Reused last)) (sym is))
heard_fresh room kept (heard.Stale last) is = absurd (none-some (Refusal (fault.Stale last)) (sym is))

beside_fresh : (room : Bool) (kept : List Kept) (seqno : ℕ) (text : List ℕ) → answer_from_kept true kept seqno text ≡ None
    → answer_from_kept room kept seqno text ≡ told_fresh room
beside_fresh room kept seqno text is = heard_fresh room kept (heard kept seqno text) is

no_room : (max count : ℕ) (number : Option ℕ) → number ≡ None → max ≤ count → has_host_room max number count ≡ false
no_room max count None none full = le-ltb count max full
no_room max count (Some number) none full = absurd (none-some number (sym none))

-- if a call may act, only room decides its answer
told_acting : (held : Held) (c : Caller) (r : Request) → MayAct held c r → told_call held.world (calls_by_number held.world held.calls (key_of r)) r ≡ told_fresh (room_for held.world c)
told_acting held c r may =
    told_named held.world c r (calls_by_number held.world held.calls (key_of r)) may.0
    ∙ ap (λ o. answer_from_kept (room_for held.world c) (kept_at held.calls o) r.rpc_seqno (canonical_text r)) (number_named held.world c r may.0)
    ∙ beside_fresh (room_for held.world c) (kept_at held.calls c.host) r.rpc_seqno (canonical_text r) may.1

-- ---- a call that is answered without a step, by a store whose world is w

module _ (old new : Held) (w : World) (world_is : old.world ≡ w) (left : IsLeft old new) (r : Request) (now : ℕ) where
  pub account_serves : account_place w r.authenticator ≡ None → ServesCall r now (Refusal fault.BadAccount) old new
  account_serves unknown =
      told_serves (heard_now now (Rpc r)) (Refusal fault.BadAccount) old new
      (ap (told_account old.world (calls_by_number old.world old.calls (key_of r)) r) (ap (λ v. account_place v r.authenticator) world_is ∙ unknown)) left

  pub number_serves : admission.NamesWrongNumber w r → ServesCall r now (Refusal fault.BadHost) old new
  number_serves tells_there =
      let tells : admission.NamesWrongNumber old.world r = subst (λ v. admission.NamesWrongNumber v r) (sym world_is) tells_there in
      let kept : List Kept = calls_by_number old.world old.calls (key_of r) in
      let number : Option ℕ = known_host old.world tells.account r.host.host_cpid in
      told_serves (heard_now now (Rpc r)) (Refusal fault.BadHost) old new
      (ap (told_account old.world kept r) tells.stands
      ∙ ap (λ (b : Bool). cond b (answer_from_kept (has_host_room old.world.settings.max_hosts number (length old.world.hosts)) kept r.rpc_seqno (canonical_text r)) (Some (Refusal fault.BadHost)))
      tells.wrong)
      left

  pub full_serves : (c : Caller) → LacksRoom w c → MayAct old c r → ServesCall r now (Refusal fault.HostsFull) old new
  full_serves c full_there may =
      let full : LacksRoom old.world c = subst (λ v. LacksRoom v c) (sym world_is) full_there in
      told_serves (heard_now now (Rpc r)) (Refusal fault.HostsFull) old new
      (told_acting old c r may ∙ ap told_fresh (no_room old.world.settings.max_hosts (length old.world.hosts) c.host full.0 full.1)) left

  pub again_serves : (c : Caller) (text : List ℕ) (told : Option AnswerContent) (answer : AnswerContent)
      → text ≡ canonical_text r → told ≡ Some answer → told ≡ told_caller old.calls c r.rpc_seqno text → IsNamedCaller old.world c r → ServesCall r now answer old new
  again_serves c text told answer spelt is told_is named =
      told_serves (heard_now now (Rpc r)) answer old new
      (told_named old.world c r (calls_by_number old.world old.calls (key_of r)) named
      ∙ ap (λ o. answer_from_kept (room_for old.world c) (kept_at old.calls o) r.rpc_seqno (canonical_text r)) (number_named old.world c r named)
      ∙ beside_some (room_for old.world c) (kept_at old.calls c.host) r.rpc_seqno (canonical_text r) answer
      (ap (told_caller old.calls c r.rpc_seqno) (sym spelt) ∙ sym told_is ∙ is))
      left

-- ---- a call that acts

-- a call that the kept ones do not answer is above them
above_kept : (kept : List Kept) (seqno : ℕ) (text : List ℕ) → answer_from_kept true kept seqno text ≡ None → is_above_all seqno kept ≡ true
above_kept kept seqno text none =
    (and_parts (is_above_all seqno kept) true (sym (beside_none true kept seqno text) ∙ ap (λ (o : Option AnswerContent). is_none o) none)).0

-- a call that may act is the newest of its host, even if the host is still to be made
call_newest : (held : Held) (c : Caller) (r : Request) → MayAct held c r → AreOfHosts held.world held.calls
    → is_above_all r.rpc_seqno (held.calls (host_number held.world c)) ≡ true
call_newest held c r may of =
    ap (is_above_all r.rpc_seqno) (at_number held.world c.host held.calls of)
    ∙ above_kept (kept_at held.calls c.host) r.rpc_seqno (canonical_text r) may.1

has_room : (max count : ℕ) (number : Option ℕ) → (number ≡ None → count < max) → has_host_room max number count ≡ true
has_room max count None room = lt-ltb count max (room refl)
has_room max count (Some number) room = refl

-- the kept calls with this one are what the message leaves of each key, and are of hosts that exist
calls_kept : (w : World) (c : Caller) (r : Request) (now : ℕ) (delta : Delta) (reply : Reply) → Sound w
    → RpcStep w c r now (applied w delta) reply → (calls : Calls) → AreOfHosts w calls
    → AreOfHosts (applied w delta) (calls_with (entry_of_call r.rpc_seqno (canonical_text r) reply) calls)
    × ((key : Key) → calls_by_number (applied w delta) (calls_with (entry_of_call r.rpc_seqno (canonical_text r) reply) calls) key
    ≡ kept_after this_era key (Rpc r) (reply_text_of reply) (calls_by_number w calls key))
calls_kept w c r now delta reply sound step calls of =
    let number : reply.hostid ≡ host_number w c = ap (λ (x : Reply). x.hostid) step.answer in
    let P : ℕ → Type 0 = λ host. AreOfHosts (applied w delta) (calls_with (entry.Kept host (kept_call r (reply_text_of reply))) calls)
    × ((key : Key) → calls_by_number (applied w delta) (calls_with (entry.Kept host (kept_call r (reply_text_of reply))) calls) key
    ≡ kept_after this_era key (Rpc r) (reply_text_of reply) (calls_by_number w calls key)) in
    subst P (sym number) (kept_by_number w (applied w delta) (Rpc r) (call.Rpc c r) now (answered.Rpc reply) sound refl step this_era calls of)

-- A step was made for a call that may act, in the world of the store. It is committed with the call's entry.
module _ (old new : Held) (w : World) (world_is : old.world ≡ w) (c : Caller) (r : Request) (now : ℕ) (delta : Delta) (reply : Reply) (text : List ℕ)
    (moment : now ≤ last_moment) (range : IsInRange r) (spelt : text ≡ canonical_text r)
    (made : IsStep (λ v. IsAdmitted v c r) (λ v after. RpcStep v c r now after reply) delta w) where
  acts : IsKeptSoundly delta (entry_of_call r.rpc_seqno text reply) old new
      → MayAct old c r → ServesCall r now (Good (reply_text_of reply)) old new
  acts commits may sound =
      let here = subst (IsStep (λ v. IsAdmitted v c r) (λ v after. RpcStep v c r now after reply) delta) (sym world_is) made in
      let admitted : IsAdmitted old.world c r = record { caller = may.0.0; limits = range } in
      let step = here.step sound.world admitted in
      let newest : IsNewest (entry_of_call r.rpc_seqno text reply) old.calls =
      ap (λ (x : Reply). is_above_all r.rpc_seqno (old.calls x.hostid)) step.answer ∙ call_newest old c r may sound.hosts in
      step_serves (heard_now now (Rpc r)) (call.Rpc c r) (answered.Rpc reply) delta
      (entry_of_call r.rpc_seqno (canonical_text r) reply) old new
      (told_acting old c r may ∙ ap told_fresh (has_room old.world.settings.max_hosts (length old.world.hosts) c.host step.room))
      refl (record { request = range; moment = moment }) step (here.sound sound.world admitted)
      (calls_kept old.world c r now delta reply sound.world step old.calls sound.hosts) (λ kind batch. refl)
      (λ says. call_may_be_kept old.world (applied old.world delta) c r now reply (canonical_text r) range step)
      (subst (λ t. IsCommitted delta (entry_of_call r.rpc_seqno t reply) old new) spelt
      (commits (record { fits = here.fits sound.world admitted; newest = newest }) (here.sound sound.world admitted))) sound

  -- its reply is kept with it
  pub kept_serves : {E : Type 0} (result : Result AnswerContent E) → IfOk result (λ answer. answer ≡ Good (reply_text_of reply))
      → OnOk result (MayBeCommitted delta (entry_of_call r.rpc_seqno text reply) old
      → IsCommitted delta (entry_of_call r.rpc_seqno text reply) old new)
      → IfOk result (λ answer. MayAct old c r → ServesCall r now answer old new)
  kept_serves (Err e) told commits = tt
  kept_serves (Ok answer) told commits = λ may.
      subst (λ x. ServesCall r now x old new) (sym told) (acts (λ may_be soundly. commits may_be) may)

  -- if a stop leaves the commit whole, the call was served
  pub kept_ahead : IsKeptSoundly delta (entry_of_call r.rpc_seqno text reply) old new
      → MayAct old c r → IsCallServed r now old new
  kept_ahead commits may = (Good (reply_text_of reply), acts commits may)

-- ---- what was looked at before

-- a fresh call of a named caller may act
pub may_act : (held : Held) (c : Caller) (r : Request) (text : List ℕ) (told : Option AnswerContent) → text ≡ canonical_text r → told ≡ None
    → told ≡ told_caller held.calls c r.rpc_seqno text → IsNamedCaller held.world c r → MayAct held c r
may_act held c r text told spelt fresh told_is named = (named, ap (told_caller held.calls c r.rpc_seqno) (sym spelt) ∙ sym told_is ∙ fresh)
