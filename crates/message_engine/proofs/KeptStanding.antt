-- What is kept may also be kept with the world that a step leaves, and so may what is kept of the step's message.
use Rattle.std.proofs.Common.{◌≡◌, ℕ, zero, suc, ◌-◌, ◌≤◌, ◌<◌, Bool, true, false, ◌&&◌, cond, eqb, List, [], ◌∷◌, length, take, Some, None, refl, sym, ap, subst, arith, IsTrue}
use Rattle.std.specs.Prelude.{is_some, slice_get, IfSome, All}
use Rattle.std.specs.Str.{bytes_eq}
use Rattle.std.proofs.lemmas.Bool.{eqb-true}
use Rattle.std.proofs.lemmas.Bool.Decides.{nat_tests}
use Rattle.std.proofs.lemmas.List.Elements.{All-cons, All-head, All-take, All-weaker}
use Rattle.std.proofs.lemmas.Option.{IfSome_then}
use Rattle.std.proofs.lemmas.Slice.Eq.{bytes_eq-Decides}
use Rattle.reply_register.specs.declared.kept.Kept.{Kept}
use Rattle.rpc_records.specs.Ranges.{IsInRange}
use Rattle.rpc_records.specs.declared.reply.Reply.{Reply}
use Rattle.rpc_records.specs.declared.request.Request.{Request}
use Rattle.sched_book.specs.Delta.{applied}
use Rattle.sched_book.specs.Places.{nth, host_at}
use Rattle.sched_book.specs.Sound.{Sound}
use Rattle.sched_book.specs.Step.{RpcStep, Step}
use Rattle.sched_book.specs.declared.delta.Delta.{Delta}
use Rattle.sched_book.specs.declared.machine.Answered.{Answered}
use Rattle.sched_book.specs.declared.machine.Answered.TheVariants as answered
use Rattle.sched_book.specs.declared.machine.Call.{Call}
use Rattle.sched_book.specs.declared.machine.Caller.{Caller}
use Rattle.sched_book.specs.declared.world.World.{World}
use Rattle.sched_book.proofs.PlacesOf.{nth-within}
use Rattle.stores.specs.Eras.{kept_before_last, this_era}
use Rattle.stores.specs.Held.{Calls, Batches, Held, calls_with, batches_with, IsCommitted}
use Rattle.stores.specs.Kinds.{same_kind}
use Rattle.stores.specs.Standing.{MayBeKept, MayStand}
use Rattle.stores.specs.declared.entry.Entry.{Entry}
use Rattle.stores.specs.declared.entry.Entry.TheVariants as entry
use Rattle.stores.specs.declared.kind.Kind.{Kind}
use Rattle.pasts.proofs.ByNumber.{call_hosts, no_host_goes}
use Rattle.message_engine.specs.Calls.{entry_of_call}
use Rattle.message_engine.specs.Stores.{IsSoundStore}

-- ---- hosts that exist

-- the numbers of the items of a list
stands_within : {X : Type 0} (xs : List X) (n : ℕ) → is_some (nth xs n) ≡ true → (1 ≤ n) × (n ≤ length xs)
stands_within {X} xs n stands = cases (eqb n 0) refl stands
  where
    there : (ys : List X) (i : ℕ) → is_some (slice_get ys i) ≡ true → i < length ys
    there [] i is = absurd cc
    there (y ∷ ys) zero is = omega arith
    there (y ∷ ys) (suc i) is = let less = there ys i is in omega (arith, less)

    cases : (b : Bool) → eqb n 0 ≡ b → is_some (cond b None (slice_get xs (n - 1))) ≡ true → (1 ≤ n) × (n ≤ length xs)
    cases true none is = absurd cc
    cases false some is = let less = there xs (n - 1) is in let more : 1 ≤ n = grind (arith, nat_tests, some) in (more, omega (arith, less, more))

-- a host that exists before a step exists after it
hosts_stand : (w after : World) (c : Call) (now : ℕ) (a : Answered) → Step w c now after a → (host : ℕ) → IsTrue (is_some (host_at w host)) → IsTrue (is_some (host_at after host))
hosts_stand w after c now a step host stands =
    let bounds = stands_within w.hosts host stands in
    let more = no_host_goes w after c now a step in
    nth-within after.hosts host bounds.0 (omega (arith, bounds.1, more))

-- and so does the host of a call
pub call_may_be_kept : (w after : World) (c : Caller) (r : Request) (now : ℕ) (reply : Reply) (text : List ℕ) → IsInRange r → RpcStep w c r now after reply
    → MayBeKept after (entry_of_call r.rpc_seqno text reply)
call_may_be_kept w after c r now reply text range step =
    let hosts = call_hosts w after c r now (answered.Rpc reply) step.caller step in
    let P : ℕ → Type 0 = λ n. IsTrue (is_some (host_at after n)) in
    (subst P (sym (ap (λ (x : Reply). x.hostid) step.answer)) (nth-within after.hosts _ hosts.1 hosts.2), range.rpc_seqno)

-- ---- what is kept

-- what may be kept with a world may be kept with any world that still has its hosts
kept_on : (w after : World) → ((host : ℕ) → IsTrue (is_some (host_at w host)) → IsTrue (is_some (host_at after host))) → (e : Entry) → MayBeKept w e → MayBeKept after e
kept_on w after stay (entry.Kept host k) may = (stay host may.0, may.1)
kept_on w after stay (entry.Batch kind name b) may = may
kept_on w after stay entry.Nothing may = may

abbrev AreKeptCalls : World → Calls → Type 0
AreKeptCalls w calls = (host : ℕ) → All (λ k. MayBeKept w (entry.Kept host k)) (calls host)

calls_stand : (w : World) (e : Entry) (calls : Calls) → MayBeKept w e → AreKeptCalls w calls → AreKeptCalls w (calls_with e calls)
calls_stand w (entry.Kept host k) calls may all = λ n. cases n (eqb host n) refl
  where
    cases : (n : ℕ) (b : Bool) → eqb host n ≡ b → All (λ x. MayBeKept w (entry.Kept n x)) (cond b (k ∷ take (kept_before_last this_era) (calls host)) (calls n))
    cases n true same =
        let P : ℕ → Type 0 = λ m. All (λ x. MayBeKept w (entry.Kept m x)) (k ∷ take (kept_before_last this_era) (calls host)) in
        subst P (eqb-true host n same) (All-cons (λ x. MayBeKept w (entry.Kept host x)) k (take (kept_before_last this_era) (calls host)) may (All-take (λ x. MayBeKept w (entry.Kept host x)) (kept_before_last this_era) (calls host) (all host)))
    cases n false other = all n
calls_stand w (entry.Batch kind name b) calls may all = all
calls_stand w entry.Nothing calls may all = all

abbrev AreKeptBatches : World → Batches → Type 0
AreKeptBatches w batches = (kind : Kind) (name : List ℕ) → IfSome (batches kind name) (λ b. MayBeKept w (entry.Batch kind name b))

batches_stand : (w : World) (e : Entry) (batches : Batches) → MayBeKept w e → AreKeptBatches w batches → AreKeptBatches w (batches_with e batches)
batches_stand w (entry.Batch kind name b) batches may all = λ k n. cases k n (same_kind kind k) (bytes_eq name n) refl
  where
    cases : (k : Kind) (n : List ℕ) (s t : Bool) → bytes_eq name n ≡ t → IfSome (cond (s && t) (Some b) (batches k n)) (λ x. MayBeKept w (entry.Batch k n x))
    cases k n true true same = let P : List ℕ → Type 0 = λ text. MayBeKept w (entry.Batch k text b) in subst P ((bytes_eq-Decides name n).0 same) may
    cases k n true false other = all k n
    cases k n false t other = all k n
batches_stand w (entry.Kept host k) batches may all = all
batches_stand w entry.Nothing batches may all = all

-- What a step leaves, with what is kept of its message, can be opened again if what it began with could.
pub stands_with : (c : Call) (now : ℕ) (a : Answered) (delta : Delta) (e : Entry) (old new : Held) → Step old.world c now (applied old.world delta) a
    → Sound (applied old.world delta) → MayBeKept (applied old.world delta) e → IsCommitted delta e old new → MayStand old → MayStand new
stands_with c now a delta e old new step sound may done stood =
    let after = applied old.world delta in
    let stay = hosts_stand old.world after c now a step in
    let made : MayStand (record { world = after; calls = calls_with e old.calls; batches = batches_with e old.batches }) = record {
      sound = sound;
      calls = calls_stand after e old.calls may (λ host. All-weaker _ _ (λ k. kept_on old.world after stay (entry.Kept host k)) (old.calls host) (stood.calls host));
      batches = batches_stand after e old.batches may (λ kind name. IfSome_then (old.batches kind name) (stood.batches kind name) (λ b. kept_on old.world after stay (entry.Batch kind name b)));
    } in
    subst MayStand (λ i. record { world = sym done.world_is i; calls = λ host. sym (done.calls_are host) i; batches = λ kind batch. sym (done.batches_are kind batch) i }) made

-- what can be opened again is sound, with calls kept only of its hosts
pub sound_where_stands : (held : Held) → MayStand held → IsSoundStore held
sound_where_stands held stands = record { world = stands.sound; hosts = λ host beyond. none_kept host beyond (held.calls host) (stands.calls host) }
  where
    none_kept : (host : ℕ) → length held.world.hosts < host → (calls : List Kept) → All (λ k. MayBeKept held.world (entry.Kept host k)) calls → calls ≡ []
    none_kept host beyond [] all = refl
    none_kept host beyond (k ∷ calls) all = let may : MayBeKept held.world (entry.Kept host k) = All-head (λ x. MayBeKept held.world (entry.Kept host x)) k calls all in let within = stands_within held.world.hosts host may.0 in absurd (omega (arith, within.1, beyond))
