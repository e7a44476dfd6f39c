-- A reading names the first member in order that is faulty by itself.
use Rattle.std.proofs.Common.{◌≡◌, ◌≢◌, ◌↔◌, ℕ, List, cond, Option, Some, None, option_map, find, Result, Ok, Err, refl, sym, ap, ◌∙◌}
use Rattle.std.specs.Option.{ok_or, option_and_then, unwrap_or, is_none}
use Rattle.serde_json.specs.Data.{Data, null, boolean, number, string, array, object, Members}
use Rattle.serde_json.specs.Find.{get}
use Rattle.rpc_records.specs.Members.{member_name}
use Rattle.rpc_records.specs.Order.{in_order, is_faulty, is_missing_or_bad, is_bad, info_of, refusal_of}
use Rattle.rpc_records.specs.Reading.{needed, defaulted, host_info_at, platforms_at, request_at, json_of, value_meaning, meaning}
use Rattle.texts.specs.Reading.{and_then}
use Rattle.rpc_records.specs.Values.{object_in, read_or}
use Rattle.rpc_records.specs.declared.fault.Fault.{Fault}
use Rattle.rpc_records.specs.declared.fault.Fault.TheVariants.{BadJson, BadMember}
use Rattle.rpc_records.specs.declared.fault.Member.{Member}
use Rattle.rpc_records.specs.declared.request.HostInfo.{HostInfo as Host}
use Rattle.rpc_records.specs.declared.fault.Member.TheVariants.{Authenticator, Hostid, RpcSeqno, HostInfo, HostCpid, PFpops, MNbytes, DFree, PlatformName, AltPlatforms, WorkReqSeconds, OtherResults, Results}

-- the refusal that names a member, if there is one
abbrev told : Option Member → Option Fault
told m = option_map BadMember m

-- if nothing is read, the member is named; else the reading continues
step : {A B : Type 0} (m : Member) (o : Option A) (f : A → Result B Fault) (rest : Option Member) → ((x : A) → o ≡ Some x → refusal_of (f x) ≡ told rest)
    → refusal_of (and_then (ok_or o (BadMember m)) f) ≡ told (cond (is_none o) (Some m) rest)
unfolding and_then
step m None f rest later = refl
step m (Some x) f rest later = later x refl

-- a reading of a part, then of the rest, is one reading
regrouped : {A B C : Type 0} (r : Result A Fault) (g : A → Result B Fault) (f : B → Result C Fault) → and_then (and_then r g) f ≡ and_then r (λ x. and_then (g x) f)
unfolding and_then
regrouped (Ok x) g f = refl
regrouped (Err e) g f = refl

read : {A B : Type 0} (x : A) (f : A → Result B Fault) → and_then (Ok x) f ≡ f x
unfolding and_then
read x f = refl

-- a member that must exist
needed_step : {A B : Type 0} (m : Member) (reads : Data → Option A) (d : Data) (f : A → Result B Fault) (rest : Option Member)
    → ((x : A) → option_and_then reads (get (member_name m) d) ≡ Some x → refusal_of (f x) ≡ told rest)
    → refusal_of (and_then (needed m reads d) f) ≡ told (cond (is_missing_or_bad reads (get (member_name m) d)) (Some m) rest)
unfolding needed
needed_step m reads d f rest later = step m (option_and_then reads (get (member_name m) d)) f rest later

is_spoiled_is : {A : Type 0} (default : A) (reads : Data → Option A) (found : Option Data) → is_none (read_or default reads found) ≡ is_bad reads found
is_spoiled_is default reads None = refl
is_spoiled_is default reads (Some d) = refl

-- a member that may be absent
defaulted_step : {A B : Type 0} (m : Member) (default : A) (reads : Data → Option A) (d : Data) (f : A → Result B Fault) (rest : Option Member)
    → ((x : A) → refusal_of (f x) ≡ told rest)
    → refusal_of (and_then (defaulted m default reads d) f) ≡ told (cond (is_bad reads (get (member_name m) d)) (Some m) rest)
unfolding defaulted
defaulted_step m default reads d f rest later =
    step m (read_or default reads (get (member_name m) d)) f rest (λ x _. later x) ∙ ap (λ b. told (cond b (Some m) rest)) (is_spoiled_is default reads (get (member_name m) d))

-- the object that is read is the value itself
object_is : (d e : Data) → object_in d ≡ Some e → d ≡ e
object_is null e h = cc
object_is (boolean b) e h = cc
object_is (number n) e h = cc
object_is (string s) e h = cc
object_is (array ds) e h = cc
object_is (object ms) e h = cc

info_is : (found : Option Data) (info : Data) → option_and_then object_in found ≡ Some info → unwrap_or found null ≡ info
info_is None info h = cc
info_is (Some d) info h = object_is d info h

-- a member that must exist, in a value with another name
step_in : {A B : Type 0} (e : Data) (m : Member) (reads : Data → Option A) (d : Data) (f : A → Result B Fault) (rest : Option Member) → e ≡ d
    → ((x : A) → refusal_of (f x) ≡ told rest)
    → refusal_of (and_then (needed m reads d) f) ≡ told (cond (is_missing_or_bad reads (get (member_name m) e)) (Some m) rest)
step_in e m reads d f rest same later = rw same (needed_step m reads d f rest (λ x _. later x))

host_step : {B : Type 0} (d : Data) (f : Host → Result B Fault) (rest : Option Member) → ((host : Host) → refusal_of (f host) ≡ told rest)
    → refusal_of (and_then (host_info_at d) f)
    ≡ told (cond (is_faulty d HostInfo) (Some HostInfo) (cond (is_faulty d HostCpid) (Some HostCpid) (cond (is_faulty d PFpops) (Some PFpops)
    (cond (is_faulty d MNbytes) (Some MNbytes) (cond (is_faulty d DFree) (Some DFree) rest)))))
unfolding host_info_at
host_step d f rest later =
    ap refusal_of (regrouped _ _ f) ∙ needed_step HostInfo _ d _ _ (λ info found. let same : info_of d ≡ info = info_is _ info found in
    ap refusal_of (regrouped _ _ f) ∙ step_in (info_of d) HostCpid _ info _ _ same (λ host_cpid.
    ap refusal_of (regrouped _ _ f) ∙ step_in (info_of d) PFpops _ info _ _ same (λ p_fpops.
    ap refusal_of (regrouped _ _ f) ∙ step_in (info_of d) MNbytes _ info _ _ same (λ m_nbytes.
    ap refusal_of (regrouped _ _ f) ∙ step_in (info_of d) DFree _ info _ _ same (λ d_free. ap refusal_of (read _ f) ∙ later _)))))

platforms_step : {B : Type 0} (d : Data) (f : List (List ℕ) → Result B Fault) (rest : Option Member) → ((platforms : List (List ℕ)) → refusal_of (f platforms) ≡ told rest)
    → refusal_of (and_then (platforms_at d) f)
    ≡ told (cond (is_faulty d PlatformName) (Some PlatformName) (cond (is_faulty d AltPlatforms) (Some AltPlatforms) rest))
unfolding platforms_at
platforms_step d f rest later =
    ap refusal_of (regrouped _ _ f) ∙ needed_step PlatformName _ d _ _ (λ own _.
    ap refusal_of (regrouped _ _ f) ∙ defaulted_step AltPlatforms _ _ d _ _ (λ alternatives. ap refusal_of (read _ f) ∙ later _))

pub refusal_of-request_at : (d : Data) → refusal_of (request_at d) ≡ told (find (is_faulty d) in_order)
unfolding request_at
refusal_of-request_at d =
    needed_step Authenticator _ d _ _ (λ authenticator _.
    defaulted_step Hostid _ _ d _ _ (λ hostid.
    needed_step RpcSeqno _ d _ _ (λ rpc_seqno _.
    host_step d _ _ (λ host.
    platforms_step d _ _ (λ platforms.
    defaulted_step WorkReqSeconds _ _ d _ _ (λ asked.
    defaulted_step OtherResults _ _ d _ _ (λ other_results.
    defaulted_step Results _ _ d _ _ (λ results. refl))))))))

-- the reading of an object is that of its members
pub refusal_of-meaning : (body : List ℕ) (ms : Members) → json_of body ≡ Some (object ms) → refusal_of (meaning body) ≡ told (find (is_faulty (object ms)) in_order)
unfolding meaning value_meaning and_then
refusal_of-meaning body ms is = ap (λ o. refusal_of (and_then (ok_or o BadJson) value_meaning)) is ∙ refusal_of-request_at (object ms)

not_bad_json : (m : Option Member) → Some BadJson ≡ told m → ⊥
not_bad_json None e = cc
not_bad_json (Some m) e = cc

no_object : (o : Option Data) → ((ms : Members) → o ≢ Some (object ms)) → and_then (ok_or o BadJson) value_meaning ≡ Err BadJson
unfolding value_meaning and_then
no_object None none = refl
no_object (Some null) none = refl
no_object (Some (boolean b)) none = refl
no_object (Some (number n)) none = refl
no_object (Some (string s)) none = refl
no_object (Some (array ds)) none = refl
no_object (Some (object ms)) none = absurd (none ms refl)

pub meaning-no_object : (body : List ℕ) → (meaning body ≡ Err BadJson) ↔ ((ms : Members) → json_of body ≢ Some (object ms))
unfolding meaning
meaning-no_object body =
    (λ refused ms is. not_bad_json _ (ap refusal_of (sym refused) ∙ refusal_of-meaning body ms is), no_object (json_of body))
