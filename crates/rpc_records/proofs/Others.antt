-- A reading depends only on the members with these names.
use Rattle.std.proofs.Common.{◌≡◌, ℕ, List, Option, Some, Result, Ok, Err, refl, sym, ap, ◌∙◌, All}
use Rattle.std.proofs.lemmas.List.Elements.{recursion_from_All}
use Rattle.std.specs.Option.{ok_or, option_and_then}
use Rattle.serde_json.specs.Data.{Data, Members, object}
use Rattle.serde_json.specs.Find.{get}
use Rattle.rpc_records.specs.Members.{member_name}
use Rattle.rpc_records.specs.Order.{at_top}
use Rattle.rpc_records.specs.Reading.{needed, defaulted, host_info_at, platforms_at, request_at, json_of, value_meaning, meaning}
use Rattle.texts.specs.Reading.{and_then}
use Rattle.rpc_records.specs.Values.{read_or}
use Rattle.rpc_records.specs.declared.fault.Fault.{Fault}
use Rattle.rpc_records.specs.declared.fault.Fault.TheVariants.{BadJson, BadMember}
use Rattle.rpc_records.specs.declared.fault.Member.{Member}
use Rattle.rpc_records.specs.declared.fault.Member.TheVariants.{HostInfo, PlatformName, AltPlatforms}

same_steps : {A B : Type 0} (r s : Result A Fault) (f g : A → Result B Fault) → r ≡ s → ((x : A) → f x ≡ g x) → and_then r f ≡ and_then s g
unfolding and_then
same_steps (Ok x) s f g same next = next x ∙ ap (λ t. and_then t g) same
same_steps (Err e) s f g same next = ap (λ t. and_then t g) same

needed_same : {A : Type 0} (m : Member) (reads : Data → Option A) (d e : Data) → get (member_name m) d ≡ get (member_name m) e → needed m reads d ≡ needed m reads e
unfolding needed
needed_same m reads d e same = ap (λ o. ok_or (option_and_then reads o) (BadMember m)) same

defaulted_same : {A : Type 0} (m : Member) (default : A) (reads : Data → Option A) (d e : Data) → get (member_name m) d ≡ get (member_name m) e → defaulted m default reads d ≡ defaulted m default reads e
unfolding defaulted
defaulted_same m default reads d e same = ap (λ o. ok_or (read_or default reads o) (BadMember m)) same

host_same : (d e : Data) → get (member_name HostInfo) d ≡ get (member_name HostInfo) e → host_info_at d ≡ host_info_at e
unfolding host_info_at
host_same d e same = same_steps _ _ _ _ (needed_same _ _ d e same) (λ info. refl)

platforms_same : (d e : Data) → get (member_name PlatformName) d ≡ get (member_name PlatformName) e → get (member_name AltPlatforms) d ≡ get (member_name AltPlatforms) e → platforms_at d ≡ platforms_at e
unfolding platforms_at
platforms_same d e own others = same_steps _ _ _ _ (needed_same _ _ d e own) (λ _. same_steps _ _ _ _ (defaulted_same _ _ _ d e others) (λ _. refl))

request_same : (d e : Data) → All (λ m. get (member_name m) d ≡ get (member_name m) e) at_top → request_at d ≡ request_at e
unfolding request_at
request_same d e all =
    let same = recursion_from_All (λ m. get (member_name m) d ≡ get (member_name m) e) at_top all in
    same_steps _ _ _ _ (needed_same _ _ d e same.0) (λ authenticator.
    same_steps _ _ _ _ (defaulted_same _ _ _ d e same.1.0) (λ hostid.
    same_steps _ _ _ _ (needed_same _ _ d e same.1.1.0) (λ rpc_seqno.
    same_steps _ _ _ _ (host_same d e same.1.1.1.0) (λ host.
    same_steps _ _ _ _ (platforms_same d e same.1.1.1.1.0 same.1.1.1.1.1.0) (λ platforms.
    same_steps _ _ _ _ (defaulted_same _ _ _ d e same.1.1.1.1.1.1.0) (λ asked.
    same_steps _ _ _ _ (defaulted_same _ _ _ d e same.1.1.1.1.1.1.1.0) (λ other_results.
    same_steps _ _ _ _ (defaulted_same _ _ _ d e same.1.1.1.1.1.1.1.1.0) (λ results. refl))))))))

pub meaning_of_members : (a b : List ℕ) (ms ns : Members) → json_of a ≡ Some (object ms) → json_of b ≡ Some (object ns)
    → All (λ m. get (member_name m) (object ms) ≡ get (member_name m) (object ns)) at_top → meaning a ≡ meaning b
unfolding meaning value_meaning and_then
meaning_of_members a b ms ns is_a is_b same =
    ap (λ o. and_then (ok_or o BadJson) value_meaning) is_a ∙ request_same (object ms) (object ns) same ∙ sym (ap (λ o. and_then (ok_or o BadJson) value_meaning) is_b)
