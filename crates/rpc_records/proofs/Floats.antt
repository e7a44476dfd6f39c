-- No text of this crate has a float, so each is the one compact text of its value.
use Rattle.std.proofs.Common.{◌≡◌, ℕ, ℤ, pos, negsuc, List, [], ◌∷◌, map, false, Option, Some, None, refl}
use Rattle.std.proofs.lemmas.Bool.{or_from}
use Rattle.serde_json.specs.Data.{Data, string, Members}
use Rattle.serde_json.specs.Find.{is_float, of_integer}
use Rattle.serde_json.specs.View.{items_of}
use Rattle.serde_json.specs.Written.{has_float, items_have_float, members_have_float}
use Rattle.rpc_records.specs.Replies.{job_json, reply_json}
use Rattle.rpc_records.specs.Spelling.{alternatives, report_json, with_other_results, request_json}
use Rattle.rpc_records.specs.declared.reply.Reply.{Reply}
use Rattle.rpc_records.specs.declared.request.Report.{Report}
use Rattle.rpc_records.specs.declared.request.Request.{Request}

no_float_in : {A : Type 0} (json : A → Data) (xs : List A) → ((x : A) → has_float (json x) ≡ false) → items_have_float (items_of (map json xs)) ≡ false
no_float_in json [] each = refl
no_float_in json (x ∷ xs) each = or_from _ _ (each x) (no_float_in json xs each)

pub no_float-reply_json : (r : Reply) → has_float (reply_json r) ≡ false
unfolding reply_json
no_float-reply_json r =
    or_from _ _ (no_float_in string r.result_abort (λ _. refl))
    (or_from _ _ (no_float_in string r.result_ack (λ _. refl)) (or_from _ _ (no_float_in job_json r.results (λ _. refl)) refl))

no_float-of_integer : (z : ℤ) → is_float (of_integer z) ≡ false
no_float-of_integer (pos n) = refl
no_float-of_integer (negsuc n) = refl

no_float-report_json : (p : Report) → has_float (report_json p) ≡ false
no_float-report_json p = or_from _ _ (no_float-of_integer p.exit_status) refl

members_have_float-with_other_results : (listed : Option (List (List ℕ))) (rest : Members) → members_have_float (with_other_results listed rest) ≡ members_have_float rest
members_have_float-with_other_results None rest = refl
members_have_float-with_other_results (Some names) rest = rw (no_float_in string names (λ _. refl))

pub no_float-request_json : (r : Request) → has_float (request_json r) ≡ false
unfolding request_json
no_float-request_json r =
    rw members_have_float-with_other_results
    (or_from _ _ (no_float_in string (alternatives r) (λ _. refl)) (or_from _ _ (no_float_in report_json r.results no_float-report_json) refl))
