-- What holds of all reports holds of the first one of each name.
use Rattle.std.proofs.Common.{◌≡◌, ℕ, Bool, true, false, cond, List, [], ◌∷◌, sym, subst, Bor}
use Rattle.std.specs.Prelude.{All, map}
use Rattle.std.specs.List.{list_any}
use Rattle.std.specs.Str.{bytes_eq}
use Rattle.std.proofs.lemmas.List.Elements.{All-nil, All-cons, All-head, All-tail}
use Rattle.rpc_records.specs.Ranges.{IsReport}
use Rattle.rpc_records.specs.declared.request.Report.{Report}
use Rattle.sched_book.specs.Reports.{first_of_each, first_reports}

pub all_first : (P : Report → Type 0) (seen : List (List ℕ)) (rs : List Report) → All P rs → All P (first_of_each (λ (r : Report). r.name) seen rs)
all_first P seen [] all = All-nil P
all_first P seen (r ∷ rs) all =
    let rest : All P rs = All-tail P r rs all in
    cases (list_any (bytes_eq r.name) seen) (all_first P seen rs rest)
    (All-cons P r (first_of_each (λ (r : Report). r.name) (r.name ∷ seen) rs) (All-head P r rs all) (all_first P (r.name ∷ seen) rs rest))
  where
    cases : (b : Bool) → All P (first_of_each (λ (r : Report). r.name) seen rs) → All P (r ∷ first_of_each (λ (r : Report). r.name) (r.name ∷ seen) rs)
        → All P (cond b (first_of_each (λ (r : Report). r.name) seen rs) (r ∷ first_of_each (λ (r : Report). r.name) (r.name ∷ seen) rs))
    cases true passed new = passed
    cases false passed new = new

-- so the first reports of a request in range are in range
pub firsts_in_range : (reports : List Report) (firsts : List (Bor Report)) → map (λ r. r.now) firsts ≡ first_reports reports → All IsReport reports
    → All (λ r. IsReport r.now) firsts
firsts_in_range reports firsts are told =
    mapped firsts (subst (All IsReport) (sym are) (all_first IsReport [] reports told))
  where
    mapped : (rs : List (Bor Report)) → All IsReport (map (λ r. r.now) rs) → All (λ r. IsReport r.now) rs
    mapped [] all = All-nil (λ r. IsReport r.now)
    mapped (r ∷ rs) all =
        All-cons (λ r. IsReport r.now) r rs (All-head IsReport r.now (map (λ r. r.now) rs) all) (mapped rs (All-tail IsReport r.now (map (λ r. r.now) rs) all))
