-- Calls may be kept with a world if each may be a call of some host, and the greatest of their hosts exists.
use Rattle.std.proofs.Common.{◌≡◌, ℕ, Bool, true, false, ◌&&◌, ◌==◌, not, nat_le, ◌-◌, List, [], ◌∷◌, fold, length, refl, sym, ap, ◌∙◌, inl, inr, arith}
use Rattle.std.specs.List.{list_all}
use Rattle.std.specs.Prelude.{is_some}
use Rattle.std.proofs.lemmas.Bool.Decides.{nat_tests}
use Rattle.std.proofs.lemmas.Option.{slice_get_cases}
use Rattle.sched_book.specs.Places.{nth}
use Rattle.sched_book.specs.declared.world.World.{World}
use Rattle.table_meaning.specs.declared.rows.StoredRow.{StoredRow}
use Rattle.table_meaning.specs.declared.rows.StoredRow.TheVariants as stored
use Rattle.table_reading.specs.Reading.{AllRows, reading_of, is_call, is_call_of, later_host}
use Rattle.sqlite_tied.proofs.RuleLemmas.{and_assoc}

none_fits : (b : Bool) → false ≡ (b && false)
none_fits true = refl
none_fits false = refl

no_call : (b c : Bool) → ((b && true) && c) ≡ ((b && c) && true)
no_call true true = refl
no_call true false = refl
no_call false c = refl

stands : {X : Type 0} (xs : List X) (n : ℕ) → is_some (nth xs n) ≡ (not (n == 0) && nat_le n (length xs))
stands xs n = elim (slice_get_cases xs (n - 1)).1 [
  | inl found ↦ rw found.2 (grind (arith, nat_tests, found.1))
  | inr past ↦ rw past.1 (grind (arith, nat_tests, past.0))
]

one_fits : (w : World) (n : ℕ) (r : StoredRow) → (is_call r && nat_le (later_host n r) (length w.hosts)) ≡ (nat_le n (length w.hosts) && is_call_of w r)
one_fits w n (stored.Kept k) = rw (stands w.hosts k.host_id) (grind (arith, nat_tests))
one_fits w n _ = none_fits (nat_le n (length w.hosts))

calls_fit : (w : World) (b : Bool) (n : ℕ) (calls : List StoredRow) → ((b && list_all is_call calls) && nat_le (fold later_host n calls) (length w.hosts)) ≡ ((b && nat_le n (length w.hosts)) && list_all (is_call_of w) calls)
calls_fit w b n [] = no_call b (nat_le n (length w.hosts))
calls_fit w b n (r ∷ rs) =
    ap (λ c. c && nat_le (fold later_host (later_host n r) rs) (length w.hosts)) (sym (and_assoc b (is_call r) (list_all is_call rs)))
    ∙ calls_fit w (b && is_call r) (later_host n r) rs
    ∙ ap (λ c. c && list_all (is_call_of w) rs) (and_assoc b (is_call r) (nat_le (later_host n r) (length w.hosts)) ∙ ap (λ c. b && c) (one_fits w n r) ∙ sym (and_assoc b (nat_le n (length w.hosts)) (is_call_of w r)))
    ∙ and_assoc (b && nat_le n (length w.hosts)) (is_call_of w r) (list_all (is_call_of w) rs)

pub calls_tested : (w : World) (all : AllRows) → ((reading_of all).are_calls && nat_le (reading_of all).last_host (length w.hosts)) ≡ list_all (is_call_of w) all.calls
calls_tested w all = calls_fit w true 0 all.calls ∙ ap (λ b. b && list_all (is_call_of w) all.calls) (let least : nat_le 0 (length w.hosts) ≡ true = grind (arith, nat_tests) in least)
