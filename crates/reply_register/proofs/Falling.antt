-- Kept calls with falling numbers, once one more is kept.
use Rattle.std.proofs.Common.{◌≡◌, ℕ, zero, suc, ◌≤◌, List, [], ◌∷◌, ◌++◌, length, take, nat_lt, inl, inr, sym, ap, ◌∙◌, subst, arith}
use Rattle.std.proofs.lemmas.Bool.{and_parts, ltb-true}
use Rattle.std.proofs.lemmas.List.{append-nil, drop_all, take_all, length-take}
use Rattle.reply_register.specs.Calls.{is_above_all}
use Rattle.reply_register.specs.Keeping.{most_kept, DoFall, IsLeastAt, KeepsTheLatest}
use Rattle.reply_register.specs.declared.kept.Kept.{Kept}
use Rattle.reply_register.proofs.Numbers.{above_taken}

fall_taken : (n : ℕ) (kept : List Kept) → DoFall kept → DoFall (take n kept)
fall_taken zero kept fall = tt
fall_taken (suc n) [] fall = tt
fall_taken (suc n) (k ∷ kept) fall = (above_taken n kept k.seqno fall.0, fall_taken n kept fall.1)

-- if numbers fall, the last is the least
least_last : (kept : List Kept) (place : ℕ) → DoFall kept → IsLeastAt kept place → suc place ≡ length kept
least_last [] place fall least = absurd (omega (arith, least.0))
least_last (k ∷ []) place fall least = omega (arith, least.0)
least_last (k ∷ j ∷ kept) zero fall least =
    let parts = and_parts (nat_lt j.seqno k.seqno) (is_above_all k.seqno kept) fall.0 in
    let most : k.seqno ≤ j.seqno = least.1 k 1 j (omega arith) in
    absurd (omega (arith, most, ltb-true j.seqno k.seqno parts.0))
least_last (k ∷ j ∷ kept) (suc place) fall least =
    let rest : suc place ≡ length (j ∷ kept) =
    least_last (j ∷ kept) place fall.1 (omega (arith, least.0), λ d i e less. least.1 d (suc i) e (omega (arith, less))) in
    omega (arith, rest)

pub keeps_the_latest : KeepsTheLatest
keeps_the_latest kept older calls fall most above is =
    let latest : calls ≡ kept ∷ take 3 older = elim is [
      | inl room ↦ room.1 ∙ ap (λ rest. kept ∷ rest) (sym (take_all 3 older (omega (arith, room.0))))
      | inr full ↦
          let last : suc full.1 ≡ length older = least_last older full.1 fall full.2 in
          let third : full.1 ≡ 3 = omega (arith, last, most, full.0) in
          full.3 ∙ ap (λ rest. kept ∷ rest)
          (ap (λ rest. take full.1 older ++ rest) (drop_all (suc full.1) older (omega (arith, last)))
          ∙ append-nil (take full.1 older) ∙ ap (λ n. take n older) third)
    ] in
    let P : List Kept → Type 0 = λ kept. DoFall kept × (length kept ≤ most_kept) in
    let taken : length (take 3 older) ≤ 3 = omega (arith, length-take 3 older) in
    let all : P calls = subst P (sym latest) ((above_taken 3 older kept.seqno above, fall_taken 3 older fall), omega (arith, taken)) in
    (latest, all.0, all.1)
