-- What a call is, compared with the kept calls, case by case.
use Rattle.std.proofs.Common.{◌≡◌, ◌≢◌, ℕ, zero, suc, ◌+◌, ◌<◌, ◌≤◌, List, [], ◌∷◌, length, Bool, true, false, cond, get_or, nat_lt, slice_get, refl, sym, ap, ◌∙◌, arith}
use Rattle.std.specs.Prelude.{if◌then◌else◌, position, All, Option, Some, None, option_map, unwrap_or}
use Rattle.std.specs.List.{position_from, position_or_len}
use Rattle.std.specs.Str.{bytes_eq}
use Rattle.std.proofs.lemmas.Bool.{eq-eqb, eqb-true, le-ltb, lt-ltb, false_from_ne_true}
use Rattle.std.proofs.lemmas.Bool.Decides.{nat_tests}
use Rattle.std.proofs.lemmas.Iterator.Adapters.{position_from-zero}
use Rattle.std.proofs.lemmas.List.Folds.{list_all_at}
use Rattle.std.proofs.lemmas.List.Sums.{list_all-from_AllPass}
use Rattle.std.proofs.lemmas.Option.{slice_get_within, get_or_from_slice_get}
use Rattle.std.proofs.lemmas.Slice.Eq.{bytes_eq-Decides}
use Rattle.reply_register.specs.Calls.{greatest, has_number, heard, heard_at, is_above_all, text_at, IsFirstOf, IsHeardAs}
use Rattle.reply_register.specs.declared.kept.Heard.{Heard}
use Rattle.reply_register.specs.declared.kept.Heard.TheVariants.{Fresh, Repeat, Reused, Stale}
use Rattle.reply_register.specs.declared.kept.Kept.{Kept}

other_number : (k : Kept) (seqno : ℕ) → k.seqno ≢ seqno → has_number seqno k ≡ false
other_number k seqno apart = false_from_ne_true (has_number seqno k) (λ same. apart (eqb-true k.seqno seqno same))

-- ---- places

-- the place of the first call of a number, in a list whose places start at m
pub first_from : (kept : List Kept) (seqno m place : ℕ) (k : Kept) → slice_get kept place ≡ Some k → k.seqno ≡ seqno
    → ((i : ℕ) (d : Kept) → i < place → (get_or kept i d).seqno ≢ seqno) → position_from (has_number seqno) m kept ≡ Some (m + place)
first_from [] seqno m place k there number before = absurd cc
first_from (x ∷ kept) seqno m zero k there number before =
    let same : x.seqno ≡ seqno = (let one : x ≡ k = cc in ap (λ (k : Kept). k.seqno) one) ∙ number in
    ap (λ b. cond b (Some m) (position_from (has_number seqno) (m + 1) kept)) (eq-eqb x.seqno seqno same) ∙ ap Some (let end : m ≡ m + 0 = omega arith in end)
first_from (x ∷ kept) seqno m (suc place) k there number before =
    ap (λ b. cond b (Some m) (position_from (has_number seqno) (m + 1) kept)) (other_number x seqno (before 0 x (omega arith)))
    ∙ first_from kept seqno (m + 1) place k there number (λ i d less. before (suc i) d (omega (arith, less)))
    ∙ ap Some (let end : m + 1 + place ≡ m + suc place = omega arith in end)

-- there is no such call
pub nowhere_from : (kept : List Kept) (seqno m : ℕ) → All (λ (k : Kept). k.seqno ≢ seqno) kept → position_from (has_number seqno) m kept ≡ None
nowhere_from [] seqno m apart = refl
nowhere_from (x ∷ kept) seqno m apart =
    ap (λ b. cond b (Some m) (position_from (has_number seqno) (m + 1) kept)) (other_number x seqno (apart 0 x (omega arith)))
    ∙ nowhere_from kept seqno (m + 1) (λ i d less. apart (suc i) d (omega (arith, less)))

pub position_is : (kept : List Kept) (seqno : ℕ) → position (has_number seqno) kept ≡ position_from (has_number seqno) 0 kept
position_is kept seqno = position_from-zero (has_number seqno) kept

within : (p n place : ℕ) → cond (nat_lt p n) (Some p) None ≡ Some place → place < n
within p n place is = cases (nat_lt p n) refl is
  where
    cases : (b : Bool) → nat_lt p n ≡ b → cond b (Some p) None ≡ Some place → place < n
    cases true less is = let same : p ≡ place = cc in let first : p < n = grind (arith, nat_tests) in omega (arith, same, first)
    cases false less is = absurd cc

-- ---- cases

above : (kept : List Kept) (seqno : ℕ) → All (λ (k : Kept). k.seqno < seqno) kept → is_above_all seqno kept ≡ true
above kept seqno all = list_all-from_AllPass (λ (k : Kept). nat_lt k.seqno seqno) kept (λ i d less. lt-ltb (get_or kept i d).seqno seqno (all i d less))

-- if a kept number is not below a number, that number is not above all
not_above : (kept : List Kept) (seqno place : ℕ) (k : Kept) → place < length kept → seqno ≤ (get_or kept place k).seqno → is_above_all seqno kept ≡ false
not_above kept seqno place k less most =
    list_all_at (λ (k : Kept). nat_lt k.seqno seqno) kept place k less (le-ltb (get_or kept place k).seqno seqno most)

-- a call of the number of a kept call is judged by the text of the first
pub found_heard : (kept : List Kept) (seqno place : ℕ) (text : List ℕ) (k : Kept) → IsFirstOf kept seqno place k
    → heard kept seqno text ≡ (if bytes_eq k.text text then Repeat place else Reused (greatest kept))
found_heard kept seqno place text k is =
    let at : get_or kept place k ≡ k = get_or_from_slice_get kept place k k is.there in
    let most : seqno ≤ (get_or kept place k).seqno = omega (arith, ap (λ (k : Kept). k.seqno) at, is.number) in
    let low : is_above_all seqno kept ≡ false = not_above kept seqno place k (slice_get_within kept place k is.there) most in
    let place_is : position (has_number seqno) kept ≡ Some place =
    position_is kept seqno ∙ first_from kept seqno 0 place k is.there is.number is.before ∙ ap Some (let end : 0 + place ≡ place = omega arith in end) in
    (λ i. if low i then Fresh else heard_at kept text (place_is i))
    ∙ ap (λ o. if bytes_eq (unwrap_or (option_map (λ (k : Kept). k.text) o) []) text then Repeat place else Reused (greatest kept)) is.there

pub nowhere_heard : (kept : List Kept) (seqno : ℕ) (text : List ℕ) → All (λ (k : Kept). k.seqno ≢ seqno) kept → is_above_all seqno kept ≡ false
    → heard kept seqno text ≡ Stale (greatest kept)
nowhere_heard kept seqno text apart low =
    let place_is : position (has_number seqno) kept ≡ None = position_is kept seqno ∙ nowhere_from kept seqno 0 apart in
    λ i. if low i then Fresh else heard_at kept text (place_is i)

repeat_within : (kept : List Kept) (seqno : ℕ) (text : List ℕ) (place : ℕ) → heard kept seqno text ≡ Repeat place → place < length kept
repeat_within kept seqno text place is = cases (is_above_all seqno kept) (position (has_number seqno) kept) refl is
  where
    told : (b : Bool) (p : ℕ) → (if b then Repeat p else Reused (greatest kept)) ≡ Repeat place → p ≡ place
    told true p is = cc
    told false p is = absurd cc

    cases : (high : Bool) (o : Option ℕ) → position (has_number seqno) kept ≡ o → (if high then Fresh else heard_at kept text o) ≡ Repeat place
        → place < length kept
    cases true o found is = absurd cc
    cases false None found is = absurd cc
    cases false (Some p) found is =
        within (position_or_len (has_number seqno) kept) (length kept) place (found ∙ ap Some (told (bytes_eq (text_at kept p) text) p is))

pub heard_as : (kept : List Kept) (seqno : ℕ) (text : List ℕ) (h : Heard) → h ≡ heard kept seqno text → IsHeardAs kept seqno text h
heard_as kept seqno text h is = record {
  fresh = λ all. is ∙ ap (λ b. if b then Fresh else heard_at kept text (position (has_number seqno) kept)) (above kept seqno all);
  repeat = λ place k first same. is ∙ found_heard kept seqno place text k first
      ∙ ap (λ b. if b then Repeat place else Reused (greatest kept)) ((bytes_eq-Decides k.text text).1 (sym same));
  reused = λ place k first other. is ∙ found_heard kept seqno place text k first
      ∙ ap (λ b. if b then Repeat place else Reused (greatest kept)) (false_from_ne_true (bytes_eq k.text text) (λ same. other (sym ((bytes_eq-Decides k.text text).0 same))));
  stale = λ apart greater. is ∙ nowhere_heard kept seqno text apart
      (not_above kept seqno greater.0 greater.1 greater.2 (omega (arith, ap (λ (k : Kept). k.seqno) greater.3, greater.4)));
  within = λ place told. repeat_within kept seqno text place (sym is ∙ told);
}
