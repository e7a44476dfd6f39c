-- A name and its last underscore.
use Rattle.std.proofs.Common.{Option, subst, ◌≡◌, ◌≢◌, ℕ, ◌+◌, ◌-◌, ◌<◌, ◌≤◌, Bool, true, false, eqb, not, cond, List, [], ◌∷◌, length, take, drop, get_or, sym, refl, ap, ◌∙◌, arith, None, lit<, suc}
use Rattle.std.specs.Prelude.{◌||◌, option_map}
use Rattle.std.specs.List.{list_any, before_last, after_last, suffix_len}
use Rattle.std.specs.Str.{NoCharPasses}
use Rattle.std.specs.Str.Pattern.{RFindsChar, SplitsAroundMatch}
use Rattle.std.proofs.lemmas.Bool.{ne_eqb}
use Rattle.std.proofs.lemmas.Str.Pattern.{NoCharPasses-char}
use Rattle.std.proofs.lemmas.List.Folds.{list_any_at}
use Rattle.std.proofs.lemmas.List.Sums.{suffix_len_is}
use Rattle.std.proofs.lemmas.List.{get_or-drop, length-drop}
use borrow.Author.Tests.{eq-eqb}
use Rattle.sched_book.specs.Names.{name_parts, small_number}

abbrev pub is_underscore : ℕ → Bool
is_underscore c = eqb c 95

pub no_underscore : (s : List ℕ) → ((i : ℕ) → i < length s → get_or s i 0 ≢ 95) → list_any is_underscore s ≡ false
no_underscore [] none = refl
no_underscore (c ∷ cs) none =
    ap (λ (b : Bool). b || list_any is_underscore cs) (ne_eqb c 95 (none 0 (omega arith)))
    ∙ no_underscore cs (λ i within. none (suc i) (omega arith))

pub name_parts-none : (s : List ℕ) → NoCharPasses (λ d. eqb d 95) s → name_parts s ≡ None
name_parts-none s none =
    ap (λ (b : Bool). cond b (option_map (λ number. (before_last is_underscore s, number)) (small_number (after_last is_underscore s))) None)
    (no_underscore s (λ i within. NoCharPasses-char 95 s i none (lit< tt) within))

-- what follows index i, if there is an underscore at i and none after it
behind : (s : List ℕ) (i : ℕ) → i < length s → get_or s i 0 ≡ 95 → ((k : ℕ) → k < length (drop (i + 1) s) → get_or (drop (i + 1) s) k 0 ≢ 95)
    → suffix_len (λ c. not (is_underscore c)) s ≡ length s - (i + 1)
behind s i within here none =
    suffix_len_is (λ c. not (is_underscore c)) s (i + 1) 0 (omega arith) later (λ _. ap (λ n. not (is_underscore (get_or s n 0))) same ∙ ap not (eq-eqb (get_or s i 0) 95 here))
  where
    same : i + 1 - 1 ≡ i
    same = omega arith

    later : (k : ℕ) → i + 1 ≤ k → k < length s → not (is_underscore (get_or s k 0)) ≡ true
    later k above inside =
        let place : i + 1 + (k - (i + 1)) ≡ k = omega arith in
        let short : k - (i + 1) < length (drop (i + 1) s) = simp length-drop (omega arith) in
        let read : get_or (drop (i + 1) s) (k - (i + 1)) 0 ≡ get_or s k 0 = get_or-drop (i + 1) s (k - (i + 1)) 0 ∙ ap (λ n. get_or s n 0) place in
        ap not (ne_eqb (get_or s k 0) 95 (λ is. none (k - (i + 1)) short (read ∙ is)))

-- a name is split at its last underscore
pub name_parts-at : (s : List ℕ) (i : ℕ) → i < length s → get_or s i 0 ≡ 95
    → ((k : ℕ) → k < length (drop (i + 1) s) → get_or (drop (i + 1) s) k 0 ≢ 95)
    → name_parts s ≡ option_map (λ number. (take i s, number)) (small_number (drop (i + 1) s))
name_parts-at s i within here none =
    found (list_any_at is_underscore s i 0 within (eq-eqb (get_or s i 0) 95 here))
    (length s - suffix_len (λ c. not (is_underscore c)) s) (omega (arith, behind s i within here none))
  where
    split_at : ℕ → ℕ → Option (List ℕ × ℕ)
    split_at m n = option_map (λ number. (take m s, number)) (small_number (drop n s))

    found : list_any is_underscore s ≡ true → (n : ℕ) → n ≡ i + 1 → cond (list_any is_underscore s) (split_at (n - 1) n) None ≡ split_at i (i + 1)
    found any n next =
        let before : n - 1 ≡ i = omega arith in
        ap (λ (b : Bool). cond b (split_at (n - 1) n) None) any ∙ ap (λ m. split_at m n) before ∙ ap (split_at i) next

pub name_parts-some : (s front back : List ℕ) → SplitsAroundMatch (RFindsChar 95) s front back
    → name_parts s ≡ option_map (λ number. (front, number)) (small_number back)
name_parts-some s front back split =
    at_match split.0 split.1 split.2.1.ends (omega (arith, split.2.1.after.0)) (split.2.1.byte (lit< tt)) split.2.0 split.3 split.4
  where
    at_match : (i j : ℕ) → j ≡ i + 1 → i < length s → get_or s i 0 ≡ 95 → NoCharPasses (λ d. eqb d 95) (drop j s) → front ≡ take i s → back ≡ drop j s
        → name_parts s ≡ option_map (λ number. (front, number)) (small_number back)
    at_match i j next within here clear before after =
        let at_next : drop j s ≡ drop (i + 1) s = ap (λ n. drop n s) next in
        let clear_next : NoCharPasses (λ d. eqb d 95) (drop (i + 1) s) = subst (NoCharPasses (λ d. eqb d 95)) at_next clear in
        name_parts-at s i within here (λ k inside. NoCharPasses-char 95 (drop (i + 1) s) k clear_next (lit< tt) inside)
        ∙ ap (λ x. option_map (λ number. (x, number)) (small_number (drop (i + 1) s))) (sym before)
        ∙ ap (λ x. option_map (λ number. (front, number)) (small_number x)) (sym (after ∙ at_next))

pub ruleset splits = (name_parts-none)
