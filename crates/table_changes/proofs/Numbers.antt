-- Numbers at which maps have an entry, and sets of them.
use Rattle.std.proofs.Common.{◌≡◌, ℕ, ◌+◌, ◌<◌, Bool, true, false, cond, eqb, ◌||◌, List, [], ◌∷◌, ◌++◌, length, take, get_or, Option, Some, None, Ok, Err, Result, Vec, Global, IfOk, refl, sym, ap, ap₂, ◌∙◌, arith}
use Rattle.std.proofs.lemmas.Bool.{or_parts}
use Rattle.std.proofs.lemmas.Bool.Decides.{nat_tests}
use Rattle.std.proofs.lemmas.List.{take_more}
use Rattle.std.proofs.lemmas.List.Folds.{list_any-append}
use Rattle.std.specs.Prelude.{is_some}
use Rattle.std.specs.BTreeMap.{BTreeMap, get, is_at, keys}
use Rattle.std.specs.BTreeSet.{BTreeSet, contains}
use Rattle.std.specs.List.{list_any}
use Rattle.std.specs.Map.{lookup, keys_of}
use Rattle.std.specs.Ordering.{nat_cmp, is_eq}
use Rattle.call_working_set.proofs.UnitStates.{same}
use Rattle.call_working_set.specs.WorkingSets.{is_among}

-- an entry is found exactly at the keys
among_keys : {X : Type 0} (n : ℕ) (es : List (ℕ × X)) → is_some (lookup (is_at (nat_cmp n)) es) ≡ is_among (keys_of es) n
among_keys n [] = refl
among_keys {X} n (e ∷ es) = cases (among_keys n es) (eqb e.0 n) (same n e.0)
  where
    cases : is_some (lookup (is_at (nat_cmp n)) es) ≡ is_among (keys_of es) n → (b : Bool) → is_eq (nat_cmp n e.0) ≡ b
        → is_some (cond (is_eq (nat_cmp n e.0)) (Some e.1) (lookup (is_at (nat_cmp n)) es)) ≡ (b || is_among (keys_of es) n)
    cases rest true is = ap (λ (b : Bool). is_some (cond b (Some e.1) (lookup (is_at (nat_cmp n)) es))) is
    cases rest false is = ap (λ (b : Bool). is_some (cond b (Some e.1) (lookup (is_at (nat_cmp n)) es))) is ∙ rest

-- the collected keys, if there was enough memory
pub collected : {X E : Type 0} (m : BTreeMap ℕ X) (r : Result (Vec ℕ Global) E) → IfOk r (λ v. v.items ≡ keys m)
    → IfOk r (λ v. (n : ℕ) → is_some (get nat_cmp m n) ≡ is_among v.items n)
collected m (Ok v) are = λ n. among_keys n m.entries ∙ ap (λ ns. is_among ns n) (sym are)
collected m (Err e) are = tt

-- a set contains the numbers that are among its keys
among_set : (n : ℕ) (ns : List ℕ) → list_any (λ k. is_eq (nat_cmp n k)) ns ≡ is_among ns n
among_set n [] = refl
among_set n (k ∷ ns) = ap₂ (λ (a b : Bool). a || b) (same n k) (among_set n ns)

-- one number more
pub put_next : (ns : List ℕ) (i k : ℕ) (old new initial : BTreeSet ℕ) → i < length ns → get_or ns i 0 ≡ k
    → ((q : ℕ) → contains nat_cmp new q ≡ cond (is_eq (nat_cmp k q)) true (contains nat_cmp old q))
    → ((n : ℕ) → contains nat_cmp old n ≡ (is_among (take i ns) n || contains nat_cmp initial n))
    → (n : ℕ) → contains nat_cmp new n ≡ (is_among (take (i + 1) ns) n || contains nat_cmp initial n)
put_next ns i k old new initial within at updates so_far n =
    updates n
    ∙ ap (λ b. cond b true (contains nat_cmp old n)) (same k n)
    ∙ ap (λ b. cond (eqb n k) true b) (so_far n)
    ∙ cases (is_among (take i ns) n) (eqb n k) (eqb k n) (contains nat_cmp initial n) (let turned : eqb n k ≡ eqb k n = grind (arith, nat_tests) in turned)
    ∙ ap (λ b. b || contains nat_cmp initial n)
    (sym (ap (λ l. is_among l n) (take_more ns i 0 within ∙ ap (λ m. take i ns ++ m ∷ []) at) ∙ list_any-append (λ m. eqb m n) (take i ns) (k ∷ [])))
  where
    cases : (a b c d : Bool) → b ≡ c → cond b true (a || d) ≡ ((a || (c || false)) || d)
    cases true true true d is = refl
    cases true false false d is = refl
    cases false true true d is = refl
    cases false false false d is = refl
    cases a true false d is = absurd cc
    cases a false true d is = absurd cc

-- no entry is found at a number that is not among those of three maps
nothing : {X : Type 0} (o : Option X) (b : Bool) → is_some o ≡ b → b ≡ false → o ≡ None
nothing None b is none = refl
nothing (Some x) b is none = absurd cc

pub none_of_three : {X Y Z : Type 0} (p : BTreeMap ℕ X) (q : BTreeMap ℕ Y) (r : BTreeMap ℕ Z) (xs ys zs all : List ℕ) (empty one two three : BTreeSet ℕ)
    → ((n : ℕ) → is_some (get nat_cmp p n) ≡ is_among xs n) → ((n : ℕ) → is_some (get nat_cmp q n) ≡ is_among ys n) → ((n : ℕ) → is_some (get nat_cmp r n) ≡ is_among zs n)
    → ((n : ℕ) → contains nat_cmp one n ≡ (is_among xs n || contains nat_cmp empty n))
    → ((n : ℕ) → contains nat_cmp two n ≡ (is_among ys n || contains nat_cmp one n))
    → ((n : ℕ) → contains nat_cmp three n ≡ (is_among zs n || contains nat_cmp two n))
    → all ≡ three.keys → (n : ℕ) → is_among all n ≡ false → (get nat_cmp p n ≡ None) × (get nat_cmp q n ≡ None) × (get nat_cmp r n ≡ None)
none_of_three p q r xs ys zs all empty one two three in_p in_q in_r first second third are n among =
    let parts_3 = or_parts (is_among zs n) (contains nat_cmp two n) (sym (third n) ∙ among_set n three.keys ∙ ap (λ ns. is_among ns n) (sym are) ∙ among) in
    let parts_2 = or_parts (is_among ys n) (contains nat_cmp one n) (sym (second n) ∙ parts_3.1) in
    let parts_1 = or_parts (is_among xs n) (contains nat_cmp empty n) (sym (first n) ∙ parts_2.1) in
    (nothing (get nat_cmp p n) (is_among xs n) (in_p n) parts_1.0, nothing (get nat_cmp q n) (is_among ys n) (in_q n) parts_2.0, nothing (get nat_cmp r n) (is_among zs n) (in_r n) parts_3.0)
