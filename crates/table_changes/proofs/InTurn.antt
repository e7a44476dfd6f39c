-- The keys that a loop has seen.
use Rattle.std.proofs.Common.{◌≡◌, ◌⊎◌, ℕ, ◌+◌, ◌<◌, ◌≤◌, Bool, true, false, ◌&&◌, ◌||◌, eqb, ltb, List, [], ◌∷◌, ◌++◌, length, take, get_or, None, refl, sym, ap, ◌∙◌, inl, inr, arith, true≢false}
use Rattle.std.proofs.lemmas.Bool.{and_parts, eqb-true, ltb-true, ltb-false, or_cases}
use Rattle.std.proofs.lemmas.Bool.Decides.{nat_tests}
use Rattle.std.proofs.lemmas.List.{take_more}
use Rattle.std.proofs.lemmas.List.Folds.{list_any-append}
use Rattle.sched_book.specs.declared.world.World.{World}
use Rattle.table_worlds.specs.Keys.{row_in}
use Rattle.table_worlds.specs.declared.keys.WorldKey.{WorldKey}
use Rattle.table_worlds.specs.declared.keys.WorldKey.TheVariants.{Account, Unit as UnitKey, Mark, Host, Instance}
use Rattle.table_changes.specs.Added.{is_unit_among, is_mark_among, is_host_among, is_instance_among}
use Rattle.table_changes.proofs.Adding.{IsSettled}
use Rattle.call_working_set.specs.WorkingSets.{is_among}

-- the numbers so far, with one more
more_among : (ns : List ℕ) (i n id : ℕ) → i < length ns → get_or ns i 0 ≡ n → is_among (take (i + 1) ns) id ≡ true → (id ≡ n) ⊎ (is_among (take i ns) id ≡ true)
more_among ns i n id within at is =
    elim (or_cases (is_among (take i ns) id) (eqb n id || false)
    (sym (ap (λ l. is_among l id) (take_more ns i 0 within ∙ ap (λ m. take i ns ++ m ∷ []) at) ∙ list_any-append (λ m. eqb m id) (take i ns) (n ∷ [])) ∙ is)) [
      | inl here ↦ inr here
      | inr last ↦ elim (or_cases (eqb n id) false last) [ inl same ↦ inl (sym (eqb-true n id same)) | inr none ↦ absurd (true≢false (sym none)) ]
    ]

pub units_next : (ns : List ℕ) (i n : ℕ) → i < length ns → get_or ns i 0 ≡ n → (k : WorldKey) → is_unit_among (take (i + 1) ns) k ≡ true → (k ≡ UnitKey n) ⊎ (is_unit_among (take i ns) k ≡ true)
units_next ns i n within at (UnitKey id) is = elim (more_among ns i n id within at is) [ inl same ↦ inl (ap UnitKey same) | inr here ↦ inr here ]
units_next ns i n within at _ is = absurd (true≢false (sym is))

pub marks_next : (ns : List ℕ) (i n : ℕ) → i < length ns → get_or ns i 0 ≡ n → (k : WorldKey) → is_mark_among (take (i + 1) ns) k ≡ true → (k ≡ Mark n) ⊎ (is_mark_among (take i ns) k ≡ true)
marks_next ns i n within at (Mark id) is = elim (more_among ns i n id within at is) [ inl same ↦ inl (ap Mark same) | inr here ↦ inr here ]
marks_next ns i n within at _ is = absurd (true≢false (sym is))

pub hosts_next : (ns : List ℕ) (i n : ℕ) → i < length ns → get_or ns i 0 ≡ n → (k : WorldKey) → is_host_among (take (i + 1) ns) k ≡ true → (k ≡ Host n) ⊎ (is_host_among (take i ns) k ≡ true)
hosts_next ns i n within at (Host id) is = elim (more_among ns i n id within at is) [ inl same ↦ inl (ap Host same) | inr here ↦ inr here ]
hosts_next ns i n within at _ is = absurd (true≢false (sym is))

pub instances_then : (ns : List ℕ) (i n : ℕ) → i < length ns → get_or ns i 0 ≡ n → (k : WorldKey) → is_instance_among (take (i + 1) ns) k ≡ true
    → (is_instance_among (take i ns) k ≡ true) ⊎ (is_instance_among (n ∷ []) k ≡ true)
instances_then ns i n within at (Instance p) is =
    elim (more_among ns i n p.unit within at is) [
      | inl same ↦ inr (ap (λ b. b || false) (let here : eqb n p.unit ≡ true = grind (arith, nat_tests) in here))
      | inr here ↦ inl here
    ]
instances_then ns i n within at _ is = absurd (true≢false (sym is))

-- no key yet
pub no_unit : (k : WorldKey) → is_unit_among [] k ≡ true → (P : Type 0) → P
no_unit (Account id) is P = absurd (true≢false (sym is))
no_unit _ is P = absurd (true≢false (sym is))

pub no_mark : (k : WorldKey) → is_mark_among [] k ≡ true → (P : Type 0) → P
no_mark (Account id) is P = absurd (true≢false (sym is))
no_mark _ is P = absurd (true≢false (sym is))

pub no_host : (k : WorldKey) → is_host_among [] k ≡ true → (P : Type 0) → P
no_host (Account id) is P = absurd (true≢false (sym is))
no_host _ is P = absurd (true≢false (sym is))

pub no_instance : (k : WorldKey) → is_instance_among [] k ≡ true → (P : Type 0) → P
no_instance (Account id) is P = absurd (true≢false (sym is))
no_instance _ is P = absurd (true≢false (sym is))

-- the key is that of one of the first `n` instances of a workunit
abbrev pub is_instance_below : ℕ → ℕ → WorldKey → Bool
is_instance_below unit n (Instance p) = eqb unit p.unit && ltb p.number n
is_instance_below unit n _ = false

pub none_below : (unit : ℕ) (k : WorldKey) → is_instance_below unit 0 k ≡ true → (P : Type 0) → P
none_below unit (Instance p) is P = let less : p.number < 0 = ltb-true p.number 0 (and_parts (eqb unit p.unit) (ltb p.number 0) is).1 in absurd (omega (arith, less))
none_below unit _ is P = absurd (true≢false (sym is))

pub instances_next : (unit n : ℕ) (k : WorldKey) → is_instance_below unit (n + 1) k ≡ true → (k ≡ Instance (record { unit = unit; number = n })) ⊎ (is_instance_below unit n k ≡ true)
instances_next unit n (Instance p) is = cases (ltb p.number n) refl
  where
    parts : (eqb unit p.unit ≡ true) × (ltb p.number (n + 1) ≡ true)
    parts = and_parts (eqb unit p.unit) (ltb p.number (n + 1)) is

    of_unit : unit ≡ p.unit
    of_unit = eqb-true unit p.unit parts.0

    cases : (b : Bool) → ltb p.number n ≡ b → (Instance p ≡ Instance (record { unit = unit; number = n })) ⊎ ((eqb unit p.unit && ltb p.number n) ≡ true)
    cases true less = inr (ap (λ b. b && ltb p.number n) parts.0 ∙ less)
    cases false past =
        let high : n ≤ p.number = ltb-false p.number n past in
        let low : p.number < n + 1 = ltb-true p.number (n + 1) parts.1 in
        let last : p.number ≡ n = omega (arith, high, low) in
        inl (ap (λ u. Instance (record { unit = u; number = p.number })) (sym of_unit) ∙ ap (λ m. Instance (record { unit = unit; number = m })) last)
instances_next unit n _ is = absurd (true≢false (sym is))

-- all of them, if there is no instance from number `n` on
pub instances_all : (before after : World) (unit n : ℕ) → ((number : ℕ) → n ≤ number → row_in after (Instance (record { unit = unit; number = number })) ≡ None)
    → (k : WorldKey) → is_instance_among (unit ∷ []) k ≡ true → (is_instance_below unit n k ≡ true) ⊎ IsSettled before after k
instances_all before after unit n none (Instance p) is = cases (ltb p.number n) refl
  where
    here : eqb unit p.unit ≡ true
    here = elim (or_cases (eqb unit p.unit) false is) [ inl same ↦ same | inr never ↦ absurd (true≢false (sym never)) ]

    cases : (b : Bool) → ltb p.number n ≡ b → ((eqb unit p.unit && ltb p.number n) ≡ true) ⊎ IsSettled before after (Instance p)
    cases true less = inl (ap (λ b. b && ltb p.number n) here ∙ less)
    cases false past =
        inr (inl (ap (λ u. row_in after (Instance (record { unit = u; number = p.number }))) (sym (eqb-true unit p.unit here)) ∙ none p.number (ltb-false p.number n past)))
instances_all before after unit n none _ is = absurd (true≢false (sym is))
