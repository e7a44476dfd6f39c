-- What scores say of each host, summed.
use Rattle.std.proofs.Common.{◌≡◌, ℕ, zero, suc, ◌+◌, ◌≤◌, Bool, true, false, cond, eqb, List, [], ◌∷◌, Option, Some, None, sym, refl, ap, ◌∙◌, subst, arith, IfSome}
use Rattle.std.proofs.lemmas.Bool.{eqb-true, eq-eqb}
use Rattle.std.proofs.lemmas.Cmp.{nat_cmp_total, eq_by_cmp_equiv}
use Rattle.std.proofs.lemmas.List.Sums.{sum_by-cons}
use Rattle.std.proofs.lemmas.Map.Keys.{IsDistinct-from_sorted}
use Rattle.std.proofs.lemmas.Map.Views.{All-values_from_lookup, IfSome-lookup_from_All}
use Rattle.std.specs.Prelude.{◌||◌, min, All}
use Rattle.std.specs.BTreeMap as tree
use Rattle.std.specs.BTreeMap.{BTreeMap, is_at}
use Rattle.std.specs.List.{list_any}
use Rattle.std.specs.Map.{keys_of}
use Rattle.std.specs.Ordering.{nat_cmp}
use Rattle.quorum_credit.specs.Scores.{charges_in, merits_in}
use Rattle.quorum_credit.specs.Tallies.{is_named, is_tallied, tally_of, tally_after, tally_in, most_counted, AreSums}
use Rattle.quorum_credit.specs.declared.host_quotas.Tally.{Tally}
use Rattle.quorum_credit.specs.declared.scores.Score.{Score}

-- one more score in front
charges_cons : (m : Score) (ms : List Score) (host : ℕ) (b : Bool) → eqb m.host host ≡ b → charges_in (m ∷ ms) host ≡ cond b m.charges 0 + charges_in ms host
charges_cons m ms host b is =
    sum_by-cons (λ (m : Score). cond (eqb m.host host) m.charges 0) m ms ∙ ap (λ (b : Bool). cond b m.charges 0 + charges_in ms host) is

merits_cons : (m : Score) (ms : List Score) (host : ℕ) (b : Bool) → eqb m.host host ≡ b → merits_in (m ∷ ms) host ≡ cond b m.merits 0 + merits_in ms host
merits_cons m ms host b is =
    sum_by-cons (λ (m : Score). cond (eqb m.host host) m.merits 0) m ms ∙ ap (λ (b : Bool). cond b m.merits 0 + merits_in ms host) is

-- a score of another host
charges_other : (m : Score) (ms : List Score) (host : ℕ) → eqb m.host host ≡ false → charges_in (m ∷ ms) host ≡ charges_in ms host
charges_other m ms host is = let one = charges_cons m ms host false is in omega arith

merits_other : (m : Score) (ms : List Score) (host : ℕ) → eqb m.host host ≡ false → merits_in (m ∷ ms) host ≡ merits_in ms host
merits_other m ms host is = let one = merits_cons m ms host false is in omega arith

-- the tally of a host after further scores
abbrev with_more : ℕ → Tally → List Score → Tally
with_more host s ms = record s { charges = min (s.charges + charges_in ms host) most_counted; merits = min (s.merits + merits_in ms host) most_counted }

abbrev both : Tally → ℕ → ℕ → Tally
both s charges merits = record s { charges = charges; merits = merits }

tally_some : (host : ℕ) (s : Tally) (ms : List Score) → s.charges ≤ most_counted → s.merits ≤ most_counted → tally_after host (Some s) ms ≡ Some (with_more host s ms)
tally_some host s [] few small =
    ap (λ c. Some (both s c s.merits)) (let same : s.charges ≡ min (s.charges + 0) most_counted = omega arith in same)
    ∙ ap (λ m. Some (both s (min (s.charges + 0) most_counted) m)) (let same : s.merits ≡ min (s.merits + 0) most_counted = omega arith in same)
tally_some host s (m ∷ ms) few small = cases (λ s. tally_some host s ms) (eqb m.host host) refl
  where
    added : Tally
    added = both s (min (s.charges + m.charges) most_counted) (min (s.merits + m.merits) most_counted)

    cases : ((s : Tally) → s.charges ≤ most_counted → s.merits ≤ most_counted → tally_after host (Some s) ms ≡ Some (with_more host s ms))
        → (b : Bool) → eqb m.host host ≡ b
        → tally_after host (cond b (Some added) (Some s)) ms ≡ Some (with_more host s (m ∷ ms))
    cases more true is =
        let charges : min (min (s.charges + m.charges) most_counted + charges_in ms host) most_counted ≡ min (s.charges + charges_in (m ∷ ms) host) most_counted =
        let one = charges_cons m ms host true is in omega arith in
        let merits : min (min (s.merits + m.merits) most_counted + merits_in ms host) most_counted ≡ min (s.merits + merits_in (m ∷ ms) host) most_counted =
        let one = merits_cons m ms host true is in omega arith in
        more added (omega arith) (omega arith)
        ∙ ap (λ c. Some (both s c (min (min (s.merits + m.merits) most_counted + merits_in ms host) most_counted))) charges
        ∙ ap (λ c. Some (both s (min (s.charges + charges_in (m ∷ ms) host) most_counted) c)) merits
    cases more false is =
        more s few small
        ∙ ap (λ c. Some (both s (min (s.charges + c) most_counted) (min (s.merits + merits_in ms host) most_counted))) (sym (charges_other m ms host is))
        ∙ ap (λ c. Some (both s (min (s.charges + charges_in (m ∷ ms) host) most_counted) (min (s.merits + c) most_counted))) (sym (merits_other m ms host is))

-- the tally of a host
abbrev said : List Score → ℕ → Tally
said ms host = record { host = host; charges = min (charges_in ms host) most_counted; merits = min (merits_in ms host) most_counted }

tally_none : (host : ℕ) (ms : List Score) → tally_after host None ms ≡ cond (is_named ms host) (Some (said ms host)) None
tally_none host [] = refl
tally_none host (m ∷ ms) = cases (tally_none host ms) (eqb m.host host) refl
  where
    triple : ℕ → ℕ → ℕ → Option Tally
    triple h c e = Some (record { host = h; charges = c; merits = e })

    cases : tally_after host None ms ≡ cond (is_named ms host) (Some (said ms host)) None → (b : Bool) → eqb m.host host ≡ b
        → tally_after host (cond b (Some (tally_of m)) None) ms ≡ cond (b || is_named ms host) (Some (said (m ∷ ms) host)) None
    cases more true is =
        let charges : min (min m.charges most_counted + charges_in ms host) most_counted ≡ min (charges_in (m ∷ ms) host) most_counted =
        let one = charges_cons m ms host true is in omega arith in
        let merits : min (min m.merits most_counted + merits_in ms host) most_counted ≡ min (merits_in (m ∷ ms) host) most_counted =
        let one = merits_cons m ms host true is in omega arith in
        tally_some host (tally_of m) ms (omega arith) (omega arith)
        ∙ ap (λ h. triple h (min (min m.charges most_counted + charges_in ms host) most_counted) (min (min m.merits most_counted + merits_in ms host) most_counted)) (eqb-true m.host host is)
        ∙ ap (λ c. triple host c (min (min m.merits most_counted + merits_in ms host) most_counted)) charges
        ∙ ap (λ c. triple host (min (charges_in (m ∷ ms) host) most_counted) c) merits
    cases more false is =
        more
        ∙ ap (λ c. cond (is_named ms host) (triple host (min c most_counted) (min (merits_in ms host) most_counted)) None) (sym (charges_other m ms host is))
        ∙ ap (λ c. cond (is_named ms host) (triple host (min (charges_in (m ∷ ms) host) most_counted) (min c most_counted)) None) (sym (merits_other m ms host is))

-- scores say nothing of a host that none of them names
charges_none : (ms : List Score) (host : ℕ) → is_named ms host ≡ false → (charges_in ms host ≡ 0) × (merits_in ms host ≡ 0)
charges_none [] host none = (refl, refl)
charges_none (m ∷ ms) host none = cases (charges_none ms host) (eqb m.host host) refl none
  where
    cases : (is_named ms host ≡ false → (charges_in ms host ≡ 0) × (merits_in ms host ≡ 0)) → (b : Bool) → eqb m.host host ≡ b → (b || is_named ms host) ≡ false → (charges_in (m ∷ ms) host ≡ 0) × (merits_in (m ∷ ms) host ≡ 0)
    cases more true is none = absurd cc
    cases more false is none = (charges_other m ms host is ∙ (more none).0, merits_other m ms host is ∙ (more none).1)

-- none of these passes
none_passes : {X : Type 0} (p : X → Bool) (xs : List X) → list_any p xs ≡ false → All (λ x. p x ≡ false) xs
none_passes p [] none k d within = absurd (omega arith)
none_passes p (x ∷ xs) none zero d within = first (p x) none
  where
    first : (b : Bool) → (b || list_any p xs) ≡ false → b ≡ false
    first true none = none
    first false none = refl
none_passes p (x ∷ xs) none (suc k) d within = none_passes p xs (rest (p x) none) k d (omega arith)
  where
    rest : (b : Bool) → (b || list_any p xs) ≡ false → list_any p xs ≡ false
    rest true none = absurd cc
    rest false none = none

module _ (scores : List Score) (tallies : BTreeMap ℕ Tally) (ordered : tree.IsOrdered nat_cmp tallies)
    (told : (host : ℕ) → tally_in tallies host ≡ tally_after host None scores) where
  told_of : (host : ℕ) → tally_in tallies host ≡ cond (is_named scores host) (Some (said scores host)) None
  told_of host = told host ∙ tally_none host scores

  abbrev TellsAll : Tally → Type 0
  TellsAll s = (s.charges ≡ min (charges_in scores s.host) most_counted) × (s.merits ≡ min (merits_in scores s.host) most_counted)

  told_all : (host : ℕ) → IfSome (tally_in tallies host) TellsAll
  told_all host = subst (λ (o : Option Tally). IfSome o TellsAll) (sym (told_of host)) (cases (is_named scores host))
    where
      cases : (b : Bool) → IfSome (cond b (Some (said scores host)) None) TellsAll
      cases true = (refl, refl)
      cases false = tt

  abbrev IsOther : ℕ → Tally → Type 0
  IsOther host s = eqb s.host host ≡ false

  others : (host : ℕ) → is_tallied (tree.values tallies) host ≡ false → (charges_in scores host ≡ 0) × (merits_in scores host ≡ 0)
  others host none = cases (is_named scores host) refl
    where
      cases : (b : Bool) → is_named scores host ≡ b → (charges_in scores host ≡ 0) × (merits_in scores host ≡ 0)
      cases true is =
          let found : tally_in tallies host ≡ Some (said scores host) = told_of host ∙ ap (λ (b : Bool). cond b (Some (said scores host)) None) is in
          let other : IfSome (tally_in tallies host) (IsOther host) =
          IfSome-lookup_from_All (IsOther host) (is_at (nat_cmp host)) tallies.entries (none_passes (λ (s : Tally). eqb s.host host) (tree.values tallies) none) in
          let apart : eqb host host ≡ false = subst (λ (o : Option Tally). IfSome o (IsOther host)) found other in
          let never : true ≡ false = sym (eq-eqb host host refl) ∙ apart in
          absurd cc
      cases false is = charges_none scores host is

  pub sums_are : AreSums scores (tree.values tallies)
  sums_are = record {
    each = All-values_from_lookup (eq_by_cmp_equiv nat_cmp_total) TellsAll tallies.entries (IsDistinct-from_sorted nat_cmp (keys_of tallies.entries) ordered) told_all;
    others = others;
  }
