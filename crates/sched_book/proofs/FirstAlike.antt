-- Reports with the same output: what the first of them says, and what a report adds to the firsts.
use Rattle.std.proofs.Common.{◌≡◌, ◌⊎◌, inl, inr, zero, suc, ℕ, ◌+◌, ◌<◌, ◌≤◌, Bool, true, false, cond, List, [], ◌∷◌, ◌++◌, length, take, drop, get_or, Option, None, Some, ℤ, Less, Equal, Greater, ⊎_elim, sym, refl, ap, ◌∙◌, subst, arith}
use Rattle.std.specs.Prelude.{◌==◌, find, unwrap_or}
use Rattle.std.specs.Bool.{one_answer}
use Rattle.std.specs.Cmp.Lexicographic.{slice_cmp, nat_list_cmp_total}
use Rattle.std.specs.List.{All, insert}
use Rattle.std.specs.List.Sorted.{IsSortedBy, IsSortedByKey, IsPartitionPoint, IsNonDecreasingBy}
use Rattle.std.specs.Option.{option_or}
use Rattle.std.specs.Ordering.{is_lt, ordering_index, ordering_reverse, nat_cmp}
use Rattle.std.specs.Str.{bytes_eq}
use Rattle.std.proofs.lemmas.Bool.{cases_lt, ne_eqb}
use Rattle.std.proofs.lemmas.Bool.Decides.{Decides-eqb}
use Rattle.std.proofs.lemmas.Cmp.{tied_itself, is_lt_index}
use Rattle.std.proofs.lemmas.List.{drop_more, take_more, take-append-drop}
use Rattle.std.proofs.lemmas.List.Elements.{All-cons, All-weaker, Contains-append_left, Contains-append_right}
use Rattle.std.proofs.lemmas.List.Folds.{find-append}
use Rattle.std.proofs.lemmas.List.Sorted.{searchable_from_sorted, IsNonDecreasingBy-insert, IsPermutation-insert, All-permutation, Contains-permutation}
use Rattle.std.proofs.lemmas.Map.Lookups.{exact_bytes}
use Rattle.std.proofs.lemmas.Option.{none-some, same_Some, cond_some}
use Rattle.std.proofs.lemmas.Slice.Eq.{bytes_eq-Decides}
use Rattle.sched_book.specs.Alike.{first_with, first_alike, AreFirsts}
use Rattle.sched_book.specs.Count.{output_of}
use Rattle.sched_book.specs.Near.{number_in}
use Rattle.sched_book.specs.declared.instance.Instance.{Instance}
use Rattle.sched_book.specs.declared.rows.Agreement.{Agreement}

-- what is found passes the test
found_passes : (p : ℕ → Bool) (is : List ℕ) (i : ℕ) → find p is ≡ Some i → p i ≡ true
found_passes p [] i found = absurd (none-some i found)
found_passes p (j ∷ is) i found = cases (p j) refl (found_passes p is i) found
  where
    cases : (b : Bool) → p j ≡ b → (find p is ≡ Some i → p i ≡ true) → cond b (Some j) (find p is) ≡ Some i → p i ≡ true
    cases true passes rest here = subst (λ k. p k ≡ true) (same_Some j i here) passes
    cases false fails rest later = rest later

-- an element that passes is found, if none before it was
found_among : (p : ℕ → Bool) (is : List ℕ) (n i : ℕ) → n < length is → i ≡ get_or is n 0 → p i ≡ true → find p is ≡ Some (unwrap_or (find p (take n is)) i)
found_among p is n i within at passes =
    let split : is ≡ take n is ++ i ∷ drop (n + 1) is =
    sym (take-append-drop n is) ∙ ap (λ l. take n is ++ l) (drop_more is n 0 within ∙ ap (λ j. j ∷ drop (n + 1) is) (sym at)) in
    ap (find p) split
    ∙ find-append p (take n is) (i ∷ drop (n + 1) is)
    ∙ ap (λ (b : Bool). option_or (find p (take n is)) (cond b (Some i) (find p (drop (n + 1) is)))) passes
    ∙ cases (find p (take n is))
  where
    cases : (o : Option ℕ) → option_or o (Some i) ≡ Some (unwrap_or o i)
    cases None = refl
    cases (Some j) = refl

module _ (xs : List Instance) where
  outputs_same : (i : ℕ) (text : List ℕ) → bytes_eq (output_of xs i) text ≡ true → output_of xs i ≡ text
  outputs_same i text = (bytes_eq-Decides (output_of xs i) text).0

  itself : (i : ℕ) → bytes_eq (output_of xs i) (output_of xs i) ≡ true
  itself i = (bytes_eq-Decides (output_of xs i) (output_of xs i)).1 refl

  -- the first report with an output has this output
  first_has : (reports : List ℕ) (text : List ℕ) (j : ℕ) → first_with xs reports text ≡ Some j → output_of xs j ≡ text
  first_has reports text j found = outputs_same j text (found_passes (λ i. bytes_eq (output_of xs i) text) reports j found)

  pub first_alike-has : (reports : List ℕ) (i : ℕ) → output_of xs (first_alike xs reports i) ≡ output_of xs i
  first_alike-has reports i = cases (first_with xs reports (output_of xs i)) refl
    where
      cases : (o : Option ℕ) → first_with xs reports (output_of xs i) ≡ o → output_of xs (unwrap_or o i) ≡ output_of xs i
      cases None found = refl
      cases (Some j) found = first_has reports (output_of xs i) j found

  -- the first with the output of a report: it is among those before, or is the report
  first_among : (reports : List ℕ) (n i : ℕ) → n < length reports → i ≡ get_or reports n 0 → first_alike xs reports i ≡ first_alike xs (take n reports) i
  first_among reports n i within at = ap (λ o. unwrap_or o i) (found_among (λ j. bytes_eq (output_of xs j) (output_of xs i)) reports n i within at (itself i))

  alike_from_same : (reports : List ℕ) (n i v : ℕ) → n < length reports → v ≡ get_or reports n 0 → output_of xs i ≡ output_of xs v → first_alike xs reports i ≡ first_alike xs reports v
  alike_from_same reports n i v within at same =
      let found : first_with xs reports (output_of xs v) ≡ Some (unwrap_or (first_with xs (take n reports) (output_of xs v)) v) =
      found_among (λ j. bytes_eq (output_of xs j) (output_of xs v)) reports n v within at (itself v) in
      ap (λ text. unwrap_or (first_with xs reports text) i) same ∙ ap (λ o. unwrap_or o i) found ∙ sym (ap (λ o. unwrap_or o v) found)

  -- outputs are compared by the first reports with them, if one of the two is a report
  pub same_first : (reports : List ℕ) (n i v : ℕ) → n < length reports → v ≡ get_or reports n 0 → (first_alike xs reports i == first_alike xs reports v) ≡ bytes_eq (output_of xs i) (output_of xs v)
  same_first reports n i v within at =
      one_answer (first_alike xs reports i == first_alike xs reports v) (bytes_eq (output_of xs i) (output_of xs v)) (Decides-eqb (first_alike xs reports i) (first_alike xs reports v)) (
        λ same. alike_from_same reports n i v within at (outputs_same i (output_of xs v) same),
        λ same. (bytes_eq-Decides (output_of xs i) (output_of xs v)).1 (sym (first_alike-has reports i) ∙ ap (output_of xs) same ∙ first_alike-has reports v),
      )

-- ---- One more report

-- a text that is less than another compares no higher with any text
rank : (x y text : List ℕ) → is_lt (slice_cmp nat_cmp y x) ≡ false → ordering_index (slice_cmp nat_cmp x text) ≤ ordering_index (slice_cmp nat_cmp y text)
rank x y text above = searchable_from_sorted nat_list_cmp_total (λ z. z) (x ∷ y ∷ []) text pair 0 1 [] (omega arith) (omega arith)
  where
    pair : IsSortedBy (λ a b. is_lt (slice_cmp nat_cmp a b)) (x ∷ y ∷ [])
    pair zero d low high = above
    pair (suc k) d low high = absurd (omega arith)

not_less : (x y : List ℕ) → slice_cmp nat_cmp x y ≡ Less → is_lt (slice_cmp nat_cmp y x) ≡ false
not_less x y less = ap is_lt (nat_list_cmp_total.antisymm y x ∙ ap ordering_reverse less)

module _ (a : Agreement) (xs : List Instance) (seen firsts : List ℕ) (are : AreFirsts a xs seen firsts) (v : ℕ) where
  with_more : (text : List ℕ) → first_with xs (seen ++ v ∷ []) text ≡ option_or (first_with xs seen text) (cond (bytes_eq (output_of xs v) text) (Some v) None)
  with_more text = find-append (λ j. bytes_eq (output_of xs j) text) seen (v ∷ [])

  -- what was found before is still found, and what is found now was found before or is the report
  still_first : (text : List ℕ) (j : ℕ) → first_with xs seen text ≡ Some j → first_with xs (seen ++ v ∷ []) text ≡ Some j
  still_first text j found = with_more text ∙ ap (λ o. option_or o (cond (bytes_eq (output_of xs v) text) (Some v) None)) found

  now_first : (text : List ℕ) (j : ℕ) → first_with xs (seen ++ v ∷ []) text ≡ Some j
      → (first_with xs seen text ≡ Some j) ⊎ record { none : first_with xs seen text ≡ None; output : output_of xs v ≡ text; report : v ≡ j }
  now_first text j found = cases (first_with xs seen text) refl (sym (with_more text) ∙ found)
    where
      cases : (o : Option ℕ) → first_with xs seen text ≡ o → option_or o (cond (bytes_eq (output_of xs v) text) (Some v) None) ≡ Some j
          → (first_with xs seen text ≡ Some j) ⊎ record { none : first_with xs seen text ≡ None; output : output_of xs v ≡ text; report : v ≡ j }
      cases None none here =
          let both = cond_some (bytes_eq (output_of xs v) text) v j here in
          inr (record { none = none; output = outputs_same xs v text both.0; report = both.1 })
      cases (Some k) before here = inl (before ∙ here)

  all_firsts : All (λ j. first_with xs (seen ++ v ∷ []) (output_of xs j) ≡ Some j) firsts
  all_firsts =
      All-weaker (λ j. first_with xs seen (output_of xs j) ≡ Some j) (λ j. first_with xs (seen ++ v ∷ []) (output_of xs j) ≡ Some j)
      (λ j found. still_first (output_of xs j) j found) firsts are.first

  -- a report whose output is compared as a whole number changes none of them
  firsts_pass : (m : ℤ) → number_in a (output_of xs v) ≡ Some m → AreFirsts a xs (seen ++ v ∷ []) firsts
  firsts_pass m number = record {
    in_order = are.in_order;
    first = all_firsts;
    all = λ text j compared now.
        ⊎_elim (λ before. are.all text j compared before)
        (λ new. absurd (none-some m (sym compared ∙ ap (number_in a) (sym new.output) ∙ number)))
        (now_first text j now);
  }

  module _ (index : ℕ) (within : index < length firsts) (equal : slice_cmp nat_cmp (output_of xs (get_or firsts index 0)) (output_of xs v) ≡ Equal) where
    -- if the search found a report, it is the first with this output
    found_first : first_with xs seen (output_of xs v) ≡ Some (get_or firsts index 0)
    found_first = ap (first_with xs seen) (sym (exact_bytes (output_of xs (get_or firsts index 0)) (output_of xs v) equal)) ∙ are.first index 0 within

    firsts_stay : AreFirsts a xs (seen ++ v ∷ []) firsts
    firsts_stay = record {
      in_order = are.in_order;
      first = all_firsts;
      all = λ text j compared now.
          ⊎_elim (λ before. are.all text j compared before)
          (λ new. absurd (none-some (get_or firsts index 0) (sym new.none ∙ ap (first_with xs seen) (sym new.output) ∙ found_first)))
          (now_first text j now);
    }

  module _ (spot : ℕ) (within : spot ≤ length firsts)
      (parted : IsPartitionPoint (λ j. slice_cmp nat_cmp (output_of xs j) (output_of xs v) ≡ Less) (λ j. slice_cmp nat_cmp (output_of xs j) (output_of xs v) ≡ Greater) firsts spot) where
    -- if the search found none, no report before has this output
    none_first : number_in a (output_of xs v) ≡ None → first_with xs seen (output_of xs v) ≡ None
    none_first compared = cases (first_with xs seen (output_of xs v)) refl
      where
        cases : (o : Option ℕ) → first_with xs seen (output_of xs v) ≡ o → o ≡ None
        cases None none = refl
        cases (Some j) found =
            let there = are.all (output_of xs v) j compared found in
            let equal : slice_cmp nat_cmp (output_of xs (get_or firsts there.0 j)) (output_of xs v) ≡ Equal =
            ap (λ i. slice_cmp nat_cmp (output_of xs i) (output_of xs v)) there.2
            ∙ ap (λ text. slice_cmp nat_cmp text (output_of xs v)) (first_has xs seen (output_of xs v) j found)
            ∙ tied_itself nat_list_cmp_total (output_of xs v) in
            ⊎_elim (λ before. let index = ap ordering_index (sym (parted.0 there.0 j (omega arith) before) ∙ equal) in absurd (omega (arith, index)))
            (λ after. let index = ap ordering_index (sym (parted.1 there.0 j after there.1) ∙ equal) in absurd (omega (arith, index)))
            (cases_lt there.0 spot)

    rises : (text : List ℕ) → IsNonDecreasingBy (λ j. ordering_index (slice_cmp nat_cmp (output_of xs j) text)) (insert firsts spot v)
    rises text =
        IsNonDecreasingBy-insert (λ j. ordering_index (slice_cmp nat_cmp (output_of xs j) text)) firsts spot v
        (searchable_from_sorted nat_list_cmp_total (output_of xs) firsts text are.in_order) within
        (λ k d before. rank (output_of xs (get_or firsts k d)) (output_of xs v) text
        (not_less (output_of xs (get_or firsts k d)) (output_of xs v) (parted.0 k d (omega arith) before)))
        (λ k d after inside. rank (output_of xs v) (output_of xs (get_or firsts k d)) text (ap is_lt (parted.1 k d after inside)))

    still_in_order : IsSortedByKey (output_of xs) (slice_cmp nat_cmp) (insert firsts spot v)
    still_in_order k d low high =
        let here = output_of xs (get_or (insert firsts spot v) k d) in
        let next = output_of xs (get_or (insert firsts spot v) (k + 1) d) in
        let up = rises here k (k + 1) d (omega arith) high in
        let tied = ap ordering_index (tied_itself nat_list_cmp_total here) in
        is_lt_index (slice_cmp nat_cmp next here) ∙ ne_eqb (ordering_index (slice_cmp nat_cmp next here)) 0 (λ least. omega (arith, up, tied, least))

    -- then the report is the first with its output
    firsts_grow : number_in a (output_of xs v) ≡ None → AreFirsts a xs (seen ++ v ∷ []) (insert firsts spot v)
    firsts_grow is_text =
        let moved = IsPermutation-insert firsts spot v in
        let first = λ (j : ℕ). first_with xs (seen ++ v ∷ []) (output_of xs j) ≡ Some j in
        let here : first v =
        with_more (output_of xs v)
        ∙ ap (λ o. option_or o (cond (bytes_eq (output_of xs v) (output_of xs v)) (Some v) None)) (none_first is_text)
        ∙ ap (λ (b : Bool). cond b (Some v) None) (itself xs v) in
        record {
          in_order = still_in_order;
          first = All-permutation first (v ∷ firsts) (insert firsts spot v) moved (All-cons first v firsts here all_firsts);
          all = λ text j compared now. Contains-permutation (v ∷ firsts) (insert firsts spot v) j moved
              (⊎_elim (λ before. Contains-append_right (v ∷ []) firsts j (are.all text j compared before))
              (λ new. Contains-append_left (v ∷ []) firsts j (0, omega arith, new.report))
              (now_first text j now));
        }

module _ (a : Agreement) (xs : List Instance) (reports firsts : List ℕ) (n : ℕ) (within : n < length reports) (are : AreFirsts a xs (take n reports) firsts) where
  one_more : (news : List ℕ) → AreFirsts a xs (take n reports ++ get_or reports n 0 ∷ []) news → AreFirsts a xs (take (n + 1) reports) news
  one_more news = subst (λ seen. AreFirsts a xs seen news) (sym (take_more reports n 0 within))

  -- a report whose output is compared as a whole number changes none of them
  pub number_passes : (m : ℤ) → number_in a (output_of xs (get_or reports n 0)) ≡ Some m → AreFirsts a xs (take (n + 1) reports) firsts
  number_passes m number = one_more firsts (firsts_pass a xs (take n reports) firsts are (get_or reports n 0) m number)

module _ (a : Agreement) (xs : List Instance) (reports firsts : List ℕ) (n : ℕ) (within : n < length reports) (are : AreFirsts a xs (take n reports) firsts)
    (compared : number_in a (output_of xs (get_or reports n 0)) ≡ None) (text : List ℕ) (output : text ≡ output_of xs (get_or reports n 0)) where
  -- the search found the first report with the output of the next one
  pub seen_before : (index : ℕ) → index < length firsts → slice_cmp nat_cmp (output_of xs (get_or firsts index 0)) text ≡ Equal
      → record { value : get_or firsts index 0 ≡ first_alike xs reports (get_or reports n 0); seen : AreFirsts a xs (take (n + 1) reports) firsts }
  seen_before index inside equal =
      let report = get_or reports n 0 in
      let same = sym (ap (slice_cmp nat_cmp (output_of xs (get_or firsts index 0))) output) ∙ equal in
      record {
        value = sym (first_among xs reports n report within refl ∙ ap (λ o. unwrap_or o report) (found_first a xs (take n reports) firsts are report index inside same));
        seen = one_more a xs reports firsts n within are firsts (firsts_stay a xs (take n reports) firsts are report index inside same);
      }

  -- the search found none
  pub seen_first : (spot : ℕ) → spot ≤ length firsts
      → (IsNonDecreasingBy (λ j. ordering_index (slice_cmp nat_cmp (output_of xs j) text)) firsts
      → IsPartitionPoint (λ j. slice_cmp nat_cmp (output_of xs j) text ≡ Less) (λ j. slice_cmp nat_cmp (output_of xs j) text ≡ Greater) firsts spot)
      → record {
        value : get_or reports n 0 ≡ first_alike xs reports (get_or reports n 0);
        new : first_with xs (take n reports) (output_of xs (get_or reports n 0)) ≡ None;
        seen : AreFirsts a xs (take (n + 1) reports) (insert firsts spot (get_or reports n 0));
      }
  seen_first spot inside parts =
      let report = get_or reports n 0 in
      let parted =
      subst
      (λ t. IsPartitionPoint (λ j. slice_cmp nat_cmp (output_of xs j) t ≡ Less) (λ j. slice_cmp nat_cmp (output_of xs j) t ≡ Greater) firsts spot) output
      (parts (searchable_from_sorted nat_list_cmp_total (output_of xs) firsts text are.in_order)) in
      let none = none_first a xs (take n reports) firsts are report spot inside parted compared in
      record {
        value = sym (first_among xs reports n report within refl ∙ ap (λ o. unwrap_or o report) none);
        new = none;
        seen = one_more a xs reports firsts n within are (insert firsts spot report) (firsts_grow a xs (take n reports) firsts are report spot inside parted compared);
      }
