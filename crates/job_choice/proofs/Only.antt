-- There is at most one grant: after a common front two grants continue alike.
use Rattle.std.proofs.Common.{◌≡◌, ◌⊎◌, inl, inr, suc, ◌+◌, ◌<◌, ◌≤◌, Bool, true, false, eqb, List, [], ◌∷◌, ◌++◌, length, take, get_or, All, sym, refl, ap, ◌∙◌, subst, append_assoc, arith}
use Rattle.std.specs.Prelude.{◌&&◌, ◌||◌, filter, Contains, AllPairs}
use Rattle.std.specs.List.{list_any, list_all}
use Rattle.std.proofs.lemmas.Bool.{or_cases, and_from, eqb-true, eq-eqb, leb-true, cases_order}
use Rattle.std.proofs.lemmas.List.{append-nil, length-append, take_at, get_or_append_left, get_or-append-add}
use Rattle.std.proofs.lemmas.List.Elements.{All-contains, Contains-append_cases, Contains-append_right}
use Rattle.std.proofs.lemmas.List.Sums.{AllPass-from_list_all}
use Rattle.sched_book.specs.Fits.{is_eligible, is_for}
use Rattle.sched_book.specs.Grant.{Asking, IsGrant, is_enough, fills_reply, fills_progress, fills_day, seconds_of, sent_today, has_unit}
use Rattle.sched_book.specs.Places.{places, is_before, is_same}
use Rattle.std.specs.Prelude.{is_none}
use Rattle.sched_book.specs.declared.instance.Place.{Place}
use Rattle.sched_book.specs.declared.world.World.{World}
use Rattle.sched_book.proofs.Newest.{in_front, front_of, passes_filter, in_filter, passed_filter}
use Rattle.sched_book.proofs.Recording.{is_same-true}
use Rattle.job_choice.specs.Chosen.{OneGrant}
use Rattle.job_choice.proofs.Candidates.{Before, before_from, before_test, is_place}
use Rattle.job_choice.proofs.Greedy.{before_both}
use Rattle.job_choice.proofs.Passing.{any_found}

-- why no more can be given
pub some_of : (a b c d e : Bool) → (a || b || c || d || e) ≡ true → (a ≡ true) ⊎ ((b ≡ true) ⊎ ((c ≡ true) ⊎ ((d ≡ true) ⊎ (e ≡ true))))
some_of true b c d e h = inl refl
some_of false true c d e h = inr (inl refl)
some_of false false true d e h = inr (inr (inl refl))
some_of false false false true e h = inr (inr (inr (inl refl)))
some_of false false false false e h = inr (inr (inr (inr h)))

abbrev IsRising : List Place → Type 0
IsRising jobs = AllPairs (λ (p r : Place). p.unit < r.unit) jobs

-- each job before one is of an earlier workunit, and each job after it of a later one
below : (front : List Place) (p : Place) (ps : List Place) → IsRising (front ++ p ∷ ps) → (s : Place) → Contains front s → s.unit < p.unit
below front p ps rising s h =
    let at_s : get_or (front ++ p ∷ ps) h.0 s ≡ s = get_or_append_left front (p ∷ ps) s h.0 h.1 ∙ h.2 in
    let at_p : get_or (front ++ p ∷ ps) (length front + 0) s ≡ p = get_or-append-add front (p ∷ ps) 0 s in
    let within : h.0 < length front = h.1 in
    let long = length-append front (p ∷ ps) in
    let less : (get_or (front ++ p ∷ ps) h.0 s).unit < (get_or (front ++ p ∷ ps) (length front + 0) s).unit =
    rising h.0 (length front + 0) s (omega arith) (omega (arith, long)) in
    subst (λ (z : Place). s.unit < z.unit) at_p (subst (λ (z : Place). z.unit < (get_or (front ++ p ∷ ps) (length front + 0) s).unit) at_s less)

above : (front : List Place) (p : Place) (ps : List Place) → IsRising (front ++ p ∷ ps) → (s : Place) → Contains ps s → p.unit < s.unit
above front p ps rising s h =
    let at_p : get_or (front ++ p ∷ ps) (length front + 0) s ≡ p = get_or-append-add front (p ∷ ps) 0 s in
    let at_s : get_or (front ++ p ∷ ps) (length front + suc h.0) s ≡ s = get_or-append-add front (p ∷ ps) (suc h.0) s ∙ h.2 in
    let within : h.0 < length ps = h.1 in
    let long : length (front ++ p ∷ ps) ≡ length front + suc (length ps) = length-append front (p ∷ ps) in
    let less : (get_or (front ++ p ∷ ps) (length front + 0) s).unit < (get_or (front ++ p ∷ ps) (length front + suc h.0) s).unit =
    rising (length front + 0) (length front + suc h.0) s (omega arith) (omega (arith, long)) in
    subst (λ (z : Place). p.unit < z.unit) at_s (subst (λ (z : Place). z.unit < (get_or (front ++ p ∷ ps) (length front + suc h.0) s).unit) at_p less)

in_parts : (front : List Place) (p : Place) (ps : List Place) (s : Place) → Contains (front ++ p ∷ ps) s → Contains front s ⊎ ((p ≡ s) ⊎ Contains ps s)
in_parts front p ps s h = elim (Contains-append_cases front (p ∷ ps) s h) [ inl here ↦ inl here | inr there ↦ inr (in_front p ps s there) ]

among : (front : List Place) (p : Place) (ps : List Place) → Contains (front ++ p ∷ ps) p
among front p ps = Contains-append_right front (p ∷ ps) p (front_of p ps)

module _ (w : World) (q : Asking) where
  -- a grant is not followed by a further job
  goes_on : (front : List Place) (p : Place) (ps : List Place) → IsGrant w q front → IsGrant w q (front ++ p ∷ ps) → ⊥
  goes_on front p ps short long =
      let more : length (front ++ p ∷ ps) ≡ length front + suc (length ps) = length-append front (p ∷ ps) in
      let eligible : is_eligible w q.host p ≡ true = All-contains (λ (p : Place). is_eligible w q.host p ≡ true) (front ++ p ∷ ps) p long.eligible (among front p ps) in
      elim (some_of (is_enough w q front) (fills_reply w (length front)) (fills_progress w q (length front)) (fills_day w q (length front))
      (list_all (λ (p : Place). has_unit p.unit front) (filter (is_eligible w q.host) (places w))) short.maximal) [
        | inl enough ↦ (let reached : q.asked ≤ seconds_of w q front = leb-true q.asked (seconds_of w q front) enough in
            let wanted : seconds_of w q (take (length front) (front ++ p ∷ ps)) < q.asked = long.wanted (length front) (omega (arith, more)) in
            let wanted_here : seconds_of w q front < q.asked = subst (λ xs. seconds_of w q xs < q.asked) (take_at front (p ∷ ps) (length front) refl) wanted in
            omega arith)
        | inr rest ↦ elim rest [
          | inl reply ↦ (let full = leb-true w.settings.max_wus_to_send (length front) reply in
              let limit = long.in_reply in omega (arith, full, limit, more))
          | inr rest ↦ elim rest [
            | inl progress ↦ (let full = leb-true w.settings.max_wus_in_progress (q.held + length front) progress in
                let limit = long.in_progress (omega (arith, more)) in omega (arith, full, limit, more))
            | inr rest ↦ elim rest [
              | inl day ↦ (let full = leb-true q.host.quota (sent_today w q + length front) day in
                  let limit = long.in_quota (omega (arith, more)) in omega (arith, full, limit, more))
              | inr all ↦ (let has : has_unit p.unit front ≡ true =
                  All-contains (λ (p : Place). has_unit p.unit front ≡ true) (filter (is_eligible w q.host) (places w)) p
                  (AllPass-from_list_all (λ (p : Place). has_unit p.unit front) (filter (is_eligible w q.host) (places w)) all)
                  (passes_filter (is_eligible w q.host) (places w) p
                  (is_place w (λ b x. is_none x.owner && is_for w q.host b) p eligible) eligible) in
                  let found = any_found (λ (s : Place). eqb s.unit p.unit) front has in
                  let same : found.0.unit ≡ p.unit = eqb-true found.0.unit p.unit found.2 in
                  let less : found.0.unit < p.unit = below front p ps long.rising found.0 found.1 in
                  omega arith)
            ]
          ]
        ]
      ]

  -- after a common front no grant continues with an earlier place than another
  goes_first : (front : List Place) (p r : Place) (ps rs : List Place) → IsGrant w q (front ++ p ∷ ps) → IsGrant w q (front ++ r ∷ rs) → Before p r → ⊥
  goes_first front p r ps rs one other before =
      let eligible : is_eligible w q.host p ≡ true = All-contains (λ (p : Place). is_eligible w q.host p ≡ true) (front ++ p ∷ ps) p one.eligible (among front p ps) in
      let jobs = front ++ r ∷ rs in
      let named : (list_any (is_same p) jobs || has_unit p.unit (filter (λ s. is_before s r) jobs)) ≡ true =
      All-contains (λ (x : Place). is_eligible w q.host x ≡ true → is_before x r ≡ true → (list_any (is_same x) jobs || has_unit x.unit (filter (λ s. is_before s r) jobs)) ≡ true)
      (places w) p
      (All-contains (λ (y : Place). All (λ (x : Place). is_eligible w q.host x ≡ true → is_before x y ≡ true → (list_any (is_same x) jobs || has_unit x.unit (filter (λ s. is_before s y) jobs)) ≡ true) (places w))
      jobs r other.by_place (among front r rs))
      (is_place w (λ b x. is_none x.owner && is_for w q.host b) p eligible) eligible (before_test p r before) in
      elim (or_cases (list_any (is_same p) jobs) (has_unit p.unit (filter (λ s. is_before s r) jobs)) named) [
        | inl itself ↦ (let found = any_found (is_same p) jobs itself in
            let is : p ≡ found.0 = is_same-true p found.0 found.2 in
            no_earlier p (subst (λ z. Contains jobs z) (sym is) found.1) refl before)
        | inr earlier ↦ (let found = any_found (λ (s : Place). eqb s.unit p.unit) (filter (λ s. is_before s r) jobs) earlier in
            no_earlier found.0 (in_filter (λ s. is_before s r) jobs found.0 found.1) (eqb-true found.0.unit p.unit found.2)
            (before_from found.0 r (passed_filter (λ s. is_before s r) jobs found.0 found.1)))
      ]
    where
      no_earlier : (s : Place) → Contains (front ++ r ∷ rs) s → s.unit ≡ p.unit → Before s r → ⊥
      no_earlier s h same before = elim (in_parts front r rs s h) [
        | inl ahead ↦ (let less : s.unit < p.unit = below front p ps one.rising s ahead in omega arith)
        | inr rest ↦ elim rest [
          | inl is ↦ (let itself : Before r r = subst (λ z. Before z r) (sym is) before in before_both r r itself itself)
          | inr later ↦ before_both r s (inl (above front r rs other.rising s later)) before
        ]
      ]

  heads : (front : List Place) (p r : Place) (ps rs : List Place) → IsGrant w q (front ++ p ∷ ps) → IsGrant w q (front ++ r ∷ rs) → p ≡ r
  heads front p r ps rs one other = elim (cases_order p.unit r.unit) [
    | inl unit ↦ elim (cases_order p.number r.number) [
      | inl number ↦ is_same-true p r (and_from (eqb p.unit r.unit) (eqb p.number r.number) (eq-eqb p.unit r.unit unit) (eq-eqb p.number r.number number))
      | inr differ ↦ elim differ [
        | inl less ↦ absurd (goes_first front p r ps rs one other (inr (unit, less)))
        | inr more ↦ absurd (goes_first front r p rs ps other one (inr (sym unit, more)))
      ]
    ]
    | inr differ ↦ elim differ [
      | inl less ↦ absurd (goes_first front p r ps rs one other (inl less))
      | inr more ↦ absurd (goes_first front r p rs ps other one (inl more))
    ]
  ]

  ends_alike : (front ps rs : List Place) → IsGrant w q (front ++ ps) → IsGrant w q (front ++ rs) → ps ≡ rs
  ends_alike front [] [] one other = refl
  ends_alike front [] (r ∷ rs) one other = absurd (goes_on front r rs (subst (IsGrant w q) (append-nil front) one) other)
  ends_alike front (p ∷ ps) [] one other = absurd (goes_on front p ps (subst (IsGrant w q) (append-nil front) other) one)
  ends_alike front (p ∷ ps) (r ∷ rs) one other =
      let same : p ≡ r = heads front p r ps rs one other in
      ap (λ z. z ∷ ps) same
      ∙ ap (λ zs. r ∷ zs) (ends_alike (front ++ r ∷ []) ps rs
      (subst (IsGrant w q) (ap (λ z. front ++ z ∷ ps) same ∙ sym (append_assoc front (r ∷ []) ps)) one)
      (subst (IsGrant w q) (sym (append_assoc front (r ∷ []) rs)) other))

pub one_grant : OneGrant
one_grant w q jobs others one other = ends_alike w q [] jobs others one other
