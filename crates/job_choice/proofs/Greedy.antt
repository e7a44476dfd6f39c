-- Jobs that are taken in the order of the candidates, as long as they may be, are a grant.
use Rattle.std.proofs.Common.{◌≡◌, ◌⊎◌, inl, inr, ℕ, ◌+◌, ◌<◌, ◌≤◌, true, false, not, eqb, List, [], ◌∷◌, ◌++◌, length, take, get_or, sym, refl, ap, ◌∙◌, subst, arith}
use Rattle.std.specs.Prelude.{◌&&◌, ◌||◌, is_none, filter, Contains, AllPairs, EachIndex}
use Rattle.std.specs.List.{list_any, list_all}
use Rattle.std.proofs.lemmas.Bool.{and_parts, or_right, both_ways, eqb-true, eq-eqb, cases_lt}
use Rattle.std.proofs.lemmas.List.{length_push, take-append-le, take_all}
use Rattle.std.proofs.lemmas.List.Elements.{Contains-append_left, Contains-push, Contains-push_cases, Contains-get_or, All-weaker, All-contains_itself}
use Rattle.std.proofs.lemmas.List.Quantifiers.{all_pairs_push}
use Rattle.std.proofs.lemmas.List.Sums.{list_all-from_AllPass}
use Rattle.sched_book.specs.Count.{is_open}
use Rattle.sched_book.specs.Fits.{is_eligible, is_for, unit_fits}
use Rattle.sched_book.specs.Grant.{Asking, IsGrant, is_maximal, is_enough, fills_reply, fills_progress, fills_day, seconds_of, sent_today, has_unit}
use Rattle.sched_book.specs.Offers.{unsent}
use Rattle.sched_book.specs.Places.{places, status_of, user_had, is_before, is_same}
use Rattle.sched_book.specs.declared.desk.Candidate.{Candidate}
use Rattle.sched_book.specs.declared.instance.Place.{Place}
use Rattle.sched_book.specs.declared.world.World.{World}
use Rattle.sched_book.proofs.Newest.{none_in_nothing, in_front, behind, front_of, passes_filter, passed_filter}
use Rattle.job_choice.specs.Offered.{first_place}
use Rattle.job_choice.proofs.Candidates.{Before, before_from, before_test, after_first, Rising, rising_among, world_lists, stood}
use Rattle.job_choice.proofs.Passing.{any_from, any_found}

pub has_from : (jobs : List Place) (s : Place) (unit : ℕ) → Contains jobs s → s.unit ≡ unit → has_unit unit jobs ≡ true
has_from jobs s unit among same = any_from (λ p. eqb p.unit unit) jobs s among (eq-eqb s.unit unit same)

pub before_both : (p r : Place) → Before p r → Before r p → ⊥
before_both p r h k = elim h [
  | inl less ↦ elim k [ inl more ↦ (let a : p.unit < r.unit = less in let b : r.unit < p.unit = more in omega arith) | inr same ↦ (let a : p.unit < r.unit = less in let b : r.unit ≡ p.unit = same.0 in omega arith) ]
  | inr here ↦ elim k [
    | inl more ↦ (let a : p.unit ≡ r.unit = here.0 in let b : r.unit < p.unit = more in omega arith)
    | inr same ↦ (let a : p.number < r.number = here.1 in let b : r.number < p.number = same.1 in omega arith)
  ]
]

module _ (w : World) (q : Asking) where
  -- a job of the workunit of r, before p
  pub record Earlier (jobs : List Place) (p r : Place) : Type 0 where
    pub s : Place
    pub among : Contains jobs s
    pub same : s.unit ≡ r.unit
    pub before : Before s p

  -- These jobs are taken, and these candidates are left.
  pub record AreTaken (jobs : List Place) (left : List Candidate) : Type 0 where
    pub rising : AllPairs (λ (p r : Place). p.unit < r.unit) jobs
    pub eligible : (p : Place) → Contains jobs p → is_eligible w q.host p ≡ true
    pub wanted : EachIndex jobs (λ k. seconds_of w q (take k jobs) < q.asked)
    pub in_reply : length jobs ≤ w.settings.max_wus_to_send
    pub in_progress : 0 < length jobs → q.held + length jobs ≤ w.settings.max_wus_in_progress
    pub in_quota : 0 < length jobs → sent_today w q + length jobs ≤ q.host.quota
    pub by_place : (p r : Place) → Contains jobs p → is_eligible w q.host r ≡ true → Before r p → Earlier jobs p r
    pub covered : (r : Place) → is_eligible w q.host r ≡ true → (has_unit r.unit jobs ≡ true) ⊎ ((c : Candidate) × Contains left c × (c.place ≡ r))
    pub ahead : (s : Place) (c : Candidate) → Contains jobs s → Contains left c → Before s c.place
    pub sorted : Rising left

  -- nothing is taken yet
  pub none_taken : AreTaken [] (unsent w first_place)
  none_taken = record {
    rising = λ i j d h k. (let never : j < 0 = k in absurd (omega arith));
    eligible = λ p h. absurd (none_in_nothing p h);
    wanted = λ i h. (let never : i < 0 = h in absurd (omega arith));
    in_reply = omega arith;
    in_progress = λ h. (let never : 0 < 0 = h in absurd (omega arith));
    in_quota = λ h. (let never : 0 < 0 = h in absurd (omega arith));
    by_place = λ p r h k l. absurd (none_in_nothing p h);
    covered = λ r for.
        let there = stood w (λ b x. is_none x.owner && is_for w q.host b) r for in
        let parts = and_parts (is_none there.x.owner) (is_for w q.host there.book) there.passed in
        let opened = (and_parts (is_open (status_of w there.book)) (unit_fits w q.host there.book)
        (and_parts (is_open (status_of w there.book) && unit_fits w q.host there.book) (not (user_had w q.host.account there.book)) parts.1).0).0 in
        inr (
          record { place = r; unit = there.book.unit },
          world_lists w first_place 1 w.units there.index there.book there.x r there.found there.stands parts.0 opened there.place (after_first r there.index there.place),
          refl,
        );
    ahead = λ s c h k. absurd (none_in_nothing s h);
    sorted = rising_among w first_place 1 w.units;
  }

  -- the next candidate is left if it is not eligible or its workunit has a job
  pub passed_over : (jobs : List Place) (c : Candidate) (left : List Candidate) → AreTaken jobs (c ∷ left)
      → (is_eligible w q.host c.place ≡ true → has_unit c.place.unit jobs ≡ true) → AreTaken jobs left
  passed_over jobs c left h over = record {
    rising = h.rising;
    eligible = h.eligible;
    wanted = h.wanted;
    in_reply = h.in_reply;
    in_progress = h.in_progress;
    in_quota = h.in_quota;
    by_place = h.by_place;
    covered = λ r for. elim (h.covered r for) [
      | inl has ↦ inl has
      | inr there ↦ elim (in_front c left there.0 there.1) [
        | inl same ↦ (let e : c.place ≡ r = ap (λ (d : Candidate). d.place) same ∙ there.2 in
            inl (subst (λ (p : Place). has_unit p.unit jobs ≡ true) e (over (subst (λ (p : Place). is_eligible w q.host p ≡ true) (sym e) for))))
        | inr later ↦ inr (there.0, later, there.2)
      ]
    ];
    ahead = λ s d k l. h.ahead s d k (behind c left d l);
    sorted = h.sorted.1;
  }

  -- each job before the next candidate is of an earlier workunit, unless the candidate's workunit has a job
  below : (jobs : List Place) (c : Candidate) (left : List Candidate) → AreTaken jobs (c ∷ left) → has_unit c.place.unit jobs ≡ false
      → (s : Place) → Contains jobs s → s.unit < c.place.unit
  below jobs c left h new s among = elim (h.ahead s c among (front_of c left)) [
    | inl less ↦ less
    | inr same ↦ absurd (both_ways (has_unit c.place.unit jobs) new (has_from jobs s c.place.unit among same.0))
  ]

  -- an eligible instance before the next candidate is of a workunit that has a job
  earlier : (jobs : List Place) (c : Candidate) (left : List Candidate) → AreTaken jobs (c ∷ left)
      → (r : Place) → is_eligible w q.host r ≡ true → Before r c.place → Earlier jobs c.place r
  earlier jobs c left h r for before = elim (h.covered r for) [
    | inl has ↦ (let found = any_found (λ (p : Place). eqb p.unit r.unit) jobs has in
        record { s = found.0; among = found.1; same = eqb-true found.0.unit r.unit found.2; before = h.ahead found.0 c found.1 (front_of c left) })
    | inr there ↦ absurd (elim (in_front c left there.0 there.1) [
      | inl same ↦ (let e : c.place ≡ r = ap (λ (d : Candidate). d.place) same ∙ there.2 in
          let itself : Before r r = subst (λ p. Before r p) e before in before_both r r itself itself)
      | inr later ↦ before_both r c.place before (subst (λ p. Before c.place p) there.2 (h.sorted.0 there.0 later))
    ])
  ]

  one_more : (jobs : List Place) (c p r : Place) → Earlier jobs p r → Earlier (jobs ++ c ∷ []) p r
  one_more jobs c p r e = record { s = e.s; among = Contains-append_left jobs (c ∷ []) e.s e.among; same = e.same; before = e.before }

  -- the next candidate is taken
  pub taken_on : (jobs : List Place) (c : Candidate) (left : List Candidate) → AreTaken jobs (c ∷ left)
      → is_eligible w q.host c.place ≡ true → has_unit c.place.unit jobs ≡ false → seconds_of w q jobs < q.asked
      → length jobs < w.settings.max_wus_to_send → q.held + length jobs < w.settings.max_wus_in_progress → sent_today w q + length jobs < q.host.quota
      → AreTaken (jobs ++ c.place ∷ []) left
  taken_on jobs c left h for new wanted reply progress quota =
      let one : length (jobs ++ c.place ∷ []) ≡ length jobs + 1 = length_push jobs c.place in
      record {
        rising = all_pairs_push (λ (p r : Place). p.unit < r.unit) jobs c.place h.rising
            (λ k d within. below jobs c left h new (get_or jobs k d) (Contains-get_or jobs k d within));
        eligible = λ p k. elim (Contains-push_cases jobs c.place p k) [
          | inl old ↦ h.eligible p old
          | inr same ↦ subst (λ (p : Place). is_eligible w q.host p ≡ true) same for
        ];
        wanted = λ k within.
            (let within_all : k ≤ length jobs = (let below : k < length (jobs ++ c.place ∷ []) = within in omega arith) in
            subst (λ xs. seconds_of w q xs < q.asked) (sym (take-append-le k jobs (c.place ∷ []) within_all))
            (elim (cases_lt k (length jobs)) [
              | inl less ↦ h.wanted k less
              | inr all ↦ subst (λ xs. seconds_of w q xs < q.asked) (sym (take_all k jobs all)) wanted
            ]));
        in_reply = omega arith;
        in_progress = λ some. omega arith;
        in_quota = λ some. omega arith;
        by_place = λ p r k for' before. elim (Contains-push_cases jobs c.place p k) [
          | inl old ↦ one_more jobs c.place p r (h.by_place p r old for' before)
          | inr same ↦ subst (λ p. Earlier (jobs ++ c.place ∷ []) p r) same
              (one_more jobs c.place c.place r (earlier jobs c left h r for' (subst (λ p. Before r p) (sym same) before)))
        ];
        covered = λ r for'. elim (h.covered r for') [
          | inl has ↦ (let found = any_found (λ (p : Place). eqb p.unit r.unit) jobs has in
              inl (any_from (λ (p : Place). eqb p.unit r.unit) (jobs ++ c.place ∷ []) found.0 (Contains-append_left jobs (c.place ∷ []) found.0 found.1) found.2))
          | inr there ↦ elim (in_front c left there.0 there.1) [
            | inl same ↦ inl (has_from (jobs ++ c.place ∷ []) c.place r.unit (Contains-push jobs c.place)
                (ap (λ (d : Candidate). d.place.unit) same ∙ ap (λ (p : Place). p.unit) there.2))
            | inr later ↦ inr (there.0, later, there.2)
          ]
        ];
        ahead = λ s d k l. elim (Contains-push_cases jobs c.place s k) [
          | inl old ↦ h.ahead s d old (behind c left d l)
          | inr same ↦ subst (λ p. Before p d.place) same (h.sorted.0 d l)
        ];
        sorted = h.sorted.1;
      }

  -- if no candidate is left, each eligible instance is of a workunit that has a job
  pub all_seen : (jobs : List Place) → AreTaken jobs [] → is_maximal w q jobs ≡ true
  all_seen jobs h =
      or_right (is_enough w q jobs || fills_reply w (length jobs) || fills_progress w q (length jobs) || fills_day w q (length jobs))
      (list_all (λ (p : Place). has_unit p.unit jobs) (filter (is_eligible w q.host) (places w)))
      (list_all-from_AllPass (λ (p : Place). has_unit p.unit jobs) (filter (is_eligible w q.host) (places w))
      (All-weaker (Contains (filter (is_eligible w q.host) (places w))) (λ (p : Place). has_unit p.unit jobs ≡ true)
      (λ p k. elim (h.covered p (passed_filter (is_eligible w q.host) (places w) p k)) [
        | inl has ↦ has
        | inr there ↦ absurd (none_in_nothing there.0 there.1)
      ])
      (filter (is_eligible w q.host) (places w)) (All-contains_itself (filter (is_eligible w q.host) (places w)))))

  -- if nothing more can be given, the jobs are a grant
  pub is_grant : (jobs : List Place) (left : List Candidate) → AreTaken jobs left → is_maximal w q jobs ≡ true → IsGrant w q jobs
  is_grant jobs left h maximal = record {
    rising = h.rising;
    eligible = All-weaker (Contains jobs) (λ (p : Place). is_eligible w q.host p ≡ true) h.eligible jobs (All-contains_itself jobs);
    wanted = h.wanted;
    in_reply = h.in_reply;
    in_progress = h.in_progress;
    in_quota = h.in_quota;
    maximal = maximal;
    by_place = λ k d within. λ m e inside. λ for before.
        let p = get_or jobs k d in
        let r = get_or (places w) m e in
        let found = h.by_place p r (Contains-get_or jobs k d within) for (before_from r p before) in
        or_right (list_any (is_same r) jobs) (has_unit r.unit (filter (λ s. is_before s p) jobs))
        (has_from (filter (λ s. is_before s p) jobs) found.s r.unit
        (passes_filter (λ s. is_before s p) jobs found.s found.among (before_test found.s p found.before)) found.same);
  }
