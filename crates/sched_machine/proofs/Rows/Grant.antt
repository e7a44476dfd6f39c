-- A grant to a host that exists keeps a settled world settled.
use Rattle.std.proofs.Common.{◌≡◌, ◌≢◌, ℕ, ◌+◌, ◌<◌, ◌≤◌, Bool, true, false, not, cond, eqb, eq-eqb, ne_eqb, List, [], ◌∷◌, get_or, All, AllPairs, Option, Some, None, slice_get, option_map, option_and_then, unwrap_or, sym, refl, ap, ◌∙◌, subst, arith}
use Rattle.std.specs.Prelude.{◌&&◌, ◌==◌, IsTrue, count_by, is_some, is_none, IfSome}
use Rattle.std.specs.List.{list_any}
use Rattle.std.proofs.lemmas.List.Elements.{All-head, All-tail}
use Rattle.sched_book.specs.Count.{is_judged, is_live, is_open, report_place}
use Rattle.sched_book.specs.Fits.{is_eligible, is_for, unit_fits}
use Rattle.sched_book.specs.Limits.{last_moment, last_deadline, most_delay, most_instances, IsInstanceInLimits}
use Rattle.sched_book.specs.Lost.{delay_at}
use Rattle.sched_book.specs.Places.{nth, unit_at, host_at, status_of, option_any, account_at, user_of, agreement_by, is_of_user, user_had}
use Rattle.sched_book.specs.Reports.{modify_at, with_number, with_changed}
use Rattle.sched_book.specs.Sound.{AreOfOtherUsers, IsBare, HasOwnerAmong, IsSettledUnit, IsSettled}
use Rattle.sched_book.specs.Step.{with_owner, grant_one, granted}
use Rattle.sched_book.specs.declared.instance.Instance.{Instance}
use Rattle.sched_book.specs.declared.instance.Owner.{Owner}
use Rattle.sched_book.specs.declared.instance.Place.{Place}
use Rattle.sched_book.specs.declared.instance.UnitBook.{UnitBook}
use Rattle.sched_book.specs.declared.rows.App.{App}
use Rattle.sched_book.specs.declared.rows.HostRow.{HostRow}
use Rattle.sched_book.specs.declared.world.World.{World}
use Rattle.sched_book.proofs.Changes.{count_changed}
use Rattle.sched_book.proofs.Counted.{need_stays, status_stays}
use Rattle.sched_book.proofs.PlacesOf.{nth-modify_nth, length-modify_at}
use Rattle.sched_book.proofs.Rising.{pairs_head, pairs_tail}
use Rattle.sched_book.proofs.ByPlace.{all_get, all_nth}
use Rattle.job_choice.proofs.Candidates.{Stood, stood}
use Rattle.sched_machine.specs.Laws.{GrantKeepsSettled}
use Rattle.sched_machine.proofs.Rows.Kept.{rows_changed}
use Rattle.sched_machine.proofs.Rows.Listed.{all_changed, pairs_changed, all_changed_nth, any_changed, none_any}
use Rattle.sched_machine.proofs.Moves.Moves.{free_first}

-- an instance that does not belong to the user went to no host of the user
other_user : (account : ℕ) (user : Option ℕ) → option_any (λ n. n == account) user ≡ false → user ≡ Some account → ⊥
other_user account user fails is =
    let equal : eqb account account ≡ true = eq-eqb account account refl in
    let apart : eqb account account ≡ false = sym (ap (option_any (λ n. n == account)) is) ∙ fails in
    absurd cc

-- An instance without owner goes to a host of a user that was given none of the workunit.
module _ (hosts : List HostRow) (apps : List App) (account : ℕ) (o : Owner) (b : UnitBook) (n : ℕ) (x : Instance)
    (settled : IsSettledUnit hosts apps b) (stands : slice_get b.instances n ≡ Some x) (free : x.owner ≡ None)
    (had : list_any (is_of_user hosts account) b.instances ≡ false) (of_user : account_at hosts o.host ≡ Some account)
    (among : IsTrue (is_some (nth hosts o.host))) (sent : o.sent ≤ last_moment) (deadline : o.deadline ≤ last_deadline) where
  same_live : (y : Instance) → slice_get b.instances n ≡ Some y → is_live (with_owner o y) ≡ is_live y
  same_live y is =
      let same : x ≡ y = (let both : Some x ≡ Some y = sym stands ∙ is in cc) in
      let none : y.owner ≡ None = ap (λ (z : Instance). z.owner) (sym same) ∙ free in
      let bare = all_get IsBare b.instances n y settled.well.bare is none in
      ap (λ r. is_live (record { owner = Some o; lapse = y.lapse; report = r })) bare.1
      ∙ ap (λ l. is_live (record { owner = Some o; lapse = l; report = None })) bare.0
      ∙ sym (ap (λ w. is_live (record { owner = w; lapse = y.lapse; report = y.report })) none)

  others : (z : Instance) (k : ℕ) → slice_get b.instances k ≡ Some z → user_of hosts z ≢ account_at hosts o.host
  others z k there same =
      other_user account (user_of hosts z) (none_any (is_of_user hosts account) b.instances had k z there) (same ∙ of_user)

  judged_stay : count_by is_judged (modify_at (with_owner o) b.instances n) ≡ count_by is_judged b.instances
  judged_stay = count_changed is_judged (with_owner o) b.instances n (λ y is. refl)

  pub given_stays_settled : IsSettledUnit hosts apps (with_number (with_owner o) n b)
  given_stays_settled = record {
    satisfied = λ is_it.
        need_stays (with_owner o) b.instances n (λ y is. refl) same_live b.unit
        ∙ settled.satisfied (subst (λ s. IsTrue (is_open s)) (status_stays (with_owner o) b.instances n (λ y is. refl) same_live (agreement_by apps b.unit.app) b.unit) is_it);
    well = record {
      one_for_each_user = pairs_changed (AreOfOtherUsers hosts) (with_owner o) b.instances n settled.well.one_for_each_user
          (λ y is k z there. (λ before given also same. others z k there same, λ before given also same. others z k there (sym same)));
      places = λ m less.
          subst IsTrue (sym (any_changed (λ y. option_any (λ place. place == m + 1) (report_place y)) (with_owner o) b.instances n (λ y is. refl)))
          (settled.well.places m (subst (λ c. m < c) judged_stay less));
      in_range = subst (λ c. All (λ (y : Instance). IfSome (report_place y) (λ place. place ≤ c)) (modify_at (with_owner o) b.instances n)) (sym judged_stay)
          (all_changed (λ y. IfSome (report_place y) (λ place. place ≤ count_by is_judged b.instances)) (with_owner o) b.instances n settled.well.in_range (λ y is before. before));
      bare = all_changed IsBare (with_owner o) b.instances n settled.well.bare (λ y is before none. absurd cc);
      owners = all_changed (HasOwnerAmong hosts) (with_owner o) b.instances n settled.well.owners (λ y is before. among);
      app = settled.well.app;
      few = subst (λ m. m ≤ most_instances) (sym (length-modify_at (with_owner o) b.instances n)) settled.well.few;
      limits = settled.well.limits;
      instances = all_changed IsInstanceInLimits (with_owner o) b.instances n settled.well.instances
          (λ y is before. record {
            sent = sent;
            deadline = deadline;
            output = before.output;
            place = before.place;
          });
    };
  }

-- an eligible instance is of a workunit that went to no host of the user
not_had : (a b c d : Bool) → (a && (b && c && not d)) ≡ true → d ≡ false
not_had true true true false is = refl
not_had true true true true is = absurd cc
not_had true true false d is = absurd cc
not_had true false c d is = absurd cc
not_had false b c d is = absurd cc

-- One job goes to a host.
module _ (host now : ℕ) (h : HostRow) (soon : now ≤ last_moment) where
  give_one : (w : World) (p : Place) → IsSettled w → host_at w host ≡ Some h → is_eligible w h p ≡ true → IsSettled (grant_one host now w p)
  give_one w p settled stands eligible = record {
    rows = rows_changed w (with_number (with_owner o) p.number) p.unit (λ b. refl) settled.rows;
    units = all_changed_nth (IsSettledUnit w.hosts w.apps) (with_number (with_owner o) p.number) w.units p.unit settled.units
        (λ b is before. let same : at.book ≡ b = (let both : Some at.book ≡ Some b = sym at.at ∙ is in cc) in subst (λ c. IsSettledUnit w.hosts w.apps (with_number (with_owner o) p.number c)) same here);
  }
    where
      o : Owner
      o = record { host = host; sent = now; deadline = now + delay_at w p }

      at : Stood w (λ b x. is_none x.owner && is_for w h b) p
      at = stood w (λ b x. is_none x.owner && is_for w h b) p eligible

      unit : IsSettledUnit w.hosts w.apps at.book
      unit = all_nth (IsSettledUnit w.hosts w.apps) w.units p.unit at.book settled.units at.at

      here : IsSettledUnit w.hosts w.apps (with_number (with_owner o) p.number at.book)
      here =
          let delay : delay_at w p ≡ at.book.unit.delay_bound = ap (λ q. unwrap_or (option_map (λ (b : UnitBook). b.unit.delay_bound) q) 0) at.at in
          let short : at.book.unit.delay_bound ≤ most_delay = unit.well.limits.delay.1 in
          given_stays_settled w.hosts w.apps h.account o at.book p.number at.x unit at.stands
          (free_first at.x.owner (is_for w h at.book) at.passed)
          (not_had (is_none at.x.owner) (is_open (status_of w at.book)) (unit_fits w h at.book) (user_had w h.account at.book) at.passed)
          (ap (option_map (λ (k : HostRow). k.account)) stands)
          (ap is_some stands) soon
          (let late : now + delay_at w p ≤ last_deadline = omega arith in late)

  -- an eligible instance of another workunit stays eligible
  elsewhere : (f : Instance → Instance) (w : World) (p r : Place) → p.unit < r.unit → is_eligible (with_changed f w p) h r ≡ is_eligible w h r
  elsewhere f w p r before =
      ap (λ o. unwrap_or (option_and_then (λ (b : UnitBook). option_map (λ (x : Instance). is_none x.owner && is_for w h b) (slice_get b.instances r.number)) o) false)
      (nth-modify_nth (with_number f p.number) w.units p.unit r.unit
      ∙ ap (λ (b : Bool). cond b (option_map (with_number f p.number) (unit_at w r.unit)) (unit_at w r.unit)) (ne_eqb p.unit r.unit (λ same. omega arith)))

  all_given : (jobs : List Place) (w : World) → IsSettled w → host_at w host ≡ Some h → AllPairs (λ (p r : Place). p.unit < r.unit) jobs
      → All (λ p. IsTrue (is_eligible w h p)) jobs → IsSettled (granted w host now jobs)
  all_given [] w settled stands rising eligible = settled
  all_given (p ∷ jobs) w settled stands rising eligible =
      all_given jobs (grant_one host now w p) (give_one w p settled stands (All-head (λ p. IsTrue (is_eligible w h p)) p jobs eligible)) stands
      (pairs_tail (λ (p r : Place). p.unit < r.unit) p jobs rising)
      (λ k d within. subst IsTrue
      (sym (elsewhere (with_owner (record { host = host; sent = now; deadline = now + delay_at w p })) w p (get_or jobs k d)
      (pairs_head (λ (p r : Place). p.unit < r.unit) p jobs rising k d within)))
      (All-tail (λ p. IsTrue (is_eligible w h p)) p jobs eligible k d within))

-- all jobs of a grant go to a host
pub grant_keeps_settled : GrantKeepsSettled
grant_keeps_settled w q jobs settled stands soon grant = all_given q.number q.now q.host soon jobs w settled stands grant.rising grant.eligible
