-- A taker that takes the candidates in turn, as long as it may, ends with a grant.
use Rattle.std.proofs.Common.{◌≡◌, inl, inr, ℕ, ◌+◌, ◌-◌, ◌/◌, Bool, true, false, cond, not, eqb, List, [], ◌∷◌, ◌++◌, length, Option, Some, None, All, sym, refl, ap, ◌∙◌, subst, arith}
use Rattle.std.specs.Prelude.{◌&&◌, ◌||◌, nat_le, is_none, filter, option_map, option_and_then, unwrap_or, sum_by, Contains}
use Rattle.std.specs.List.{list_all}
use Rattle.std.proofs.lemmas.Bool.{and_parts, and_from, or_parts, or_left, both_ways, leb-false}
use Rattle.std.proofs.lemmas.List.{length-map, map-append}
use Rattle.std.proofs.lemmas.List.Elements.{All-nil, All-push}
use Rattle.std.proofs.lemmas.List.Sums.{sum_by_push}
use Rattle.rpc_records.specs.declared.reply.EndWord.{EndWord}
use Rattle.rpc_records.specs.declared.reply.EndWord.TheVariants.{Enough, ReplyLimit, InProgressLimit, DailyQuota, NoEligibleWork}
use Rattle.sched_book.specs.Fits.{estimate, fits, version_for, unit_fits, is_for, is_eligible, estimate_at}
use Rattle.sched_book.specs.Skipping.{user_had_at}
use Rattle.sched_book.specs.Grant.{Asking, IsGrant, is_maximal, is_enough, fills_reply, fills_progress, fills_day, seconds_of, sent_today, has_unit, end_word}
use Rattle.sched_book.specs.Offers.{unsent, OffersAll}
use Rattle.sched_book.specs.Places.{option_any, places, unit_at, user_had}
use Rattle.sched_book.specs.declared.desk.Candidate.{Candidate}
use Rattle.sched_book.specs.declared.desk.Flow.TheVariants.{GoOn, Stop}
use Rattle.sched_book.specs.declared.instance.Place.{Place}
use Rattle.sched_book.specs.declared.instance.UnitBook.{UnitBook}
use Rattle.sched_book.specs.declared.rows.HostRow.{HostRow}
use Rattle.sched_book.specs.declared.rows.Version.{Version}
use Rattle.sched_book.specs.declared.world.World.{World}
use Rattle.sched_book.proofs.Newest.{behind, front_of}
use Rattle.job_choice.specs.Chosen.{places_of, IsJob, IsChoice}
use Rattle.job_choice.specs.Choosing.{is_full, end_word_at, has_job_of, with_job, after_version}
use Rattle.job_choice.specs.Offered.{limits_on, IsBegun, IsKnown, IsRight, IsUpToDate, HasChosen, judged, Chooses, first_place}
use Rattle.job_choice.specs.Past.{IsUserPast}
use Rattle.job_choice.specs.declared.choosing.Choosing.{Choosing}
use Rattle.job_choice.specs.declared.choosing.Known.{Known}
use Rattle.job_choice.specs.declared.choosing.Limits.{Limits}
use Rattle.job_choice.specs.declared.granted.Grant.{Grant}
use Rattle.job_choice.specs.declared.granted.Granted.{Granted}
use Rattle.job_choice.specs.declared.past.UserPast.{UserPast}
use Rattle.job_choice.proofs.Candidates.{InWorld, in_world, found_nth, passes_at}
use Rattle.job_choice.proofs.Greedy.{AreTaken, none_taken, passed_over, taken_on, all_seen, is_grant}
use Rattle.job_choice.proofs.Looked.{nothing_is}
use Rattle.job_choice.proofs.Passing.{nothing_left, left_reached}

-- tests that agree one by one
same_or : (a b c d e f g h : Bool) → a ≡ e → b ≡ f → c ≡ g → d ≡ h → (a || b || c || d) ≡ (e || f || g || h)
same_or a b c d e f g h p q r s =
    ap (λ x. x || b || c || d) p ∙ ap (λ x. e || x || c || d) q ∙ ap (λ x. e || f || x || d) r ∙ ap (λ x. e || f || g || x) s

abbrev first_word : Bool → Bool → Bool → Bool → EndWord
first_word a b c d = cond a Enough (cond b ReplyLimit (cond c InProgressLimit (cond d DailyQuota NoEligibleWork)))

same_word : (a b c d e f g h : Bool) → a ≡ e → b ≡ f → c ≡ g → d ≡ h → first_word a b c d ≡ first_word e f g h
same_word a b c d e f g h p q r s =
    ap (λ x. first_word x b c d) p ∙ ap (λ x. first_word e x c d) q ∙ ap (λ x. first_word e f x d) r ∙ ap (λ x. first_word e f g x) s

has_job-is : (jobs : List Granted) (unit : ℕ) → has_job_of jobs unit ≡ has_unit unit (places_of jobs)
has_job-is [] unit = refl
has_job-is (j ∷ jobs) unit = ap (λ b. eqb j.place.unit unit || b) (has_job-is jobs unit)

stops : (full : Bool) → Stop ≡ cond full Stop GoOn → full ≡ true
stops true h = refl
stops false h = absurd cc

pub goes : (full : Bool) → GoOn ≡ cond full Stop GoOn → full ≡ false
goes true h = absurd cc
goes false h = refl

-- before the first offer it is ready
ready : (w : World) {h : HostRow} {limits : Limits} {wanted : ℕ} (t : Choosing) → IsBegun h limits wanted t → IsUpToDate w t
ready w t begun = record {
  known = subst (IsRight w t.host.now) (sym begun.known) (record { past = nothing_is w t.host.now.account; apps = All-nil (IsKnown w t.host.now) });
  unjudged = begun.unjudged;
}

-- if what is known of the user's past after the offers is then true, it is true, with another name for the world
pub past_after : (w v : World) {h : HostRow} {limits : Limits} {wanted : ℕ} (t : Choosing) (past : UserPast) → v ≡ w → IsBegun h limits wanted t
    → (IsUpToDate v t → IsUserPast v t.host.now.account past) → IsUserPast w h.account past
past_after w v {h} t past same begun right =
    subst (λ u. IsUserPast u h.account past) same (subst (λ (r : HostRow). IsUserPast v r.account past) begun.host (right (ready v t begun)))

module _ (w : World) (q : Asking) where
  -- what was read is that of the world, and the jobs were taken by place
  record IsOn (t : Choosing) (left : List Candidate) : Type 0 where
    host : t.host.now ≡ q.host
    limits_are : t.limits ≡ limits_on w q.number q.host q.held (q.now / 86400)
    wanted_is : t.wanted ≡ q.asked - seconds_of w q (places_of t.jobs)
    jobs : All (IsJob w q.host) t.jobs
    taken : AreTaken w q (places_of t.jobs) left

  -- the taker's tests are those of the definitions
  module _ (t : Choosing) (left : List Candidate) (on : IsOn t left) where
    count_is : length t.jobs ≡ length (places_of t.jobs)
    count_is = sym (length-map t.jobs (λ (j : Granted). j.place))

    enough_is : eqb t.wanted 0 ≡ is_enough w q (places_of t.jobs)
    enough_is = ap (λ n. eqb n 0) on.wanted_is ∙ nothing_left q.asked (seconds_of w q (places_of t.jobs))

    reply_is : nat_le t.limits.reply (length t.jobs) ≡ fills_reply w (length (places_of t.jobs))
    reply_is = ap (λ (l : Limits). nat_le l.reply (length t.jobs)) on.limits_are ∙ ap (nat_le w.settings.max_wus_to_send) count_is

    progress_is : nat_le t.limits.progress (length t.jobs) ≡ fills_progress w q (length (places_of t.jobs))
    progress_is =
        ap (λ (l : Limits). nat_le l.progress (length t.jobs)) on.limits_are
        ∙ left_reached w.settings.max_wus_in_progress q.held (length t.jobs)
        ∙ ap (λ n. nat_le w.settings.max_wus_in_progress (q.held + n)) count_is

    day_is : nat_le t.limits.day (length t.jobs) ≡ fills_day w q (length (places_of t.jobs))
    day_is =
        ap (λ (l : Limits). nat_le l.day (length t.jobs)) on.limits_are
        ∙ left_reached q.host.quota (sent_today w q) (length t.jobs)
        ∙ ap (λ n. nat_le q.host.quota (sent_today w q + n)) count_is

    full_is : is_full t
        ≡ (is_enough w q (places_of t.jobs) || fills_reply w (length (places_of t.jobs)) || fills_progress w q (length (places_of t.jobs)) || fills_day w q (length (places_of t.jobs)))
    full_is = same_or (eqb t.wanted 0) (nat_le t.limits.reply (length t.jobs)) (nat_le t.limits.progress (length t.jobs)) (nat_le t.limits.day (length t.jobs))
        (is_enough w q (places_of t.jobs)) (fills_reply w (length (places_of t.jobs))) (fills_progress w q (length (places_of t.jobs))) (fills_day w q (length (places_of t.jobs)))
        enough_is reply_is progress_is day_is

    word_is : end_word_at t ≡ end_word w q (places_of t.jobs)
    word_is = same_word (eqb t.wanted 0) (nat_le t.limits.reply (length t.jobs)) (nat_le t.limits.progress (length t.jobs)) (nat_le t.limits.day (length t.jobs))
        (is_enough w q (places_of t.jobs)) (fills_reply w (length (places_of t.jobs))) (fills_progress w q (length (places_of t.jobs))) (fills_day w q (length (places_of t.jobs)))
        enough_is reply_is progress_is day_is

    full_maximal : is_full t ≡ true → is_maximal w q (places_of t.jobs) ≡ true
    full_maximal full =
        or_left (is_enough w q (places_of t.jobs) || fills_reply w (length (places_of t.jobs)) || fills_progress w q (length (places_of t.jobs)) || fills_day w q (length (places_of t.jobs)))
        (list_all (λ (p : Place). has_unit p.unit (places_of t.jobs)) (filter (is_eligible w q.host) (places w)))
        (sym full_is ∙ full)

  -- a candidate of the world
  module _ (c : Candidate) (here : InWorld w 1 w.units c) where
    at : unit_at w c.place.unit ≡ Some here.book
    at = found_nth w.units c.place.unit here.index here.book here.place here.found

    eligible_is : is_eligible w q.host c.place ≡ (unit_fits w q.host here.book && not (user_had w q.host.account here.book))
    eligible_is =
        passes_at w (λ b x. is_none x.owner && is_for w q.host b) c.place here.book here.x at here.stands
        ∙ ap (λ (b : Bool). b && is_for w q.host here.book) here.free
        ∙ ap (λ (b : Bool). b && unit_fits w q.host here.book && not (user_had w q.host.account here.book)) here.opened

    seconds_is : estimate_at w q.host c.place ≡ estimate here.book.unit.rsc_fpops_est q.host.p_fpops
    seconds_is = ap (λ (o : Option UnitBook). unwrap_or (option_map (λ b. estimate b.unit.rsc_fpops_est q.host.p_fpops) o) 0) at

    module _ (t : Choosing) (left : List Candidate) (on : IsOn t (c ∷ left)) where
      version_here : version_for w t.host.now c.unit.app ≡ version_for w q.host here.book.unit.app
      version_here = ap (λ h. version_for w h c.unit.app) on.host ∙ ap (λ u. version_for w q.host u.app) here.row

      had_here : user_had_at w t.host.now.account c.place.unit ≡ user_had w q.host.account here.book
      had_here = ap (λ h. user_had_at w h.account c.place.unit) on.host ∙ ap (option_any (user_had w q.host.account)) at

      fits_here : (o : Option Version) → version_for w t.host.now c.unit.app ≡ o → fits t.host.now c.unit o ≡ unit_fits w q.host here.book
      fits_here o is =
          ap (λ h. fits h c.unit o) on.host ∙ ap (λ u. fits q.host u o) here.row ∙ ap (fits q.host here.book.unit) (sym is ∙ version_here)

      estimate_here : estimate c.unit.rsc_fpops_est t.host.now.p_fpops ≡ estimate here.book.unit.rsc_fpops_est q.host.p_fpops
      estimate_here =
          ap (λ h. estimate c.unit.rsc_fpops_est h.p_fpops) on.host ∙ ap (λ u. estimate u.rsc_fpops_est q.host.p_fpops) here.row

      -- the candidate is left
      skipped : (is_eligible w q.host c.place ≡ true → has_unit c.place.unit (places_of t.jobs) ≡ true) → IsOn t left
      skipped over = record {
        host = on.host;
        limits_are = on.limits_are;
        wanted_is = on.wanted_is;
        jobs = on.jobs;
        taken = passed_over w q (places_of t.jobs) c left on.taken over;
      }

      unfit : (o : Option Version) → version_for w t.host.now c.unit.app ≡ o → fits t.host.now c.unit o ≡ false → IsOn t left
      unfit o is misfit = skipped (λ eligible.
          absurd (both_ways (unit_fits w q.host here.book) (sym (fits_here o is) ∙ misfit)
          (and_parts (unit_fits w q.host here.book) (not (user_had w q.host.account here.book)) (sym eligible_is ∙ eligible)).0))

      had_one : user_had_at w t.host.now.account c.place.unit ≡ true → IsOn t left
      had_one had = skipped (λ eligible.
          absurd (both_ways (not (user_had w q.host.account here.book)) (ap not (sym had_here ∙ had))
          (and_parts (unit_fits w q.host here.book) (not (user_had w q.host.account here.book)) (sym eligible_is ∙ eligible)).1))

      -- the candidate is taken
      taken_in : (v : Version) → version_for w t.host.now c.unit.app ≡ Some v → is_full t ≡ false → has_job_of t.jobs c.place.unit ≡ false
          → fits t.host.now c.unit (Some v) ≡ true → user_had_at w t.host.now.account c.place.unit ≡ false → IsOn (with_job t c v) left
      taken_in v is room has fit had =
          let jobs = places_of t.jobs in
          let job : Granted = record { place = c.place; estimate = estimate c.unit.rsc_fpops_est t.host.now.p_fpops; version = v } in
          let pushed : places_of (t.jobs ++ job ∷ []) ≡ jobs ++ c.place ∷ [] = map-append (λ (j : Granted). j.place) t.jobs (job ∷ []) in
          let parts = or_parts (is_enough w q jobs || fills_reply w (length jobs) || fills_progress w q (length jobs)) (fills_day w q (length jobs)) (sym (full_is t (c ∷ left) on) ∙ room) in
          let more = or_parts (is_enough w q jobs || fills_reply w (length jobs)) (fills_progress w q (length jobs)) parts.0 in
          let most = or_parts (is_enough w q jobs) (fills_reply w (length jobs)) more.0 in
          record {
            host = on.host;
            limits_are = on.limits_are;
            wanted_is =
                (let before = on.wanted_is in
                let sum : sum_by (estimate_at w q.host) (jobs ++ c.place ∷ []) ≡ sum_by (estimate_at w q.host) jobs + estimate_at w q.host c.place = sum_by_push (estimate_at w q.host) jobs c.place in
                let seconds : estimate_at w q.host c.place ≡ estimate c.unit.rsc_fpops_est t.host.now.p_fpops = seconds_is ∙ sym estimate_here in
                let same : t.wanted - estimate c.unit.rsc_fpops_est t.host.now.p_fpops ≡ q.asked - seconds_of w q (jobs ++ c.place ∷ []) =
                remainder t.wanted q.asked q.before (sum_by (estimate_at w q.host) jobs) (estimate_at w q.host c.place) (estimate c.unit.rsc_fpops_est t.host.now.p_fpops)
                (sum_by (estimate_at w q.host) (jobs ++ c.place ∷ [])) before sum seconds in
                same ∙ ap (λ ps. q.asked - seconds_of w q ps) (sym pushed));
            jobs = All-push (IsJob w q.host) t.jobs job on.jobs (record {
              estimate_is = ap (option_map (λ (b : UnitBook). estimate b.unit.rsc_fpops_est q.host.p_fpops)) at ∙ ap (λ n. Some n) (sym estimate_here);
              version_is = ap (option_and_then (λ (b : UnitBook). version_for w q.host b.unit.app)) at ∙ sym version_here ∙ is;
            });
            taken = subst (λ ps. AreTaken w q ps left) (sym pushed)
                (taken_on w q jobs c left on.taken
                (eligible_is ∙ and_from (unit_fits w q.host here.book) (not (user_had w q.host.account here.book)) (sym (fits_here (Some v) is) ∙ fit) (ap not (sym had_here ∙ had)))
                (sym (has_job-is t.jobs c.place.unit) ∙ has)
                (leb-false q.asked (seconds_of w q jobs) most.0)
                (leb-false w.settings.max_wus_to_send (length jobs) most.1)
                (leb-false w.settings.max_wus_in_progress (q.held + length jobs) more.1)
                (leb-false q.host.quota (sent_today w q + length jobs) parts.1));
          }
        where
          remainder : (now asked before sum one e more : ℕ) → now ≡ asked - (before + sum) → more ≡ sum + one → one ≡ e → now - e ≡ asked - (before + more)
          remainder now asked before sum one e more h k l = omega arith

      step : is_full t ≡ false → IsOn (judged w t c) left
      step room = by (has_job_of t.jobs c.place.unit) (version_for w t.host.now c.unit.app) refl refl
        where
          by_past : (v : Version) → version_for w t.host.now c.unit.app ≡ Some v → has_job_of t.jobs c.place.unit ≡ false → (fit had : Bool)
              → fits t.host.now c.unit (Some v) ≡ fit → user_had_at w t.host.now.account c.place.unit ≡ had
              → IsOn (cond fit (cond had t (with_job t c v)) t) left
          by_past v is has false had fit past = unfit (Some v) is fit
          by_past v is has true true fit past = had_one past
          by_past v is has true false fit past = taken_in v is room has fit past

          by : (has : Bool) (o : Option Version) → has_job_of t.jobs c.place.unit ≡ has → version_for w t.host.now c.unit.app ≡ o
              → IsOn (cond has t (after_version t c (Some (user_had_at w t.host.now.account c.place.unit)) o)) left
          by true o has is = skipped (λ eligible. sym (has_job-is t.jobs c.place.unit) ∙ has)
          by false None has is = unfit None is (and_false (nat_le c.unit.rsc_memory_bound t.host.now.m_nbytes && nat_le c.unit.rsc_disk_bound t.host.now.d_free
              && nat_le (estimate c.unit.rsc_fpops_est t.host.now.p_fpops) c.unit.delay_bound))
            where
              and_false : (b : Bool) → (b && false) ≡ false
              and_false true = refl
              and_false false = refl
          by false (Some v) has is =
              by_past v is has (fits t.host.now c.unit (Some v)) (user_had_at w t.host.now.account c.place.unit) refl refl

  -- regardless of what is known
  knowing : (t : Choosing) (known : Known) (left : List Candidate) → IsOn t left → IsOn (record t { known = known }) left
  knowing t known left on = record {
    host = on.host;
    limits_are = on.limits_are;
    wanted_is = on.wanted_is;
    jobs = on.jobs;
    taken = on.taken;
  }

  -- after the last offer nothing more can be given
  record IsOver (t : Choosing) : Type 0 where
    left : List Candidate
    on : IsOn t left
    maximal : is_maximal w q (places_of t.jobs) ≡ true

  ends : (left : List Candidate) (old new : Choosing) → IsOn old left → is_full old ≡ false
      → ((c : Candidate) → Contains left c → InWorld w 1 w.units c) → OffersAll (Chooses w) old left new → IsOver new
  ends [] old new on room here h =
      subst IsOver (sym h) (record { left = []; on = on; maximal = all_seen w q (places_of old.jobs) on.taken })
  ends (c ∷ cs) old new on room here h =
      let there = here c (front_of c cs) in
      let later = λ (d : Candidate) (k : Contains cs d). here d (behind c cs d k) in
      let now = λ (t : Choosing) (is : t ≡ record (judged w old c) { known = t.known }).
      subst (λ t. IsOn t cs) (sym is) (knowing (judged w old c) t.known cs (step c there old cs on room)) in
      elim h [
        | inl last ↦ record { left = cs; on = now new last.1; maximal = full_maximal new cs (now new last.1) (stops (is_full new) last.0) }
        | inr more ↦ ends cs more.0 new (now more.0 more.1.1) (goes (is_full more.0) more.1.0) later more.2
      ]

  begun : (t : Choosing) → IsBegun q.host (limits_on w q.number q.host q.held (q.now / 86400)) (q.asked - q.before) t → IsOn t (unsent w first_place)
  begun t h =
      let none : [] ≡ t.jobs = sym h.jobs in
      record {
        host = h.host;
        limits_are = h.limits_are;
        wanted_is = h.wanted_is ∙ subst (λ (js : List Granted). q.asked - q.before ≡ q.asked - seconds_of w q (places_of js)) none (let zero_more : q.asked - q.before ≡ q.asked - (q.before + 0) = omega arith in zero_more);
        jobs = subst (All (IsJob w q.host)) none (All-nil (IsJob w q.host));
        taken = subst (λ (js : List Granted). AreTaken w q (places_of js) (unsent w first_place)) none (none_taken w q);
      }

  choice : (t : Choosing) (g : Grant) → IsOver t → g.jobs ≡ t.jobs → g.end_word ≡ end_word_at t → IsChoice w q g
  choice t g over jobs word = record {
    grant = subst (λ js. IsGrant w q (places_of js)) (sym jobs) (is_grant w q (places_of t.jobs) over.left over.on.taken over.maximal);
    end_word_is = word ∙ word_is t over.left over.on ∙ ap (λ js. end_word w q (places_of js)) (sym jobs);
    jobs = subst (All (IsJob w q.host)) (sym jobs) over.on.jobs;
  }

  chosen : (old new : Choosing) (g : Grant)
      → IsBegun q.host (limits_on w q.number q.host q.held (q.now / 86400)) (q.asked - q.before) old
      → (IsUpToDate w old → HasChosen w old new) → g.jobs ≡ new.jobs → g.end_word ≡ end_word_at new → IsChoice w q g
  chosen old new g fresh offered jobs word =
      let on = begun old fresh in
      elim (offered (ready w old fresh)) [
        | inl none ↦ choice new g
            (subst IsOver (sym none.1) (record { left = unsent w first_place; on = on; maximal = full_maximal old (unsent w first_place) on none.0 })) jobs word
        | inr all ↦ choice new g (ends (unsent w first_place) old new on all.0 (λ c k. in_world w first_place 1 w.units c k) all.1) jobs word
      ]

  -- the same, with other names for the world, the limits and the seconds
  pub chosen_at : (offered_in : World) (limits : Limits) (wanted day : ℕ) (old new : Choosing) (g : Grant)
      → offered_in ≡ w → day ≡ q.now / 86400 → limits ≡ limits_on w q.number q.host q.held day → wanted ≡ q.asked - q.before
      → IsBegun q.host limits wanted old → (IsUpToDate offered_in old → HasChosen offered_in old new) → g.jobs ≡ new.jobs → g.end_word ≡ end_word_at new → IsChoice w q g
  chosen_at offered_in limits wanted day old new g same today limits_are wanted_is fresh offered jobs word =
      let known : limits ≡ limits_on w q.number q.host q.held (q.now / 86400) = limits_are ∙ ap (limits_on w q.number q.host q.held) today in
      chosen old new g
      (subst (λ n. IsBegun q.host (limits_on w q.number q.host q.held (q.now / 86400)) n old) wanted_is
      (subst (λ l. IsBegun q.host l wanted old) known fresh))
      (subst (λ v. IsUpToDate v old → HasChosen v old new) same offered) jobs word
