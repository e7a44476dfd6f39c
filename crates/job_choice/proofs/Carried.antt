-- A grant of one world is a grant of another that is like it in everything that a grant depends on.
use Rattle.std.proofs.Common.{◌≡◌, ◌⊎◌, inl, inr, ℕ, ◌+◌, ◌<◌, ◌≤◌, Bool, true, false, cond, List, [], ◌∷◌, length, take, get_or, sym, refl, ap, ◌∙◌, subst}
use Rattle.std.specs.Prelude.{◌&&◌, ◌||◌, nat_le, is_none, filter, sum_by, Contains}
use Rattle.std.specs.List.{list_any, list_all}
use Rattle.std.proofs.lemmas.List.Elements.{All-contains, All-contains_itself, All-weaker}
use Rattle.std.proofs.lemmas.List.Sums.{sum_by-cons, AllPass-from_list_all, list_all-from_AllPass}
use Rattle.rpc_records.specs.declared.reply.EndWord.{EndWord}
use Rattle.rpc_records.specs.declared.reply.EndWord.TheVariants.{Enough, ReplyLimit, InProgressLimit, DailyQuota, NoEligibleWork}
use Rattle.sched_book.specs.Fits.{is_eligible, is_for, estimate_at}
use Rattle.sched_book.specs.Grant.{Asking, IsGrant, is_maximal, is_enough, fills_reply, fills_progress, fills_day, seconds_of, has_unit, end_word}
use Rattle.sched_book.specs.Places.{places, is_before, is_same}
use Rattle.sched_book.specs.declared.instance.Place.{Place}
use Rattle.sched_book.specs.declared.world.World.{World}
use Rattle.sched_book.proofs.Newest.{passes_filter, passed_filter}
use Rattle.job_choice.specs.Alike.{IsLike, GrantsCarryOver}
use Rattle.job_choice.proofs.Candidates.{is_place}
use Rattle.job_choice.proofs.Only.{some_of}

same_sum : (f g : Place → ℕ) → ((p : Place) → f p ≡ g p) → (ps : List Place) → sum_by f ps ≡ sum_by g ps
same_sum f g same [] = refl
same_sum f g same (p ∷ ps) =
    sum_by-cons f p ps
    ∙ ap (λ n. n + sum_by f ps) (same p)
    ∙ ap (λ n. g p + n) (same_sum f g same ps)
    ∙ sym (sum_by-cons g p ps)

any_of : (a b c d e : Bool) → (a ≡ true) ⊎ ((b ≡ true) ⊎ ((c ≡ true) ⊎ ((d ≡ true) ⊎ (e ≡ true)))) → (a || b || c || d || e) ≡ true
any_of true b c d e h = refl
any_of false true c d e h = refl
any_of false false true d e h = refl
any_of false false false true e h = refl
any_of false false false false true h = refl
any_of false false false false false h = elim h [ inl n ↦ n | inr h ↦ elim h [ inl n ↦ n | inr h ↦ elim h [ inl n ↦ n | inr h ↦ elim h [ inl n ↦ n | inr n ↦ n ] ] ] ]

first_word : Bool → Bool → Bool → Bool → EndWord
first_word a b c d = cond a Enough (cond b ReplyLimit (cond c InProgressLimit (cond d DailyQuota NoEligibleWork)))

module _ (w v : World) (q : Asking) (like : IsLike w v q) where
  seconds_alike : (jobs : List Place) → seconds_of v q jobs ≡ seconds_of w q jobs
  seconds_alike jobs = ap (λ n. q.before + n) (same_sum (estimate_at v q.host) (estimate_at w q.host) like.seconds jobs)

  enough_alike : (jobs : List Place) → is_enough v q jobs ≡ is_enough w q jobs
  enough_alike jobs = ap (nat_le q.asked) (seconds_alike jobs)

  reply_alike : (n : ℕ) → fills_reply v n ≡ fills_reply w n
  reply_alike n = ap (λ m. nat_le m n) like.to_send

  progress_alike : (n : ℕ) → fills_progress v q n ≡ fills_progress w q n
  progress_alike n = ap (λ m. nat_le m (q.held + n)) like.in_progress

  day_alike : (n : ℕ) → fills_day v q n ≡ fills_day w q n
  day_alike n = ap (λ m. nat_le q.host.quota (m + n)) like.sent

  eligible_before : (p : Place) → is_eligible v q.host p ≡ true → is_eligible w q.host p ≡ true
  eligible_before p h = sym (like.eligible p) ∙ h

  stands_before : (p : Place) → is_eligible v q.host p ≡ true → Contains (places w) p
  stands_before p h = is_place w (λ b x. is_none x.owner && is_for w q.host b) p (eligible_before p h)

  all_alike : (jobs : List Place) → list_all (λ (p : Place). has_unit p.unit jobs) (filter (is_eligible w q.host) (places w)) ≡ true
      → list_all (λ (p : Place). has_unit p.unit jobs) (filter (is_eligible v q.host) (places v)) ≡ true
  all_alike jobs all =
      list_all-from_AllPass (λ (p : Place). has_unit p.unit jobs) (filter (is_eligible v q.host) (places v))
      (All-weaker (Contains (filter (is_eligible v q.host) (places v))) (λ (p : Place). has_unit p.unit jobs ≡ true)
      (λ p h. (let for = passed_filter (is_eligible v q.host) (places v) p h in
      All-contains (λ (p : Place). has_unit p.unit jobs ≡ true) (filter (is_eligible w q.host) (places w)) p
      (AllPass-from_list_all (λ (p : Place). has_unit p.unit jobs) (filter (is_eligible w q.host) (places w)) all)
      (passes_filter (is_eligible w q.host) (places w) p (stands_before p for) (eligible_before p for))))
      (filter (is_eligible v q.host) (places v)) (All-contains_itself (filter (is_eligible v q.host) (places v))))

  maximal_alike : (jobs : List Place) → is_maximal w q jobs ≡ true → is_maximal v q jobs ≡ true
  maximal_alike jobs h =
      any_of (is_enough v q jobs) (fills_reply v (length jobs)) (fills_progress v q (length jobs)) (fills_day v q (length jobs))
      (list_all (λ (p : Place). has_unit p.unit jobs) (filter (is_eligible v q.host) (places v)))
      (elim (some_of (is_enough w q jobs) (fills_reply w (length jobs)) (fills_progress w q (length jobs)) (fills_day w q (length jobs))
      (list_all (λ (p : Place). has_unit p.unit jobs) (filter (is_eligible w q.host) (places w))) h) [
        | inl enough ↦ inl (enough_alike jobs ∙ enough)
        | inr h ↦ inr (elim h [
          | inl reply ↦ inl (reply_alike (length jobs) ∙ reply)
          | inr h ↦ inr (elim h [
            | inl progress ↦ inl (progress_alike (length jobs) ∙ progress)
            | inr h ↦ inr (elim h [ inl day ↦ inl (day_alike (length jobs) ∙ day) | inr all ↦ inr (all_alike jobs all) ])
          ])
        ])
      ])

  pub carried : (jobs : List Place) → IsGrant w q jobs → IsGrant v q jobs
  carried jobs g = record {
    rising = g.rising;
    eligible = All-weaker (λ (p : Place). is_eligible w q.host p ≡ true) (λ (p : Place). is_eligible v q.host p ≡ true) (λ p h. like.eligible p ∙ h) jobs g.eligible;
    wanted = λ k within. subst (λ n. n < q.asked) (sym (seconds_alike (take k jobs))) (g.wanted k within);
    in_reply = subst (λ n. length jobs ≤ n) (sym like.to_send) g.in_reply;
    in_progress = λ some. subst (λ n. q.held + length jobs ≤ n) (sym like.in_progress) (g.in_progress some);
    in_quota = λ some. subst (λ n. n + length jobs ≤ q.host.quota) (sym like.sent) (g.in_quota some);
    maximal = maximal_alike jobs g.maximal;
    by_place = λ k d within. λ m e inside. λ for before.
        let p = get_or jobs k d in
        let r = get_or (places v) m e in
        All-contains (λ (x : Place). is_eligible w q.host x ≡ true → is_before x p ≡ true → (list_any (is_same x) jobs || has_unit x.unit (filter (λ s. is_before s p) jobs)) ≡ true)
        (places w) r (g.by_place k d within) (stands_before r for) (eligible_before r for) before;
  }

  pub end_word_carried : (jobs : List Place) → end_word v q jobs ≡ end_word w q jobs
  unfolding first_word
  end_word_carried jobs =
      ap (λ b. first_word b (fills_reply v (length jobs)) (fills_progress v q (length jobs)) (fills_day v q (length jobs))) (enough_alike jobs)
      ∙ ap (λ b. first_word (is_enough w q jobs) b (fills_progress v q (length jobs)) (fills_day v q (length jobs))) (reply_alike (length jobs))
      ∙ ap (λ b. first_word (is_enough w q jobs) (fills_reply w (length jobs)) b (fills_day v q (length jobs))) (progress_alike (length jobs))
      ∙ ap (λ b. first_word (is_enough w q jobs) (fills_reply w (length jobs)) (fills_progress w q (length jobs)) b) (day_alike (length jobs))

pub grants_carry_over : GrantsCarryOver
grants_carry_over w v q jobs like g = (carried w v q like jobs g, end_word_carried w v q like jobs)
