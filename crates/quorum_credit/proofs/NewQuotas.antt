-- The hosts of tallies with their new quotas, put as changes.
use Rattle.std.proofs.Common.{◌≡◌, ℕ, zero, suc, ◌-◌, ◌*◌, ◌^◌, ◌<◌, ◌≤◌, Bool, true, false, cond, eqb, ltb, List, [], ◌∷◌, length, Option, Some, None, sym, refl, ap, ◌∙◌, subst, arith}
use Rattle.std.proofs.lemmas.Bool.{eqb-true}
use Rattle.std.proofs.lemmas.Nat.{pow_pos, mul-le}
use borrow.Author.Tests.{ltb-true, ltb-false}
use Rattle.std.proofs.Math.Nat.{one-le-mul, pow-succ'}
use Rattle.std.specs.Prelude.{◌||◌, All, IsSome, max, min, map, option_map}
use Rattle.std.proofs.lemmas.List.Elements.{All-nil, All-cons}
use Rattle.std.specs.List.{enumerate_from, cons_option}
use Rattle.sched_book.specs.Places.{host_at}
use Rattle.sched_book.specs.Settle.{next_quota}
use Rattle.sched_book.specs.Delta.{edited_one, edited, EditFits, EditsFit}
use Rattle.sched_book.specs.declared.delta.Edit.{Edit}
use Rattle.sched_book.specs.declared.delta.Edit.TheVariants as edit
use Rattle.sched_book.specs.declared.rows.HostRow.{HostRow}
use Rattle.sched_book.specs.declared.world.World.{World}
use Rattle.call_working_set.specs.WorkingSets.{IsOfKnown}
use Rattle.quorum_credit.specs.Scores.{charges_in, merits_in}
use Rattle.quorum_credit.specs.Settling.{AreHostsInLimits, quota_by, with_quotas_by, AreQuotasBy}
use Rattle.quorum_credit.specs.Tallies.{with_quota_by, new_quotas, is_tallied, most_counted, AreSums}
use Rattle.quorum_credit.specs.declared.host_quotas.Tally.{Tally}
use Rattle.quorum_credit.specs.declared.scores.Score.{Score}
use Rattle.quorum_credit.proofs.Numbered.{same_rows, same_row, number_within, length-numbered, put_row}

-- the world with new rows of its hosts, each made from its number and row
abbrev with_rows : World → (ℕ × HostRow → HostRow) → World
with_rows w f = record w { hosts = map f (enumerate_from 1 w.hosts) }

same_world : (w : World) (f g : ℕ × HostRow → HostRow) → ((n : ℕ) (h : HostRow) → host_at w n ≡ Some h → f (n, h) ≡ g (n, h))
    → with_rows w f ≡ with_rows w g
same_world w f g same = ap (λ hosts. record w { hosts = hosts }) (same_rows f g w.hosts same)

-- the host of a tally, put with its new quota
abbrev with_one : ℕ → Tally → (ℕ × HostRow → HostRow) → ℕ × HostRow → HostRow
with_one limit s f e = cond (eqb s.host e.0) (with_quota_by limit s e.1) (f e)

put_one : (w : World) (limit : ℕ) (s : Tally) (f : ℕ × HostRow → HostRow) (h : HostRow) → host_at w s.host ≡ Some h
    → edited_one (with_rows w f) (edit.Host s.host (with_quota_by limit s h)) ≡ with_rows w (with_one limit s f)
put_one w limit s f h stands = ap (λ hosts. record w { hosts = hosts }) (put_row f (with_quota_by limit s) w.hosts s.host h stands)

abbrev quota_of : HostRow → ℕ → HostRow
quota_of h quota = record h { quota = quota }

-- a number is below the power of two to it
below_power : (n : ℕ) → n < 2 ^ n
below_power zero = omega arith
below_power (suc n) = let less = below_power n in let twice = pow-succ' 2 n in omega arith

-- so many merits lead to the limit, as more do
many_merits : (low v most limit : ℕ) → 1 ≤ low → limit ≤ most → most ≤ v → min limit (low * 2 ^ v) ≡ limit
many_merits low v most limit some capped many =
    let power : v < 2 ^ v = below_power v in
    let more : 1 * 2 ^ v ≤ low * 2 ^ v = mul-le 1 (2 ^ v) low (2 ^ v) some (omega arith) in
    omega arith

-- more charges or merits than a tally counts lead to the same quota
capped_quota : (q e v limit most : ℕ) → q ≤ most → limit ≤ most → next_quota q (min e most) (min v most) limit ≡ next_quota q e v limit
capped_quota q e v limit most small capped =
    let lowered : q - min e most ≡ q - e = omega arith in
    ap (λ n. min limit (max 1 n * 2 ^ min v most)) lowered ∙ cases (ltb most v) refl
  where
    cases : (b : Bool) → ltb most v ≡ b → min limit (max 1 (q - e) * 2 ^ min v most) ≡ min limit (max 1 (q - e) * 2 ^ v)
    cases false is =
        let few : v ≤ most = ltb-false most v is in
        ap (λ n. min limit (max 1 (q - e) * 2 ^ n)) (let same : min v most ≡ v = omega arith in same)
    cases true is =
        let many : most < v = ltb-true most v is in
        let some : 1 ≤ max 1 (q - e) = omega arith in
        many_merits (max 1 (q - e)) (min v most) most limit some capped (omega arith)
        ∙ sym (many_merits (max 1 (q - e)) v most limit some capped (omega arith))

module _ (scores : List Score) (w : World) (limits : AreHostsInLimits w) (capped : w.settings.daily_result_quota ≤ most_counted) where
  abbrev limit : ℕ
  limit = w.settings.daily_result_quota

  abbrev TellsAll : Tally → Type 0
  TellsAll s = (s.charges ≡ min (charges_in scores s.host) most_counted) × (s.merits ≡ min (merits_in scores s.host) most_counted)

  -- the quotas of these hosts are new, those of the others are as before
  abbrev with_quotas_where : (ℕ → Bool) → ℕ × HostRow → HostRow
  with_quotas_where p e = cond (p e.0) (quota_by scores limit e) e.1

  -- one more host
  put_quotas : (p : ℕ → Bool) (s : Tally) (h : HostRow) → host_at w s.host ≡ Some h → TellsAll s
      → edited_one (with_rows w (with_quotas_where p)) (edit.Host s.host (with_quota_by limit s h)) ≡ with_rows w (with_quotas_where (λ n. eqb s.host n || p n))
  put_quotas p s h stands tells =
      put_one w limit s (with_quotas_where p) h stands
      ∙ same_world w (with_one limit s (with_quotas_where p)) (with_quotas_where (λ n. eqb s.host n || p n)) (λ n g there. cases n g there (eqb s.host n) refl)
    where
      cases : (n : ℕ) (g : HostRow) → host_at w n ≡ Some g → (b : Bool) → eqb s.host n ≡ b
          → cond b (with_quota_by limit s g) (with_quotas_where p (n, g)) ≡ cond (b || p n) (quota_by scores limit (n, g)) g
      cases n g there true is =
          let same : s.host ≡ n = eqb-true s.host n is in
          let high : g.quota ≤ limit = (limits n g there).1.quota.1 in
          ap (λ c. quota_of g (next_quota g.quota c s.merits limit)) (tells.0 ∙ ap (λ n. min (charges_in scores n) most_counted) same)
          ∙ ap (λ c. quota_of g (next_quota g.quota (min (charges_in scores n) most_counted) c limit)) (tells.1 ∙ ap (λ n. min (merits_in scores n) most_counted) same)
          ∙ ap (quota_of g) (capped_quota g.quota (charges_in scores n) (merits_in scores n) limit most_counted (omega (arith, capped)) capped)
      cases n g there false is = refl

  all_first : (s : Tally) (ss : List Tally) → All TellsAll (s ∷ ss) → TellsAll s
  all_first s ss all = all 0 s (omega arith)

  all_rest : (s : Tally) (ss : List Tally) → All TellsAll (s ∷ ss) → All TellsAll ss
  all_rest s ss all k d within = all (suc k) d (omega arith)

  reordered : (a b c : Bool) → (a || (b || c)) ≡ ((b || a) || c)
  reordered true true c = refl
  reordered true false c = refl
  reordered false true c = refl
  reordered false false c = refl

  -- all hosts of these tallies
  put_all : (sums : List Tally) → All TellsAll sums → (p : ℕ → Bool)
      → edited (with_rows w (with_quotas_where p)) (new_quotas w limit sums) ≡ with_rows w (with_quotas_where (λ n. is_tallied sums n || p n))
  put_all [] all p = refl
  put_all (s ∷ ss) all p = cases (host_at w s.host) refl (put_all ss (all_rest s ss all))
    where
      cases : (o : Option HostRow) → host_at w s.host ≡ o
          → ((p : ℕ → Bool) → edited (with_rows w (with_quotas_where p)) (new_quotas w limit ss) ≡ with_rows w (with_quotas_where (λ n. is_tallied ss n || p n)))
          → edited (with_rows w (with_quotas_where p)) (cons_option (option_map (λ h. edit.Host s.host (with_quota_by limit s h)) o) (new_quotas w limit ss))
          ≡ with_rows w (with_quotas_where (λ n. (eqb s.host n || is_tallied ss n) || p n))
      cases None none more =
          more p
          ∙ same_world w (with_quotas_where (λ n. is_tallied ss n || p n)) (with_quotas_where (λ n. (eqb s.host n || is_tallied ss n) || p n))
          (λ n h there. apart n h there (eqb s.host n) refl)
        where
          apart : (n : ℕ) (h : HostRow) → host_at w n ≡ Some h → (b : Bool) → eqb s.host n ≡ b
              → with_quotas_where (λ n. is_tallied ss n || p n) (n, h) ≡ cond ((b || is_tallied ss n) || p n) (quota_by scores limit (n, h)) h
          apart n h there true is = let same : s.host ≡ n = eqb-true s.host n is in absurd cc
          apart n h there false is = refl
      cases (Some h) stands more =
          ap (λ v. edited v (new_quotas w limit ss)) (put_quotas p s h stands (all_first s ss all))
          ∙ more (λ n. eqb s.host n || p n)
          ∙ same_world w (with_quotas_where (λ n. is_tallied ss n || (eqb s.host n || p n))) (with_quotas_where (λ n. (eqb s.host n || is_tallied ss n) || p n))
          (λ n g there. ap (λ (b : Bool). cond b (quota_by scores limit (n, g)) g) (reordered (is_tallied ss n) (eqb s.host n) (p n)))

  -- a host of which the scores say nothing keeps its quota
  untallied : (n : ℕ) (h : HostRow) → host_at w n ≡ Some h → (charges_in scores n ≡ 0) × (merits_in scores n ≡ 0) → quota_by scores limit (n, h) ≡ h
  untallied n h there nothing =
      let low : 1 ≤ h.quota = (limits n h there).1.quota.0 in
      let high : h.quota ≤ limit = (limits n h there).1.quota.1 in
      let kept : next_quota h.quota 0 0 limit ≡ h.quota = omega arith in
      ap (λ c. quota_of h (next_quota h.quota c (merits_in scores n) limit)) nothing.0
      ∙ ap (λ c. quota_of h (next_quota h.quota 0 c limit)) nothing.1
      ∙ ap (quota_of h) kept

  pub quotas_are_new : (sums : List Tally) → AreSums scores sums → edited w (new_quotas w limit sums) ≡ with_quotas_by scores w
  quotas_are_new sums are =
      ap (λ hosts. edited (record w { hosts = hosts }) (new_quotas w limit sums)) (sym (same_row w.hosts))
      ∙ put_all sums are.each (λ n. false)
      ∙ same_world w (with_quotas_where (λ n. is_tallied sums n || false)) (quota_by scores limit) (λ n h there. cases n h there (is_tallied sums n) refl)
    where
      cases : (n : ℕ) (h : HostRow) → host_at w n ≡ Some h → (b : Bool) → is_tallied sums n ≡ b → cond (b || false) (quota_by scores limit (n, h)) h ≡ quota_by scores limit (n, h)
      cases n h there true is = refl
      cases n h there false is = sym (untallied n h there (are.others n is))

-- a new quota is between 1 and the limit
pub quota_within : (limit q e v : ℕ) → 1 ≤ limit → (1 ≤ next_quota q e v limit) × (next_quota q e v limit ≤ limit)
quota_within limit q e v some =
    let low : 1 ≤ max 1 (q - e) = omega arith in
    let doubled : 1 ≤ max 1 (q - e) * 2 ^ v = one-le-mul low (pow_pos v) in
    (omega arith, omega arith)

module _ (w : World) (limits : AreHostsInLimits w) (some : 1 ≤ w.settings.daily_result_quota) where
  put_fits : (s : Tally) (f : ℕ × HostRow → HostRow) (h : HostRow) → host_at w s.host ≡ Some h
      → EditFits (with_rows w f) (edit.Host s.host (with_quota_by w.settings.daily_result_quota s h))
  put_fits s f h stands =
      let within = number_within w.hosts s.host h stands in
      let long : length (map f (enumerate_from 1 w.hosts)) ≡ length w.hosts = length-numbered f w.hosts in
      let good = limits s.host h stands in (
        within.0,
        omega arith,
        good.2,
        good.0,
        record {
          cpid = good.1.cpid;
          speed = good.1.speed;
          memory = good.1.memory;
          disk = good.1.disk;
          platforms = good.1.platforms;
          words = good.1.words;
          quota = quota_within w.settings.daily_result_quota h.quota s.charges s.merits some;
        },
      )

  all_fit : (sums : List Tally) (f : ℕ × HostRow → HostRow) → EditsFit (with_rows w f) (new_quotas w w.settings.daily_result_quota sums)
  all_fit [] f = tt
  all_fit (s ∷ ss) f = cases (host_at w s.host) refl (all_fit ss)
    where
      cases : (o : Option HostRow) → host_at w s.host ≡ o
          → ((f : ℕ × HostRow → HostRow) → EditsFit (with_rows w f) (new_quotas w w.settings.daily_result_quota ss))
          → EditsFit (with_rows w f) (cons_option (option_map (λ h. edit.Host s.host (with_quota_by w.settings.daily_result_quota s h)) o) (new_quotas w w.settings.daily_result_quota ss))
      cases None none more = more f
      cases (Some h) stands more =
          let limit = w.settings.daily_result_quota in (
            put_fits s f h stands,
            subst (λ v. EditsFit v (new_quotas w limit ss)) (sym (put_one w limit s f h stands)) (more (with_one limit s f)),
          )

  pub quotas_fit : (sums : List Tally) → EditsFit w (new_quotas w w.settings.daily_result_quota sums)
  quotas_fit sums =
      subst (λ hosts. EditsFit (record w { hosts = hosts }) (new_quotas w w.settings.daily_result_quota sums)) (same_row w.hosts) (all_fit sums (λ e. e.1))

-- only hosts are put
hosts_alone : (w v : World) (most : ℕ) (ms : List Tally) → edited v (new_quotas w most ms) ≡ record v { hosts = (edited v (new_quotas w most ms)).hosts }
hosts_alone w v most [] = refl
hosts_alone w v most (m ∷ ms) = cases (host_at w m.host) (λ z. hosts_alone w z most ms)
  where
    cases : (o : Option HostRow) → ((z : World) → edited z (new_quotas w most ms) ≡ record z { hosts = (edited z (new_quotas w most ms)).hosts })
        → edited v (cons_option (option_map (λ h. edit.Host m.host (with_quota_by most m h)) o) (new_quotas w most ms))
        ≡ record v { hosts = (edited v (cons_option (option_map (λ h. edit.Host m.host (with_quota_by most m h)) o) (new_quotas w most ms))).hosts }
    cases None more = more v
    cases (Some h) more = more (edited_one v (edit.Host m.host (with_quota_by most m h)))

-- each is of a host that exists
quotas_known : (w : World) (most : ℕ) (ms : List Tally) → All (IsOfKnown w) (new_quotas w most ms)
quotas_known w most [] = All-nil (IsOfKnown w)
quotas_known w most (m ∷ ms) = cases (host_at w m.host) refl (quotas_known w most ms)
  where
    cases : (o : Option HostRow) → host_at w m.host ≡ o → All (IsOfKnown w) (new_quotas w most ms)
        → All (IsOfKnown w) (cons_option (option_map (λ h. edit.Host m.host (with_quota_by most m h)) o) (new_quotas w most ms))
    cases None stands more = more
    cases (Some h) stands more =
        All-cons (IsOfKnown w) (edit.Host m.host (with_quota_by most m h)) (new_quotas w most ms) (subst IsSome (sym stands) refl) more

pub are_quotas : (scores : List Score) (sums : List Tally) (w : World) (most : ℕ) (quotas : List Edit) → AreSums scores sums → most ≡ w.settings.daily_result_quota → most ≤ most_counted
    → quotas ≡ new_quotas w most sums → AreQuotasBy scores w quotas
are_quotas scores sums w most quotas are limit capped is =
    subst (AreQuotasBy scores w) (sym (is ∙ ap (λ n. new_quotas w n sums) limit))
    (record {
      quoted = λ limits. quotas_are_new scores w limits (subst (λ n. n ≤ most_counted) limit capped) sums are;
      fit = λ limits some. quotas_fit w limits some sums;
      alone = hosts_alone w w w.settings.daily_result_quota sums;
      known = quotas_known w w.settings.daily_result_quota sums;
    })
