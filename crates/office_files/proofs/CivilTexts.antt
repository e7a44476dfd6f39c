-- The date and time of a moment have the year, month, day and time that the moment's text gives.
use Rattle.std.proofs.Common.{◌≡◌, ℕ, zero, suc, ◌+◌, ◌*◌, ◌/◌, ◌%◌, ◌<◌, ◌≤◌, inl, inr, Bool, true, false, cond, nat_lt, ◌∷◌, ◌++◌, None, refl, sym, ap, ◌∙◌, arith, ℤ, pos, negsuc, ◌≤ℤ◌, unsigned_abs}
use Rattle.std.proofs.lemmas.Bool.{cases_order, lt-ltb, le-ltb}
use Rattle.std.proofs.lemmas.Int.{by_lt_z}
use Rattle.jiff.specs.Words.{civil_nanos, date_text, time_text, epoch_day, time_nanos}
use Rattle.jiff.proofs.Family.{epoch_day-civil_nanos, civil_nanos-parts}
use Rattle.jiff_core.specs.Calendar.{day_count, IsCivilDate}
use Rattle.jiff_core.specs.declared.civil.date.Date.{Date}
use Rattle.jiff_core.specs.declared.civil.datetime.DateTime.{DateTime}
use Rattle.jiff_core.specs.declared.civil.time.Time.{Time}
use Rattle.jiff_core.proofs.CalendarLemmas.{day_count-epoch, day_count-day_of_year, day_count-day, day_count-lt_year, day_count-lt_month, days_in_month_bounds, days_from_civil-day_count}
use Rattle.jiff_core.proofs.DateLemmas.{civil}
use Rattle.jiff_core.proofs.SignedLemmas.{signed_arith, unsigned_abs-parts}
use Rattle.office_files.specs.Civil.{first_from, month_start, year_of, month_of, day_of_month, date_of, date_by, time_of, civil_text}

chosen : (b : Bool) (n later y : ℕ) → (b ≡ true → n ≡ y) → (b ≡ false → later ≡ y) → cond b n later ≡ y
chosen true n later y h k = h refl
chosen false n later y h k = k refl

-- if no number before one passes, the first that passes is that one
first_is : (n more y : ℕ) (p : ℕ → Bool) → n ≤ y → y ≤ n + more → ((k : ℕ) → n ≤ k → k < y → p k ≡ false) → p y ≡ true → first_from n more p ≡ y
unfolding first_from
first_is n zero y p low high before at = omega arith
first_is n (suc more) y p low high before at =
    chosen (p n) n (first_from (n + 1) more p) y
    (λ is. elim (cases_order n y) [
      | inl same ↦ same
      | inr (inl lt) ↦ let not = before n (omega arith) lt in cc
      | inr (inr gt) ↦ absurd (omega arith)
    ])
    (λ not. elim (cases_order n y) [
      | inl same ↦ let is : p n ≡ true = ap p same ∙ at in cc
      | inr (inl lt) ↦ first_is (n + 1) more y p (omega arith) (omega arith) (λ k more less. before k (omega arith) less) at
      | inr (inr gt) ↦ absurd (omega arith)
    ])

module _ (y m d day : ℕ) (late : 1970 ≤ y) (early : y ≤ 9999) (is_civil : IsCivilDate (pos y) m d) (is : day_count (pos y) m d ≡ day + 4_371_953) where
  year_began : (k : ℕ) → 1970 ≤ k → k < y → day_count (pos (k + 1)) 1 1 ≤ day_count (pos y) m d
  year_began k low lt =
      elim (cases_order (k + 1) y) [
        | inl same ↦ rw same (omega (arith, day_count-day_of_year (pos y) m d is_civil.2.0, is_civil.2.0))
        | inr (inl less) ↦
            let first = days_in_month_bounds (pos (k + 1)) 1 in
            omega (arith, day_count-lt_year (pos (k + 1)) 1 1 (pos y) m d (omega (arith, signed_arith), omega arith, omega arith) is_civil.2.0 (omega (arith, signed_arith)))
        | inr (inr gt) ↦ absurd (omega arith)
      ]

  month_began : (k : ℕ) → 1 ≤ k → k < m → day_count (pos y) (k + 1) 1 ≤ day_count (pos y) m d
  month_began k low lt =
      elim (cases_order (k + 1) m) [
        | inl same ↦ rw same (omega (arith, day_count-day (pos y) m d 1 is_civil.2.0 (omega arith), is_civil.2.0))
        | inr (inl less) ↦
            let first = days_in_month_bounds (pos y) (k + 1) in
            omega (arith, day_count-lt_month (pos y) (k + 1) 1 m d (is_civil.0, omega (arith, is_civil.1), omega arith) is_civil.2.0 less)
        | inr (inr gt) ↦ absurd (omega arith)
      ]

  pub year_is : year_of day ≡ y
  year_is =
      first_is 1970 8029 y (λ year. nat_lt day (month_start (year + 1) 1)) late (omega arith)
      (λ k low lt. le-ltb day (month_start (k + 1) 1) (omega (arith, day_count-epoch, year_began k low lt, is)))
      (lt-ltb day (month_start (y + 1) 1) (omega (arith, day_count-epoch, is, day_count-lt_year (pos y) m d (pos (y + 1)) 1 1 is_civil (omega arith) (omega (arith, signed_arith)))))

  pub month_is : month_of y day ≡ m
  month_is =
      first_is 1 11 m (λ month. nat_lt day (month_start y (month + 1))) is_civil.1.0 (omega (arith, is_civil.1))
      (λ k low lt. le-ltb day (month_start y (k + 1)) (omega (arith, day_count-epoch, month_began k low lt, is)))
      (lt-ltb day (month_start y (m + 1)) (omega (arith, day_count-epoch, is, day_count-lt_month (pos y) m d (m + 1) 1 is_civil (omega arith) (omega arith))))

  since_1970 : day_count (pos 1970) 1 1 ≤ day_count (pos y) m 1
  since_1970 =
      let within = day_count-day_of_year (pos y) m 1 (omega arith) in
      elim (cases_order 1970 y) [
        | inl same ↦ let same_year : day_count (pos 1970) 1 1 ≡ day_count (pos y) 1 1 = ap (λ n. day_count (pos n) 1 1) same in omega (arith, within, same_year)
        | inr (inl less) ↦
            let first = days_in_month_bounds (pos 1970) 1 in
            omega (arith, within, day_count-lt_year (pos 1970) 1 1 (pos y) 1 1 (omega (arith, signed_arith), omega arith, omega arith) (omega arith) (omega (arith, signed_arith)))
        | inr (inr gt) ↦ absurd (omega arith)
      ]

  month_of_day : month_of (year_of day) day ≡ m
  month_of_day = ap (λ year. month_of year day) year_is ∙ month_is

  pub date_is : date_of day ≡ date_by y m d
  date_is =
      let day_is : day_of_month y m day ≡ d = omega (arith, day_count-epoch, is, day_count-day (pos y) m d 1 is_civil.2.0 (omega arith), is_civil.2.0, since_1970) in
      rw (month_of_day, year_is, day_is) refl

not_negative : (z : ℤ) → pos 1970 ≤ℤ z → z ≡ pos (unsigned_abs z)
not_negative (pos n) h = refl
not_negative (negsuc n) h = absurd (omega (arith, signed_arith))

-- a date, for a day from 1970 on
of_date : (d : Date) (day : ℕ) → epoch_day d ≡ pos day → date_text d ≡ date_of day
of_date d day e =
    let count : day_count d.year d.month d.day ≡ day + 4_371_953 = omega (arith, signed_arith, days_from_civil-day_count d.year d.month d.day, e) in
    by_lt_z d.year (pos 1970)
    (λ lt. absurd (omega (arith, day_count-lt_year d.year d.month d.day (pos 1970) 1 1 (civil d) (omega arith) lt, day_count-epoch, count)))
    (λ ge.
    let year : d.year ≡ pos (unsigned_abs d.year) = not_negative d.year ge in
    let whole = civil d in
    let in_year = rw year at whole in
    sym (date_is (unsigned_abs d.year) d.month d.day day (omega (arith, signed_arith, unsigned_abs-parts d.year)) (omega (arith, signed_arith, unsigned_abs-parts d.year, d.year_in)) in_year (rw year at count)
    ∙ rw year refl))

-- a time at a whole second
of_time : (t : Time) (second : ℕ) → time_nanos t ≡ second * 1_000_000_000 → time_text None t ≡ time_of second
of_time t second e =
    let whole : t.subsec_nanosecond ≡ 0 = omega arith in
    let hour : t.hour ≡ second / 3600 = omega arith in
    let minute : t.minute ≡ second / 60 % 60 = omega arith in
    let left : t.second ≡ second % 60 = omega arith in
    rw (whole, hour, minute, left) refl

pub text_is : (dt : DateTime) (moment : ℕ) → civil_nanos dt ≡ pos (moment * 1_000_000_000) → date_text dt.date ++ 32 ∷ time_text None dt.time ≡ civil_text moment
unfolding civil_text
text_is dt moment e =
    let day : epoch_day dt.date ≡ pos (moment / 86400) = omega (arith, signed_arith, epoch_day-civil_nanos dt, e) in
    let nanos : time_nanos dt.time ≡ moment % 86400 * 1_000_000_000 = omega (arith, signed_arith, civil_nanos-parts dt, day, e) in
    rw (of_date dt.date (moment / 86400) day, of_time dt.time (moment % 86400) nanos) refl
