-- Rule. The civil date and time of a moment, in UTC and on the Gregorian calendar, for the years from 1970 to 9999.
use Rattle.std.specs.Prelude.{ℕ, zero, suc, ◌+◌, ◌-◌, ◌/◌, ◌%◌, Bool, nat_lt, if◌then◌else◌, List, [], ◌∷◌, ◌++◌, pos}
use Rattle.jiff_core.specs.Calendar.{day_count}

-- the first of `count` numbers from n on that passes, and the one after them if none does
unfoldable pub first_from : ℕ → ℕ → (ℕ → Bool) → ℕ
first_from n zero p = n
first_from n (suc more) p = if p n then n else first_from (n + 1) more p

-- the number of the day on which a month begins; 1970-01-01 is day 0
abbrev pub month_start : ℕ → ℕ → ℕ
month_start year month = day_count (pos year) month 1 - day_count (pos 1970) 1 1

-- the year of a day is the first one whose next year begins later than that day; the same for its month
abbrev pub year_of : ℕ → ℕ
year_of day = first_from 1970 8029 (λ year. nat_lt day (month_start (year + 1) 1))

abbrev pub month_of : ℕ → ℕ → ℕ
month_of year day = first_from 1 11 (λ month. nat_lt day (month_start year (month + 1)))

abbrev pub day_of_month : ℕ → ℕ → ℕ → ℕ
day_of_month year month day = day - month_start year month + 1

-- a number below 100 in two digits, and one below 10,000 in four
abbrev pub two_digits : ℕ → List ℕ
two_digits n = (48 + n / 10) ∷ (48 + n % 10) ∷ []

abbrev pub four_digits : ℕ → List ℕ
four_digits n = two_digits (n / 100) ++ two_digits (n % 100)

-- `2024-06-19`
abbrev pub date_by : ℕ → ℕ → ℕ → List ℕ
date_by year month day = four_digits year ++ 45 ∷ two_digits month ++ 45 ∷ two_digits day

-- `17:30:05`
abbrev pub time_by : ℕ → ℕ → ℕ → List ℕ
time_by hour minute second = two_digits hour ++ 58 ∷ two_digits minute ++ 58 ∷ two_digits second

-- the date of a day, and the time of a second of a day, which has 86,400
abbrev pub date_of : ℕ → List ℕ
date_of day = date_by (year_of day) (month_of (year_of day) day) (day_of_month (year_of day) (month_of (year_of day) day) day)

abbrev pub time_of : ℕ → List ℕ
time_of second = time_by (second / 3600) (second / 60 % 60) (second % 60)

-- `2024-06-19 17:30:05`, of a moment in seconds since 1970-01-01T00:00:00Z
unfoldable pub civil_text : ℕ → List ℕ
civil_text moment = date_of (moment / 86400) ++ 32 ∷ time_of (moment % 86400)

-- the last second that has such a text, late in the year 9999
abbrev pub last_civil : ℕ
last_civil = 253402207200
