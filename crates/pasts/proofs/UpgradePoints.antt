-- The eras of a past, from its upgrade points, and what is kept according to them.
use Rattle.std.proofs.Common.{◌≡◌, ℕ, zero, suc, ◌+◌, ◌<◌, ◌≤◌, List, [], ◌∷◌, ◌++◌, length, take, Bool, true, false, refl, sym, ◌∙◌, ap, arith}
use Rattle.std.specs.Prelude.{nat_le, if◌then◌else◌, replicate}
use Rattle.std.specs.List.{AllByRecursion}
use Rattle.std.proofs.lemmas.Bool.{le-leb, lt-leb}
use Rattle.std.proofs.lemmas.List.{length-append, length-replicate, length-take, take_all}
use Rattle.reply_register.specs.declared.key.Key.{Key}
use Rattle.sched_book.specs.declared.settings.Settings.{Settings}
use Rattle.stores.specs.Eras.{era_at, kept_before_last, new_upgrade_points}
use Rattle.pasts.specs.UpgradePoints.{AreOfEras, NewPastsAreInEra, ErasGoOn, UpgradesLeadOn, NewTablesHaveOneEra, KeptSinceTheFirstUpgrade}
use Rattle.pasts.specs.Repeats.{calls_heard, is_first_of, kept_calls, KeptAreTheLatestFour}
use Rattle.pasts.specs.Stands.{Heard, Past}

-- ---- the era of a place

-- a point that was reached is counted, and one that is yet to come is not
upgrade_came : (point : ℕ) (points : List ℕ) (n : ℕ) → point ≤ n → era_at (point ∷ points) n ≡ suc (era_at points n)
upgrade_came point points n most = ap (λ (b : Bool). if b then suc (era_at points n) else era_at points n) (le-leb point n most)

upgrade_comes : (point : ℕ) (points : List ℕ) (n : ℕ) → n < point → era_at (point ∷ points) n ≡ era_at points n
upgrade_comes point points n less = ap (λ (b : Bool). if b then suc (era_at points n) else era_at points n) (lt-leb point n less)

all_came : (points : List ℕ) (n : ℕ) → AllByRecursion (λ point. point ≤ n) points → era_at points n ≡ length points
all_came [] n came = refl
all_came (point ∷ points) n came = upgrade_came point points n came.0 ∙ ap suc (all_came points n came.1)

none_came : (points : List ℕ) (point n : ℕ) → AllByRecursion (λ later. point ≤ later) points → n < point → era_at points n ≡ 0
none_came [] point n later less = refl
none_came (m ∷ points) point n later less = upgrade_comes m points n (omega (arith, later.0, less)) ∙ none_came points point n later.1 less

-- an era counts at most as many upgrades as there are
counted : (b : Bool) (era most : ℕ) → era ≤ most → (if b then suc era else era) ≤ suc most
counted true era most at = omega (arith, at)
counted false era most at = omega (arith, at)

pub era_most : (points : List ℕ) (n : ℕ) → era_at points n ≤ length points
era_most [] n = omega arith
era_most (point ∷ points) n = counted (nat_le point n) (era_at points n) (length points) (era_most points n)

-- a point after a place does not change its era
era_before : (points : List ℕ) (point n : ℕ) → n < point → era_at (points ++ point ∷ []) n ≡ era_at points n
era_before [] point n less = upgrade_comes point [] n less
era_before (m ∷ points) point n less = ap (λ era. if nat_le m n then suc era else era) (era_before points point n less)

all_later : (points : List ℕ) (n m : ℕ) → n ≤ m → AllByRecursion (λ point. point ≤ n) points → AllByRecursion (λ point. point ≤ m) points
all_later [] n m most came = tt
all_later (point ∷ points) n m most came = (omega (arith, came.0, most), all_later points n m most came.1)

all_with : (points : List ℕ) (n : ℕ) → AllByRecursion (λ point. point ≤ n) points → AllByRecursion (λ point. point ≤ n) (points ++ n ∷ [])
all_with [] n came = (omega arith, tt)
all_with (point ∷ points) n came = (came.0, all_with points n came.1)

zeros_came : (era n : ℕ) → AllByRecursion (λ point. point ≤ n) (replicate era 0)
zeros_came zero n = tt
zeros_came (suc era) n = (omega arith, zeros_came era n)

-- ---- pasts in an era

pub new_pasts_are_in_era : NewPastsAreInEra
new_pasts_are_in_era era = record { upgrades = length-replicate era 0; came = zeros_came era 0; eras = tt }

pub eras_go_on : ErasGoOn
eras_go_on era points past m answer is of = record {
  upgrades = is.upgrades;
  came = all_later points (length past) (suc (length past)) (omega arith) is.came;
  eras = (of ∙ sym (all_came points (length past) is.came ∙ is.upgrades), is.eras);
}

eras_before : (points : List ℕ) (point : ℕ) (past : Past) → length past ≤ point → AreOfEras points past → AreOfEras (points ++ point ∷ []) past
eras_before points point [] most are = tt
eras_before points point (h ∷ past) most are =
    (are.0 ∙ sym (era_before points point (length past) (omega (arith, most))), eras_before points point past (omega (arith, most)) are.1)

pub upgrades_lead_on : UpgradesLeadOn
upgrades_lead_on era points past is = record {
  upgrades = let more : length (points ++ length past ∷ []) ≡ length points + 1 = length-append points (length past ∷ []) in omega (arith, more, is.upgrades);
  came = all_with points (length past) is.came;
  eras = eras_before points (length past) past (omega arith) is.eras;
}

pub new_tables_have_one_era : NewTablesHaveOneEra
new_tables_have_one_era era past is = each past is.eras
  where
    each : (past : Past) → AreOfEras (new_upgrade_points era) past → AllByRecursion (λ h. h.message.era ≡ era) past
    each [] are = tt
    each (h ∷ past) are = (are.0 ∙ all_came (new_upgrade_points era) (length past) (zeros_came era (length past)) ∙ length-replicate era 0, each past are.1)

-- ---- the latest four calls

take_fewer : {X : Type 0} (m n : ℕ) (xs : List X) → m ≤ n → take m (take n xs) ≡ take m xs
take_fewer zero n xs most = refl
take_fewer (suc m) zero xs most = absurd (omega (arith, most))
take_fewer (suc m) (suc n) [] most = refl
take_fewer (suc m) (suc n) (x ∷ xs) most = ap (λ rest. x ∷ rest) (take_fewer m n xs (omega (arith, most)))

-- in the first era only the last call is kept
one_kept : (s : Settings) (key : Key) (past : Past) → AllByRecursion (λ h. h.message.era ≡ 0) past → kept_calls s key past ≡ take 1 (calls_heard s key past)
one_kept s key [] first = refl
one_kept s key (h ∷ past) first = cases (is_first_of s key past h) (one_kept s key past first.1)
  where
    cases : (b : Bool) → kept_calls s key past ≡ take 1 (calls_heard s key past)
        → (if b then h ∷ take (kept_before_last h.message.era) (kept_calls s key past) else kept_calls s key past)
        ≡ take 1 (if b then h ∷ calls_heard s key past else calls_heard s key past)
    cases true older = ap (λ era. h ∷ take (kept_before_last era) (kept_calls s key past)) first.0
    cases false older = older

three_beside : (era : ℕ) → 1 ≤ era → kept_before_last era ≡ 3
three_beside zero later = absurd (omega (arith, later))
three_beside (suc era) later = refl

abbrev AreLatestFour : Settings → Key → Past → Past → Type 0
AreLatestFour s key all older =
    (since : List Heard) × (calls_heard s key all ≡ since ++ calls_heard s key older)
    × (kept_calls s key all ≡ take 4 (since ++ take 1 (calls_heard s key older)))

pub kept_are_the_latest_four : KeptAreTheLatestFour
kept_are_the_latest_four s key [] older later first =
    let few : length (take 1 (calls_heard s key older)) ≤ 4 = omega (arith, length-take 1 (calls_heard s key older)) in
    ([], refl, one_kept s key older first ∙ sym (take_all 4 (take 1 (calls_heard s key older)) few))
kept_are_the_latest_four s key (h ∷ newer) older later first =
    cases (is_first_of s key (newer ++ older) h) (kept_are_the_latest_four s key newer older later.1 first)
  where
    all : Past
    all = newer ++ older

    cases : (b : Bool) → AreLatestFour s key (newer ++ older) older
        → (since : List Heard)
        × ((if b then h ∷ calls_heard s key (newer ++ older) else calls_heard s key (newer ++ older)) ≡ since ++ calls_heard s key older)
        × ((if b then h ∷ take (kept_before_last h.message.era) (kept_calls s key (newer ++ older)) else kept_calls s key (newer ++ older))
        ≡ take 4 (since ++ take 1 (calls_heard s key older)))
    cases true rest = (
      h ∷ rest.0,
      ap (λ calls. h ∷ calls) rest.1,
      (λ i. h ∷ take (three_beside h.message.era later.0 i) (rest.2 i))
          ∙ ap (λ calls. h ∷ calls) (take_fewer 3 4 (rest.0 ++ take 1 (calls_heard s key older)) (omega arith)),
    )
    cases false rest = rest

-- ---- with the upgrade points

eras_of_older : (point : ℕ) (points : List ℕ) (past : Past) → AllByRecursion (λ later. point ≤ later) points → length past ≤ point → AreOfEras (point ∷ points) past
    → AllByRecursion (λ h. h.message.era ≡ 0) past
eras_of_older point points [] later most are = tt
eras_of_older point points (h ∷ past) later most are =
    let less : length past < point = omega (arith, most) in (
      are.0 ∙ upgrade_comes point points (length past) less ∙ none_came points point (length past) later less,
      eras_of_older point points past later (omega (arith, most)) are.1,
    )

eras_of_newer : (point : ℕ) (points : List ℕ) (newer older : Past) → point ≤ length older → AreOfEras (point ∷ points) (newer ++ older)
    → AllByRecursion (λ h. 1 ≤ h.message.era) newer × AreOfEras (point ∷ points) older
eras_of_newer point points [] older most are = (tt, are)
eras_of_newer point points (h ∷ newer) older most are =
    let rest = eras_of_newer point points newer older most are.1 in
    let place : length (newer ++ older) ≡ length newer + length older = length-append newer older in
    let era : h.message.era ≡ suc (era_at points (length (newer ++ older))) =
    are.0 ∙ upgrade_came point points (length (newer ++ older)) (omega (arith, place, most)) in
    ((omega (arith, era), rest.0), rest.1)

pub kept_since_the_first_upgrade : KeptSinceTheFirstUpgrade
kept_since_the_first_upgrade s key era point points newer older is count later =
    let eras = eras_of_newer point points newer older (omega (arith, count)) is.eras in
    kept_are_the_latest_four s key newer older eras.0 (eras_of_older point points older later (omega (arith, count)) eras.1)
