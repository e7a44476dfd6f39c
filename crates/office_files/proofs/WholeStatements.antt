-- There are as many lines as places of a host, and they have its credit.
use Rattle.std.proofs.Common.{◌≡◌, ℕ, suc, ◌+◌, ◌*◌, Bool, true, false, cond, List, [], ◌∷◌, ◌++◌, length, Option, Some, sym, refl, ap, ◌∙◌, arith}
use Rattle.std.specs.Prelude.{◌&&◌, sum_by, count_by, option_map, option_and_then, slice_get}
use Rattle.std.specs.List.{cons_option}
use Rattle.std.proofs.lemmas.List.{length-append}
use Rattle.std.proofs.lemmas.List.Elements.{filter_map-append}
use Rattle.std.proofs.lemmas.List.Sums.{sum_by-cons, sum_by-append}
use Rattle.sched_book.specs.Count.{is_valid, verdict}
use Rattle.sched_book.specs.Places.{nth, unit_at, agreement_of, is_owned_by, places_in, places_among, credit_in}
use Rattle.sched_book.specs.declared.instance.Instance.{Instance}
use Rattle.sched_book.specs.declared.instance.Place.{Place}
use Rattle.sched_book.specs.declared.instance.UnitBook.{UnitBook}
use Rattle.sched_book.specs.declared.rows.Agreement.{Agreement}
use Rattle.sched_book.specs.declared.rows.Workunit.{Workunit}
use Rattle.sched_book.specs.declared.world.World.{World}
use Rattle.sched_book.proofs.PlacesOf.{nth-suc}
use Rattle.office_files.specs.Statements.{line_at, line_by, line_in, lines_at, total_credit}
use Rattle.office_files.specs.StatementLaws.{StatementsAreWhole}
use Rattle.office_files.specs.declared.statement.line.StatementLine.{StatementLine}

share : (b : Bool) (c k : ℕ) → cond b c 0 + c * k ≡ c * (cond {A = ℕ} b 1 0 + k)
share true c k = grind arith
share false c k = grind arith

module _ (w : World) (host : ℕ) where
  -- each of these places has a line, and all lines together have this credit
  abbrev Tell : List Place → ℕ → Type 0
  Tell places credit = (length (lines_at w places) ≡ length places) × (total_credit (lines_at w places) ≡ credit)

  one_more : (p : Place) (line : StatementLine) (places : List Place) (credit : ℕ) → line_at w p ≡ Some line → Tell places credit → Tell (p ∷ places) (line.credit + credit)
  one_more p line places credit is tell =
      let lines : lines_at w (p ∷ places) ≡ line ∷ lines_at w places = ap (λ o. cons_option o (lines_at w places)) is in (
        ap length lines ∙ ap suc tell.0,
        ap total_credit lines ∙ sum_by-cons (λ (l : StatementLine). l.credit) line (lines_at w places) ∙ ap (λ n. line.credit + n) tell.1,
      )

  together : (ps qs : List Place) (c d : ℕ) → Tell ps c → Tell qs d → Tell (ps ++ qs) (c + d)
  together ps qs c d tell tell_too =
      let lines = filter_map-append (line_at w) ps qs in
      let long = length-append (lines_at w ps) (lines_at w qs) in
      let long_places = length-append ps qs in (
        ap length lines ∙ omega (arith, long, long_places, tell.0, tell_too.0),
        ap total_credit lines ∙ sum_by-append (λ (l : StatementLine). l.credit) (lines_at w ps) (lines_at w qs) ∙ omega (arith, tell.1, tell_too.1),
      )

  module _ (a : Agreement) (unit : Workunit) (all : List Instance) (u : ℕ) where
    abbrev good : Instance → Bool
    good x = is_owned_by host x && is_valid (verdict a unit all x)

    in_unit : (from : ℕ) (xs : List Instance)
        → ((n number : ℕ) (x : Instance) → slice_get xs n ≡ Some x → number ≡ from + n
        → line_at w (record { unit = u; number = number }) ≡ Some (line_by (verdict a unit all x) unit number x))
        → Tell (places_in u from (λ x. is_owned_by host x) xs) (unit.credit * count_by good xs)
    in_unit from [] each = (refl, omega arith)
    in_unit from (x ∷ xs) each =
        cases (is_owned_by host x) (is_valid (verdict a unit all x)) refl refl
        (in_unit (from + 1) xs (λ n number y is at. each (suc n) number y is (omega arith)))
      where
        rest : List Place
        rest = places_in u (from + 1) (λ y. is_owned_by host y) xs

        counted : count_by good (x ∷ xs) ≡ cond {A = ℕ} (is_owned_by host x && is_valid (verdict a unit all x)) 1 0 + count_by good xs
        counted = sum_by-cons (λ y. cond {A = ℕ} (good y) 1 0) x xs

        here : line_at w (record { unit = u; number = from }) ≡ Some (line_by (verdict a unit all x) unit from x)
        here = each 0 from x refl (omega arith)

        cases : (t b : Bool) → is_owned_by host x ≡ t → is_valid (verdict a unit all x) ≡ b → Tell rest (unit.credit * count_by good xs)
            → Tell (cond t (record { unit = u; number = from } ∷ rest) rest) (unit.credit * count_by good (x ∷ xs))
        cases false b owned valid tell =
            let step : count_by good (x ∷ xs) ≡ 0 + count_by good xs = counted ∙ ap (λ t. cond {A = ℕ} (t && is_valid (verdict a unit all x)) 1 0 + count_by good xs) owned in
            let count : count_by good (x ∷ xs) ≡ count_by good xs = omega (arith, step) in
            (tell.0, tell.1 ∙ ap (λ n. unit.credit * n) (sym count))
        cases true b owned valid tell =
            let step : count_by good (x ∷ xs) ≡ cond {A = ℕ} b 1 0 + count_by good xs =
            counted
            ∙ ap (λ t. cond {A = ℕ} (t && is_valid (verdict a unit all x)) 1 0 + count_by good xs) owned
            ∙ ap (λ v. cond {A = ℕ} v 1 0 + count_by good xs) valid in
            let more = one_more (record { unit = u; number = from }) (line_by (verdict a unit all x) unit from x) rest (unit.credit * count_by good xs) here tell in (
              more.0,
              more.1
                  ∙ ap (λ v. cond v unit.credit 0 + unit.credit * count_by good xs) valid
                  ∙ share b unit.credit (count_by good xs)
                  ∙ ap (λ n. unit.credit * n) (sym step),
            )

  among : (from : ℕ) (bs : List UnitBook) → ((i place : ℕ) (b : UnitBook) → slice_get bs i ≡ Some b → place ≡ from + i → unit_at w place ≡ Some b)
      → Tell (places_among from (λ b x. is_owned_by host x) bs) (sum_by (credit_in w.apps host) bs)
  among from [] each = (refl, refl)
  among from (b ∷ bs) each =
      let stands : unit_at w from ≡ Some b = each 0 from b refl (omega arith) in
      let first =
      in_unit (agreement_of w b) b.unit b.instances from 0 b.instances
      (λ n number x is at.
      let same : number ≡ n = omega (arith, at) in
      ap (λ (o : Option UnitBook). option_and_then (λ (c : UnitBook). line_in (agreement_of w c) c.unit c.instances number) o) stands
      ∙ ap (option_map (λ y. line_by (verdict (agreement_of w b) b.unit b.instances y) b.unit number y)) (ap (slice_get b.instances) same ∙ is)) in
      let later = among (from + 1) bs (λ i place c is at. each (suc i) place c is (omega arith)) in
      let both =
      together (places_in from 0 (λ x. is_owned_by host x) b.instances) (places_among (from + 1) (λ c x. is_owned_by host x) bs)
      (credit_in w.apps host b) (sum_by (credit_in w.apps host) bs) first later in
      (both.0, both.1 ∙ sym (sum_by-cons (credit_in w.apps host) b bs))

pub statements_are_whole : StatementsAreWhole
statements_are_whole w host =
    let tell = among w host 1 w.units (λ i place b is at. let same : place ≡ suc i = omega (arith, at) in ap (nth w.units) same ∙ nth-suc w.units i ∙ is) in
    record { each = tell.0; credit = tell.1 }
