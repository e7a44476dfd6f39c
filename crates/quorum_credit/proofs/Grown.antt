-- What the new instances of workunits do to a world.
use Rattle.std.proofs.Common.{◌≡◌, ℕ, zero, suc, ◌+◌, ◌<◌, Bool, true, false, cond, eqb, List, [], ◌∷◌, ◌++◌, length, Option, Some, None, sym, refl, ap, ◌∙◌, append_assoc, length-append, arith}
use Rattle.std.specs.Prelude.{◌||◌, replicate, option_map, unwrap_or, slice_set}
use Rattle.std.proofs.lemmas.Bool.{le-ltb, eq-eqb, ne_eqb, eqb-true}
use Rattle.std.proofs.lemmas.List.{append-nil}
use Rattle.sched_book.specs.Count.{is_open, need}
use Rattle.sched_book.specs.Places.{nth, unit_at, agreement_of, book_status}
use Rattle.sched_book.specs.Settle.{fresh, grown, with_grown}
use Rattle.sched_book.specs.Delta.{with_instance, edited_one, edited}
use Rattle.sched_book.specs.UnitChanges.{book_after}
use Rattle.sched_book.specs.Sound.{IsSoundUnit, Sound}
use Rattle.sched_book.specs.declared.delta.Edit.{Edit}
use Rattle.sched_book.specs.declared.delta.Edit.TheVariants as edit
use Rattle.sched_book.specs.declared.instance.UnitBook.{UnitBook}
use Rattle.sched_book.specs.declared.world.World.{World}
use Rattle.sched_book.proofs.UnitChanges.{unit_at-edited}
use Rattle.sched_book.proofs.Settling.{nth-map}
use Rattle.quorum_credit.specs.Growing.{fresh_changes, growth_of, growth, all_growth}
use Rattle.quorum_credit.specs.Settled.{new_instances}
use Rattle.quorum_credit.specs.Settling.{TouchJust, grown_among, with_grown_among}
use Rattle.call_working_set.specs.WorkingSets.{AreAbove, AreRising, is_among}
use Rattle.sched_book.proofs.ByPlace.{all_nth, same_by_place, nth-map_places}

-- one more instance after a workunit's own
abbrev pub one_behind : UnitBook → UnitBook
one_behind b = record b { instances = b.instances ++ fresh ∷ [] }

pub put_behind : (unit number : ℕ) (b : UnitBook) → number ≡ length b.instances
    → book_after unit (Some b) (edit.Instance (record { unit = unit; number = number }) fresh ∷ []) ≡ Some (one_behind b)
put_behind unit number b last =
    ap (λ (t : Bool). cond t (Some (with_instance number fresh b)) (Some b)) (eq-eqb unit unit refl)
    ∙ ap (λ (t : Bool). Some (record b { instances = cond t (slice_set b.instances number fresh) (b.instances ++ fresh ∷ []) }))
    (le-ltb number (length b.instances) (omega arith))

-- `many` instances after its own
pub fresh_here : (unit number many : ℕ) (b : UnitBook) → number ≡ length b.instances
    → book_after unit (Some b) (fresh_changes unit number many) ≡ Some (record b { instances = b.instances ++ replicate many fresh })
fresh_here unit number zero b last = ap (λ xs. Some (record b { instances = xs })) (sym (append-nil b.instances))
fresh_here unit number (suc many) b last =
    ap (λ o. book_after unit o (fresh_changes unit (number + 1) many)) (put_behind unit number b last)
    ∙ fresh_here unit (number + 1) many (one_behind b)
    (let long : length (b.instances ++ fresh ∷ []) ≡ length b.instances + 1 = length-append b.instances (fresh ∷ []) in
    omega arith)
    ∙ ap (λ xs. Some (record b { instances = xs })) (append_assoc b.instances (fresh ∷ []) (replicate many fresh))

-- the instances of another workunit leave it as it is
pub fresh_elsewhere : (unit other number many : ℕ) (o : Option UnitBook) → eqb other unit ≡ false
    → book_after unit o (fresh_changes other number many) ≡ o
fresh_elsewhere unit other number zero o apart = refl
fresh_elsewhere unit other number (suc many) o apart =
    ap (λ (t : Bool). book_after unit (cond t (option_map (with_instance number fresh) o) o) (fresh_changes other (number + 1) many)) apart
    ∙ fresh_elsewhere unit other (number + 1) many o apart

-- first these instances, then others
fresh_then : (unit other number many : ℕ) (o : Option UnitBook) (rest : List Edit)
    → book_after unit o (fresh_changes other number many ++ rest)
    ≡ book_after unit (book_after unit o (fresh_changes other number many)) rest
fresh_then unit other number zero o rest = refl
fresh_then unit other number (suc many) o rest =
    fresh_then unit other (number + 1) many
    (cond (eqb other unit) (option_map (with_instance number fresh) o) o) rest

-- a place below all of these is not one of them
pub above_others : (unit n : ℕ) (units : List ℕ) → n ≡ unit → AreAbove n units → is_among units unit ≡ false
above_others unit n [] same above = refl
above_others unit n (other ∷ units) same above =
    let less : n < other = above.0 in
    ap (λ t. t || is_among units unit) (ne_eqb other unit (λ equal. omega arith)) ∙ above_others unit n units same above.1

-- the workunit at a place after what some workunit is to get
module _ (w : World) (unit : ℕ) where
  growth_here : book_after unit (unit_at w unit) (growth w unit) ≡ option_map (grown w.apps) (unit_at w unit)
  growth_here = cases (unit_at w unit)
    where
      open_or_not : (b : UnitBook) (t : Bool)
          → Some (record b { instances = b.instances ++ replicate (cond t (need b.unit b.instances) 0) fresh })
          ≡ Some (cond t (record b { instances = b.instances ++ replicate (need b.unit b.instances) fresh }) b)
      open_or_not b true = refl
      open_or_not b false = ap (λ xs. Some (record b { instances = xs })) (append-nil b.instances)

      cases : (o : Option UnitBook) → book_after unit o (unwrap_or (option_map (growth_of w unit) o) []) ≡ option_map (grown w.apps) o
      cases None = refl
      cases (Some b) =
          fresh_here unit (length b.instances) (new_instances (agreement_of w b) b.unit b.instances) b refl
          ∙ open_or_not b (is_open (book_status w.apps b))

  pub growth_elsewhere : (other : ℕ) (o : Option UnitBook) → eqb other unit ≡ false → book_after unit o (growth w other) ≡ o
  growth_elsewhere other o apart = cases (unit_at w other)
    where
      cases : (q : Option UnitBook) → book_after unit o (unwrap_or (option_map (growth_of w other) q) []) ≡ o
      cases None = refl
      cases (Some b) = fresh_elsewhere unit other (length b.instances) (new_instances (agreement_of w b) b.unit b.instances) o apart

  growth_then : (other : ℕ) (o : Option UnitBook) (rest : List Edit)
      → book_after unit o (growth w other ++ rest) ≡ book_after unit (book_after unit o (growth w other)) rest
  growth_then other o rest = cases (unit_at w other)
    where
      cases : (q : Option UnitBook)
          → book_after unit o (unwrap_or (option_map (growth_of w other) q) [] ++ rest)
          ≡ book_after unit (book_after unit o (unwrap_or (option_map (growth_of w other) q) [])) rest
      cases None = refl
      cases (Some b) = fresh_then unit other (length b.instances) (new_instances (agreement_of w b) b.unit b.instances) o rest

  -- a workunit that is not one of these stays as it is
  pub all_elsewhere : (units : List ℕ) (o : Option UnitBook) → is_among units unit ≡ false → book_after unit o (all_growth w units) ≡ o
  all_elsewhere [] o apart = refl
  all_elsewhere (other ∷ units) o apart =
      growth_then other o (all_growth w units)
      ∙ ap (λ q. book_after unit q (all_growth w units)) (growth_elsewhere other o (first (eqb other unit) _ apart))
      ∙ all_elsewhere units o (later (eqb other unit) _ apart)
    where
      first : (a b : Bool) → (a || b) ≡ false → a ≡ false
      first true b is = is
      first false b is = refl

      later : (a b : Bool) → (a || b) ≡ false → b ≡ false
      later true b is = absurd cc
      later false b is = is

  -- a workunit gets what it needs if it is one of these
  pub all_here : (units : List ℕ) → AreRising units
      → book_after unit (unit_at w unit) (all_growth w units)
      ≡ cond (is_among units unit) (option_map (grown w.apps) (unit_at w unit)) (unit_at w unit)
  all_here [] rising = refl
  all_here (other ∷ units) rising = growth_then other (unit_at w unit) (all_growth w units) ∙ cases (eqb other unit) refl (all_here units rising.1)
    where
      cases : (t : Bool) → eqb other unit ≡ t
          → book_after unit (unit_at w unit) (all_growth w units)
          ≡ cond (is_among units unit) (option_map (grown w.apps) (unit_at w unit)) (unit_at w unit)
          → book_after unit (book_after unit (unit_at w unit) (growth w other)) (all_growth w units)
          ≡ cond (t || is_among units unit) (option_map (grown w.apps) (unit_at w unit)) (unit_at w unit)
      cases true is later =
          let same : other ≡ unit = eqb-true other unit is in
          all_elsewhere units (book_after unit (unit_at w unit) (growth w other)) (above_others unit other units same rising.0)
          ∙ ap (λ n. book_after unit (unit_at w unit) (growth w n)) same
          ∙ growth_here
      cases false is later = ap (λ o. book_after unit o (all_growth w units)) (growth_elsewhere other (unit_at w unit) is) ∙ later

-- only workunits are changed
abbrev ChangesUnits : List Edit → Type 0
ChangesUnits cs = (v : World) → edited v cs ≡ record v { units = (edited v cs).units }

fresh_units : (unit number many : ℕ) (rest : List Edit) → ChangesUnits rest → ChangesUnits (fresh_changes unit number many ++ rest)
fresh_units unit number zero rest behind v = behind v
fresh_units unit number (suc many) rest behind v =
    fresh_units unit (number + 1) many rest behind (edited_one v (edit.Instance (record { unit = unit; number = number }) fresh))

all_units : (w : World) (units : List ℕ) → ChangesUnits (all_growth w units)
all_units w [] v = refl
all_units w (unit ∷ units) v = cases (unit_at w unit) (all_units w units)
  where
    cases : (o : Option UnitBook) → ChangesUnits (all_growth w units)
        → edited v (unwrap_or (option_map (growth_of w unit) o) [] ++ all_growth w units)
        ≡ record v { units = (edited v (unwrap_or (option_map (growth_of w unit) o) [] ++ all_growth w units)).units }
    cases None later = later v
    cases (Some b) later =
        fresh_units unit (length b.instances) (new_instances (agreement_of w b) b.unit b.instances) (all_growth w units) later v

-- the workunit at a place; if it is one of these, with what it needs
grown_at : (units : List ℕ) (w : World) (n : ℕ)
    → nth (with_grown_among units w).units n ≡ cond (is_among units n) (option_map (grown w.apps) (unit_at w n)) (unit_at w n)
grown_at units w n = nth-map_places (grown_among w.apps units) w.units n ∙ cases (is_among units n) (unit_at w n)
  where
    cases : (t : Bool) (o : Option UnitBook) → option_map (λ b. cond t (grown w.apps b) b) o ≡ cond t (option_map (grown w.apps) o) o
    cases true None = refl
    cases true (Some b) = refl
    cases false None = refl
    cases false (Some b) = refl

-- the world after the new instances of these workunits
pub all_grown_among : (w : World) (units : List ℕ) → AreRising units → edited w (all_growth w units) ≡ with_grown_among units w
all_grown_among w units rising =
    all_units w units w
    ∙ ap (λ us. record w { units = us })
    (same_by_place (edited w (all_growth w units)).units (with_grown_among units w).units
    (λ n.
    unit_at-edited w n (all_growth w units) ∙ all_here w n units rising ∙ sym (grown_at units w n)))

-- a workunit that is as it was in a sound world needs nothing
pub grown_sound : (old : World) (unit : ℕ) (b : UnitBook) → Sound old → unit_at old unit ≡ Some b → grown old.apps b ≡ b
grown_sound old unit b sound stands =
    cases (is_open (book_status old.apps b)) refl (all_nth (IsSoundUnit old.hosts old.apps) old.units unit b sound.units stands)
  where
    cases : (t : Bool) → is_open (book_status old.apps b) ≡ t → IsSoundUnit old.hosts old.apps b
        → cond t (record b { instances = b.instances ++ replicate (need b.unit b.instances) fresh }) b ≡ b
    cases false is unit = refl
    cases true is unit =
        ap (λ n. record b { instances = b.instances ++ replicate n fresh }) (unit.satisfied is)
        ∙ ap (λ xs. record b { instances = xs }) (append-nil b.instances)

pub others_need_nothing : (units : List ℕ) (old changed : World) → Sound old → TouchJust units old changed
    → with_grown_among units changed ≡ with_grown changed
others_need_nothing units old changed sound touch =
    ap (λ us. record changed { units = us })
    (same_by_place (with_grown_among units changed).units (with_grown changed).units
    (λ n.
    grown_at units changed n
    ∙ cases n (is_among units n) refl (unit_at changed n) refl
    ∙ sym (nth-map (grown changed.apps) changed.units n)))
  where
    cases : (n : ℕ) (t : Bool) → is_among units n ≡ t → (o : Option UnitBook) → unit_at changed n ≡ o
        → cond t (option_map (grown changed.apps) o) o ≡ option_map (grown changed.apps) o
    cases n true among o stands = refl
    cases n false apart None stands = refl
    cases n false apart (Some b) stands =
        ap Some
        (sym (ap (λ apps. grown apps b) touch.apps
        ∙ grown_sound old n b sound (sym (touch.others n apart) ∙ stands)))
