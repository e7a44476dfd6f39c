-- A window of what waits: what it says of the candidates, that it is one as it was read, and that it follows each instance that comes to
-- wait or is given out.
use Rattle.std.proofs.Common.{◌≡◌, ℕ, Bool, true, false, true≢false, ◌&&◌, ◌||◌, cond, eqb, not, List, [], ◌∷◌, ◌++◌, filter, length, take, slice_get, Option, Some, None, option_map, refl, sym, ap, ap₂, subst, ◌∙◌, arith, is_none}
use Rattle.std.specs.Prelude.{option_and_then, unwrap_or, IfSome}
use Rattle.std.proofs.lemmas.Bool.{and_left, and_parts, not-true, or_left}
use Rattle.std.proofs.lemmas.Bool.Decides.{nat_tests}
use Rattle.std.proofs.lemmas.List.{append-nil}
use Rattle.std.proofs.lemmas.List.Folds.{list_any-append}
use Rattle.std.proofs.lemmas.List.Kept.{AllPairs-filter}
use Rattle.std.proofs.lemmas.Option.{get_or_from_slice_get, slice_get_within}
use Rattle.sched_book.specs.Count.{is_open}
use Rattle.sched_book.specs.Offers.{unsent}
use Rattle.sched_book.specs.Places.{is_before, is_same, passes, places, status_of, unit_at}
use Rattle.sched_book.specs.declared.instance.Instance.{Instance as Job}
use Rattle.sched_book.specs.declared.instance.Place.{Place}
use Rattle.sched_book.specs.declared.instance.UnitBook.{UnitBook}
use Rattle.sched_book.specs.declared.world.World.{World}
use Rattle.sched_book.proofs.PlacesWhere.{they_rise}
use Rattle.table_meaning.specs.Worlds.{is_queued}
use Rattle.table_desk.specs.Pages.{candidates_at, behind, unsent_on}
use Rattle.table_desk.specs.Sorted.{has, rest_from, AreSorted}
use Rattle.table_desk.specs.WaitingWindow.{is_before_end, is_within, waiting_of, waits_at, with_wait_at, AreWaiting}
use Rattle.sched_book.proofs.Recording.{is_same-true}
use Rattle.table_desk.proofs.PlaceOrder.{not_before, not_both}
use Rattle.table_desk.proofs.SortedPlaces.{all_before, has_contained, joined_sorted, rest_has, rest_sorted, same_sorted, taken_length, taken_sorted, where_has}
use Rattle.table_desk.proofs.Waiting.{open_code, parted, unsent_parted, waiting, waiting_on, waits}

-- ---- what the list of what waits has

has_kept : (keep : Place → Bool) (ps : List Place) (p : Place) → has (filter keep ps) p ≡ (keep p && has ps p)
has_kept keep [] p = none (keep p)
  where
    none : (k : Bool) → false ≡ (k && false)
    none true = refl
    none false = refl
has_kept keep (q ∷ qs) p = parts (keep q) ∙ one (keep q) refl (is_same p q) refl (has_kept keep qs p)
  where
    rest : List Place
    rest = filter keep qs

    parts : (b : Bool) → has (cond b (q ∷ rest) rest) p ≡ cond b (is_same p q || has rest p) (has rest p)
    parts true = refl
    parts false = refl

    one : (b : Bool) → keep q ≡ b → (s : Bool) → is_same p q ≡ s → has rest p ≡ (keep p && has qs p) → cond b (s || has rest p) (has rest p) ≡ (keep p && (s || has qs p))
    one true kept true is later = sym (ap (λ t. t && true) (ap keep (is_same-true p q is) ∙ kept))
    one true kept false other later = later
    one false drops true is later =
        let no = ap keep (is_same-true p q is) ∙ drops in
        later ∙ and_left (keep p) (has qs p) no ∙ sym (and_left (keep p) true no)
    one false drops false other later = later

and_swap : (a b : Bool) → (a && b) ≡ (b && a)
and_swap true true = refl
and_swap true false = refl
and_swap false true = refl
and_swap false false = refl

module _ (w : World) where
  -- an instance that passes a test exists
  has_instance : (test : UnitBook → Job → Bool) (p : Place) → passes w test p ≡ true → passes w (λ b x. true) p ≡ true
  has_instance test p = unit (unit_at w p.unit)
    where
      job : (b : UnitBook) (o : Option Job) → unwrap_or (option_map (test b) o) false ≡ true → unwrap_or (option_map (λ (x : Job). true) o) false ≡ true
      job b None pass = pass
      job b (Some x) pass = refl

      unit : (o : Option UnitBook) → unwrap_or (option_and_then (λ (b : UnitBook). option_map (test b) (slice_get b.instances p.number)) o) false ≡ true
          → unwrap_or (option_and_then (λ (b : UnitBook). option_map (λ (x : Job). true) (slice_get b.instances p.number)) o) false ≡ true
      unit None pass = pass
      unit (Some b) pass = job b (slice_get b.instances p.number) pass

  queued_is : (b : UnitBook) (x : Job) → is_queued w b x ≡ (is_open (status_of w b) && is_none x.owner)
  queued_is b x = ap (λ c. is_none x.owner && c) (open_code (status_of w b)) ∙ and_swap (is_none x.owner) (is_open (status_of w b))

  waits_is : (p : Place) → passes w (is_queued w) p ≡ waits_at (waiting_of w) p
  waits_is p = λ i. unwrap_or (option_and_then (λ (b : UnitBook). option_map (λ (x : Job). queued_is b x i) (slice_get b.instances p.number)) (unit_at w p.unit)) false

  has_waiting : (from p : Place) → has (waiting w from) p ≡ (waits_at (waiting_of w) p && not (is_before p from))
  has_waiting from p =
      has_kept (waits w from) (places w) p
      ∙ ap (λ t. waits w from p && t) (where_has w (λ b x. true) p)
      ∙ stays (passes w (is_queued w) p) refl (not (is_before p from))
      ∙ ap (λ t. t && not (is_before p from)) (waits_is p)
    where
      and_true : (n : Bool) → (n && true) ≡ n
      and_true true = refl
      and_true false = refl

      stays : (q : Bool) → passes w (is_queued w) p ≡ q → (n : Bool) → ((q && n) && passes w (λ b x. true) p) ≡ (q && n)
      stays true pass n = ap (λ t. n && t) (has_instance (is_queued w) p pass) ∙ and_true n
      stays false fails n = refl

  has_waiting_on : (end : Option Place) (p : Place) → has (waiting_on w end) p ≡ (waits_at (waiting_of w) p && not (is_before_end end p))
  has_waiting_on None p = none (waits_at (waiting_of w) p)
    where
      none : (v : Bool) → false ≡ (v && false)
      none true = refl
      none false = refl
  has_waiting_on (Some end) p = has_waiting end p

  waiting_sorted : (from : Place) → AreSorted (waiting w from)
  waiting_sorted from = AllPairs-filter (λ p q. is_before p q ≡ true) (waits w from) (places w) (they_rise w (λ b x. true))

-- ---- what a window says of the candidates

module _ (w : World) (from : Place) (end : Option Place) (window : List Place) (are : AreWaiting (waiting_of w) from end window) where
  both_sorted : AreSorted (window ++ waiting_on w end)
  both_sorted = at end are.each
    where
      at : (e : Option Place) → ((p : Place) → has window p ≡ (is_within from e p && waits_at (waiting_of w) p)) → AreSorted (window ++ waiting_on w e)
      at None each = subst AreSorted (sym (append-nil window)) are.sorted
      at (Some e) each =
          joined_sorted e window (waiting w e) are.sorted
          (λ p there. (and_parts (not (is_before p from)) (is_before p e) (and_parts (is_within from (Some e) p) (waits_at (waiting_of w) p) (sym (each p) ∙ there)).0).1)
          (waiting_sorted w e)
          (λ p there. not-true (is_before p e) (and_parts (waits_at (waiting_of w) p) (not (is_before p e)) (sym (has_waiting w e p) ∙ there)).1)

  -- a place that is not before the end is not before the first place
  late : (p : Place) → is_before_end end p ≡ false → is_before p from ≡ false
  late p = at end are.ends
    where
      at : (e : Option Place) → IfSome e (λ e. is_before e from ≡ false) → is_before_end e p ≡ false → is_before p from ≡ false
      at None after past = absurd (true≢false past)
      at (Some e) after past = not_before p e from past after

  turn : (v b e : Bool) → (e ≡ false → b ≡ false) → (v && not b) ≡ (((not b && e) && v) || (v && not e))
  turn true true true later = refl
  turn true true false later = absurd (true≢false (later refl))
  turn true false true later = refl
  turn true false false later = refl
  turn false true true later = refl
  turn false true false later = refl
  turn false false true later = refl
  turn false false false later = refl

  pub window_unsent : unsent w from ≡ candidates_at w window ++ unsent_on w end
  window_unsent = unsent_parted w from window end (same_sorted (waiting w from) (window ++ waiting_on w end) (waiting_sorted w from) both_sorted (λ p.
      has_waiting w from p
      ∙ turn (waits_at (waiting_of w) p) (is_before p from) (is_before_end end p) (late p)
      ∙ sym (ap₂ (λ a b. a || b) (are.each p) (has_waiting_on w end p))
      ∙ sym (list_any-append (is_same p) window (waiting_on w end))))

pub all_unsent : (w : World) (from : Place) (end : Option Place) (window : List Place) → AreWaiting (waiting_of w) from end window → (first : Place) → from ≡ first
    → (all : List Place) → all ≡ window → unsent w first ≡ candidates_at w all ++ unsent_on w end
all_unsent w from end window are first same all is =
    ap (unsent w) (sym same) ∙ window_unsent w from end window are ∙ ap (λ (ps : List Place). candidates_at w ps ++ unsent_on w end) (sym is)

-- the rest of a window from a place within it on
module _ (waiting : ℕ → ℕ → Option Bool) (from : Place) (end : Option Place) (window : List Place) (are : AreWaiting waiting from end window) (place : Place)
    (within : is_within from end place ≡ true) where
  after_from : is_before place from ≡ false
  after_from = not-true (is_before place from) (and_parts (not (is_before place from)) (is_before_end end place) within).0

  pub rest_waits : AreWaiting waiting place end (rest_from place window)
  rest_waits = record {
    sorted = rest_sorted place window are.sorted;
    each = λ p. rest_has place window are.sorted p ∙ ap (λ t. not (is_before p place) && t) (are.each p) ∙ turn (is_before p place) (is_before p from) (is_before_end end p) (waits_at waiting p) (λ later. not_before p place from later after_from);
    ends = not_sooner end (and_parts (not (is_before place from)) (is_before_end end place) within).1;
  }
    where
      turn : (a b e v : Bool) → (a ≡ false → b ≡ false) → (not a && ((not b && e) && v)) ≡ ((not a && e) && v)
      turn true b e v later = refl
      turn false true e v later = absurd (true≢false (later refl))
      turn false false e v later = refl

      not_sooner : (e : Option Place) → is_before_end e place ≡ true → IfSome e (λ e. is_before e place ≡ false)
      not_sooner None before = tt
      not_sooner (Some e) before = not_both place e before

pub rest_unsent : (w : World) (from : Place) (end : Option Place) (window : List Place) → AreWaiting (waiting_of w) from end window → (place : Place) → is_within from end place ≡ true
    → (rest : List Place) → rest ≡ rest_from place window → unsent w place ≡ candidates_at w rest ++ unsent_on w end
rest_unsent w from end window are place within rest is =
    window_unsent w place end (rest_from place window) (rest_waits (waiting_of w) from end window are place within) ∙ ap (λ (ps : List Place). candidates_at w ps ++ unsent_on w end) (sym is)

-- ---- a window as it was read

before_behind : (p : Place) → is_before p (behind p) ≡ true
before_behind p = grind (arith, nat_tests)

behind_later : (p from : Place) → is_before p from ≡ false → is_before (behind p) from ≡ false
behind_later p from later = grind (arith, nat_tests)

module _ (w : World) (from : Place) (window : List Place) (is : window ≡ take 8 (waiting w from)) where
  window_sorted : AreSorted window
  window_sorted = subst AreSorted (sym is) (taken_sorted 8 (waiting w from) (waiting_sorted w from))

  module _ (o : Option Place) (at : slice_get window 7 ≡ o) where
    has_parts : (p : Place) → (waits_at (waiting_of w) p && not (is_before p from)) ≡ (has window p || (waits_at (waiting_of w) p && not (is_before_end (option_map behind o) p)))
    has_parts p =
        sym (has_waiting w from p)
        ∙ ap (λ (ps : List Place). has ps p) (parted w 7 from window is o at)
        ∙ list_any-append (is_same p) window (waiting_on w (option_map behind o))
        ∙ ap (λ t. has window p || t) (has_waiting_on w (option_map behind o) p)

  ahead : (o : Option Place) → slice_get window 7 ≡ o → (p : Place) → has window p ≡ true → is_before_end (option_map behind o) p ≡ true
  ahead None at p there = refl
  ahead (Some last) at p there = all_before 7 window last (behind last) window_sorted at (let few = taken_length 8 (waiting w from) in omega (arith, few, ap length is)) (before_behind last) p there

  end_later : (o : Option Place) → slice_get window 7 ≡ o → IfSome (option_map behind o) (λ end. is_before end from ≡ false)
  end_later None at = tt
  end_later (Some last) at =
      let there : has window last ≡ true = has_contained window last (7, slice_get_within window 7 last at, get_or_from_slice_get window 7 last last at) in
      let waits = has_parts (Some last) at last ∙ or_left (has window last) (waits_at (waiting_of w) last && not (is_before_end (option_map behind (Some last)) last)) there in
      behind_later last from (not-true (is_before last from) (and_parts (waits_at (waiting_of w) last) (not (is_before last from)) waits).1)

  turned : (h v b e : Bool) → (v && not b) ≡ (h || (v && not e)) → (h ≡ true → e ≡ true) → h ≡ ((not b && e) && v)
  turned true v b false same early = absurd (true≢false (sym (early refl)))
  turned true true true true same early = sym same
  turned true true false true same early = refl
  turned true false true true same early = sym same
  turned true false false true same early = sym same
  turned false true true true same early = refl
  turned false true true false same early = refl
  turned false true false true same early = sym same
  turned false true false false same early = refl
  turned false false true true same early = refl
  turned false false true false same early = refl
  turned false false false true same early = refl
  turned false false false false same early = refl

  window_waits : (o : Option Place) → slice_get window 7 ≡ o → AreWaiting (waiting_of w) from (option_map behind o) window
  window_waits o at = record {
    sorted = window_sorted;
    each = λ p. turned (has window p) (waits_at (waiting_of w) p) (is_before p from) (is_before_end (option_map behind o) p) (has_parts o at p) (ahead o at p);
    ends = end_later o at;
  }

pub window_read : (w : World) (from : Place) (window : List Place) → window ≡ take 8 (waiting w from) → (end : Option Place) → end ≡ option_map behind (slice_get window 7) → AreWaiting (waiting_of w) from end window
window_read w from window is end same = subst (λ (e : Option Place). AreWaiting (waiting_of w) from e window) (sym same) (window_waits w from window is (slice_get window 7) refl)

-- ---- a window that follows an instance

module _ (waiting : ℕ → ℕ → Option Bool) (from : Place) (end : Option Place) (window : List Place) (are : AreWaiting waiting from end window) (place : Place) (b : Bool) where
  abbrev then : ℕ → ℕ → Option Bool
  then = with_wait_at waiting place.unit place.number b

  then_at : (p : Place) → waits_at then p ≡ cond (is_same place p) b (waits_at waiting p)
  then_at p = go (eqb place.unit p.unit) (eqb place.number p.number)
    where
      go : (c d : Bool) → unwrap_or (cond c (cond d (Some b) (waiting p.unit p.number)) (waiting p.unit p.number)) false ≡ cond (c && d) b (unwrap_or (waiting p.unit p.number) false)
      go true true = refl
      go true false = refl
      go false d = refl

  -- within the window
  pub window_moved : is_within from end place ≡ true → (new : List Place) → AreSorted new → ((p : Place) → has new p ≡ cond (is_same place p) b (has window p)) → AreWaiting then from end new
  window_moved within new sorted members = record {
    sorted = sorted;
    each = λ p. members p ∙ turn p (is_same place p) refl ∙ ap (λ t. is_within from end p && t) (sym (then_at p));
    ends = are.ends;
  }
    where
      turn : (p : Place) (s : Bool) → is_same place p ≡ s → cond s b (has window p) ≡ (is_within from end p && cond s b (waits_at waiting p))
      turn p true is = sym (ap (λ t. t && b) (ap (is_within from end) (sym (is_same-true place p is)) ∙ within))
      turn p false other = are.each p

  -- elsewhere
  pub window_stays : is_within from end place ≡ false → AreWaiting then from end window
  window_stays outside = record {
    sorted = are.sorted;
    each = λ p. are.each p ∙ turn p (is_same place p) refl ∙ ap (λ t. is_within from end p && t) (sym (then_at p));
    ends = are.ends;
  }
    where
      turn : (p : Place) (s : Bool) → is_same place p ≡ s → (is_within from end p && waits_at waiting p) ≡ (is_within from end p && cond s b (waits_at waiting p))
      turn p true is =
          let no = ap (is_within from end) (sym (is_same-true place p is)) ∙ outside in
          and_left (is_within from end p) (waits_at waiting p) no ∙ sym (and_left (is_within from end p) b no)
      turn p false other = refl
