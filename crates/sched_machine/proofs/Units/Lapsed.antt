-- Jobs that were given to hosts, changed one after another; and lapses keep a world well.
use Rattle.std.proofs.Common.{◌≡◌, inl, true, false, refl, ap, ◌∙◌, ℕ, Bool, cond, List, [], ◌∷◌, Option, Some, None, sym}
use Rattle.std.proofs.lemmas.Bool.{and_parts}
use Rattle.std.proofs.lemmas.List.Elements.{All-head, All-tail, All-weaker}
use Rattle.std.specs.Prelude.{◌&&◌, is_some, is_none, option_and_then, slice_get, ◌==◌, All, fold, option_map, unwrap_or}
use Rattle.sched_book.specs.Count.{is_held}
use Rattle.sched_book.specs.Lost.{with_lapse}
use Rattle.sched_book.specs.Places.{is_overdue, overdue, instance_at, is_owned_by, places_where, is_same, passes, host_of}
use Rattle.sched_book.specs.Reports.{with_changed}
use Rattle.sched_book.specs.Sound.{IsWell}
use Rattle.sched_book.specs.declared.instance.Instance.{Instance}
use Rattle.sched_book.specs.declared.instance.Lapse.{Lapse}
use Rattle.sched_book.specs.declared.instance.Lapse.TheVariants.{Late}
use Rattle.sched_book.specs.declared.instance.Owner.{Owner}
use Rattle.sched_book.specs.declared.instance.Place.{Place}
use Rattle.sched_book.specs.declared.instance.UnitBook.{UnitBook}
use Rattle.sched_book.specs.declared.world.World.{World}
use Rattle.sched_book.proofs.PlacesWhere.{each_passes}
use Rattle.sched_book.proofs.Recording.{instance_at-with_changed, passes-is}
use Rattle.sched_machine.specs.Laws.{LapsesKeepWell}
use Rattle.sched_machine.proofs.OptionParts.{any_by, mapped_by}
use Rattle.sched_machine.proofs.Units.Well.{Keeps, changed_well}

-- the instance at a place was given to a host
abbrev pub IsGiven : World → Place → Type 0
IsGiven w p = (x : Instance) → instance_at w p ≡ Some x → is_some x.owner ≡ true

-- an instance that a host owns was given to it
pub owned_given : (host : ℕ) (x : Instance) → is_owned_by host x ≡ true → is_some x.owner ≡ true
owned_given host x owned =
    let n = any_by (λ n. n == host) (host_of x) owned in ap is_some (mapped_by (λ (o : Owner). o.host) x.owner n.0 n.1).1

-- a change that removes no owner
pub given_after : (f : Instance → Instance) (w : World) (p q : Place) → ((x : Instance) → is_some (f x).owner ≡ is_some x.owner)
    → IsGiven w q → IsGiven (with_changed f w p) q
given_after f w p q keeps given y stands = cases (is_same p q) (instance_at w q) refl (sym (instance_at-with_changed f w p q) ∙ stands)
  where
    cases : (b : Bool) (o : Option Instance) → instance_at w q ≡ o → cond b (option_map f o) o ≡ Some y → is_some y.owner ≡ true
    cases true None is put = absurd cc
    cases true (Some x) is put =
        let value : f x ≡ y = cc in
        ap (λ z. is_some z.owner) (sym value) ∙ keeps x ∙ given x is
    cases false o is put = given y (is ∙ put)

-- one change after another keeps the world well, if each does so at a job that was given
pub fold_well : (step : World → Place → World) → ((w : World) (p : Place) → IsWell w → IsGiven w p → IsWell (step w p))
    → ((w : World) (p q : Place) → IsGiven w q → IsGiven (step w p) q)
    → (places : List Place) (w : World) → IsWell w → All (IsGiven w) places → IsWell (fold step w places)
fold_well step good keeps [] w well given = well
fold_well step good keeps (p ∷ places) w well given =
    fold_well step good keeps places (step w p)
    (good w p well (All-head (IsGiven w) p places given))
    (λ k d within. keeps w p _ (All-tail (IsGiven w) p places given k d within))

-- the places of a test that only instances with an owner pass
pub places_given : (w : World) (test : Instance → Bool) → ((x : Instance) → test x ≡ true → is_some x.owner ≡ true)
    → All (IsGiven w) (places_where w (λ b x. test x))
places_given w test owned =
    All-weaker (λ p. passes w (λ b x. test x) p ≡ true) (IsGiven w)
    (λ p pass x stands. owned x (sym (passes-is w test p ∙ ap (λ o. unwrap_or (option_map test o) false) stands) ∙ pass))
    (places_where w (λ b x. test x)) (each_passes w (λ b x. test x))

-- a lapse of an instance with an owner keeps its host, and keeps it bare and within limits
pub lapse_keeps : (lapse : Lapse) (x : Instance) → is_some x.owner ≡ true → Keeps x (with_lapse lapse x)
lapse_keeps lapse x given = record {
  host = refl;
  bare = λ bare none. (let never : is_some x.owner ≡ false = ap is_some none in absurd cc);
  limits = λ limits. record {
    sent = limits.sent;
    deadline = limits.deadline;
    output = limits.output;
    place = limits.place;
  };
}

-- an instance that is held was given to a host
pub held_given : (x : Instance) → is_held x ≡ true → is_some x.owner ≡ true
held_given x held =
    (and_parts (is_some x.owner) (is_none x.report) (and_parts (is_some x.owner && is_none x.report) (is_none x.lapse) held).0).0

-- one lapse, and all
pub lapse_well : (lapse : Lapse) (w : World) (p : Place) → IsWell w → IsGiven w p → IsWell (with_changed (with_lapse lapse) w p)
lapse_well lapse w p well given =
    changed_well (with_lapse lapse) w p well
    (λ b x unit stands is.
    (lapse_keeps lapse x (given x (ap (option_and_then (λ (u : UnitBook). slice_get u.instances p.number)) stands ∙ is)), inl refl))

pub lapses_keep_well : LapsesKeepWell
lapses_keep_well w now well =
    fold_well (with_changed (with_lapse Late)) (lapse_well Late) (λ v p q. given_after (with_lapse Late) v p q (λ x. refl)) (overdue w now) w well
    (places_given w (is_overdue now)
    (λ x late. held_given x (and_parts (is_held x) _ late).0))
