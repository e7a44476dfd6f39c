-- The moments of a statement's lines are those of instances, which are in their ranges.
use Rattle.std.proofs.Common.{◌≡◌, ℕ, zero, suc, ◌≤◌, List, [], ◌∷◌, Option, None, Some, sym, refl, ◌∙◌, subst, arith}
use Rattle.std.specs.Prelude.{All, IfSome, option_map, option_and_then, slice_get}
use Rattle.std.specs.List.{cons_option, filter_map}
use Rattle.std.proofs.lemmas.List.Elements.{All-nil, All-cons}
use Rattle.std.proofs.lemmas.Option.{same_Some}
use Rattle.sched_book.specs.Count.{verdict}
use Rattle.sched_book.specs.Limits.{IsInstanceInLimits, last_moment, last_deadline}
use Rattle.sched_book.specs.Places.{unit_at, agreement_of, deadline_of, owned_by}
use Rattle.sched_book.specs.Sound.{Sound, IsSoundUnit}
use Rattle.sched_book.specs.declared.instance.Instance.{Instance}
use Rattle.sched_book.specs.declared.instance.Owner.{Owner}
use Rattle.sched_book.specs.declared.instance.UnitBook.{UnitBook}
use Rattle.sched_book.specs.declared.world.World.{World}
use Rattle.sched_book.proofs.PlacesOf.{nth-suc}
use Rattle.sched_book.proofs.ByPlace.{all_get}
use Rattle.office_files.specs.Civil.{last_civil}
use Rattle.office_files.specs.Statements.{line_at, line_by, line_in, sent_of}
use Rattle.office_files.specs.StatementLaws.{HaveTexts, MomentsHaveTexts}
use Rattle.office_files.specs.declared.statement.line.StatementLine.{StatementLine}

each_kept : {X Y : Type 0} (P : Y → Type 0) (h : X → Option Y) → ((x : X) (y : Y) → h x ≡ Some y → P y) → (xs : List X) → All P (filter_map h xs)
each_kept P h each [] = All-nil P
each_kept P h each (x ∷ xs) = cases (h x) refl (each_kept P h each xs)
  where
    cases : (o : Option _) → h x ≡ o → All P (filter_map h xs) → All P (cons_option o (filter_map h xs))
    cases None is later = later
    cases (Some y) is later = All-cons P y (filter_map h xs) (each x y is) later

sent_early : (o : Option Owner) → IfSome o (λ (owner : Owner). owner.sent ≤ last_moment) → sent_of o ≤ last_civil
sent_early None h = omega arith
sent_early (Some owner) h = omega (arith, h)

due_early : (o : Option Owner) → IfSome o (λ (owner : Owner). owner.deadline ≤ last_deadline) → deadline_of o ≤ last_civil
due_early None h = omega arith
due_early (Some owner) h = omega (arith, h)

in_book : (w : World) (b : UnitBook) (number : ℕ) (line : StatementLine) (o : Option Instance) → All IsInstanceInLimits b.instances → slice_get b.instances number ≡ o
    → option_map (λ x. line_by (verdict (agreement_of w b) b.unit b.instances x) b.unit number x) o ≡ Some line → HaveTexts line
in_book w b number line None all stands is = absurd (let never : None ≡ Some line = is in cc)
in_book w b number line (Some x) all stands is =
    let limits = all_get IsInstanceInLimits b.instances number x all stands in
    subst HaveTexts (same_Some (line_by (verdict (agreement_of w b) b.unit b.instances x) b.unit number x) line is)
    (sent_early x.owner limits.sent, due_early x.owner limits.deadline)

in_world : (w : World) (unit number : ℕ) (line : StatementLine) (o : Option UnitBook) → Sound w → unit_at w unit ≡ o
    → option_and_then (λ (b : UnitBook). line_in (agreement_of w b) b.unit b.instances number) o ≡ Some line → HaveTexts line
in_world w unit number line None sound stands is = absurd (let never : None ≡ Some line = is in cc)
in_world w zero number line (Some b) sound stands is = absurd (let never : None ≡ Some b = stands in cc)
in_world w (suc i) number line (Some b) sound stands is =
    let unit = all_get (IsSoundUnit w.hosts w.apps) w.units i b sound.units (sym (nth-suc w.units i) ∙ stands) in
    in_book w b number line (slice_get b.instances number) unit.well.instances refl is

pub moments_have_texts : MomentsHaveTexts
moments_have_texts w host sound =
    each_kept HaveTexts (line_at w) (λ p line is. in_world w p.unit p.number line (unit_at w p.unit) sound refl is) (owned_by w host)
