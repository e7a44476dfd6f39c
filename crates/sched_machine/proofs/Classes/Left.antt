-- What is left after the workunits of a grant take their classes: everything except the rules of these workunits.
use Rattle.std.proofs.Common.{◌≡◌, ℕ, ◌+◌, Bool, false, cond, List, [], ◌∷◌, Option, Some, None, sym, refl, ap, ap₂, ◌∙◌}
use Rattle.std.specs.Prelude.{◌==◌, map, sum_by, option_map, option_and_then, unwrap_or, slice_get, IfSome}
use Rattle.std.specs.List.{enumerate_from}
use Rattle.std.proofs.lemmas.List.Sums.{sum_by-cons}
use Rattle.rpc_records.specs.declared.reply.Job.{Job}
use Rattle.sched_book.specs.Classes.{class_of, rule_after, with_class}
use Rattle.sched_book.specs.Fits.{version_for, version_at_unit}
use Rattle.sched_book.specs.Names.{instance_name}
use Rattle.sched_book.specs.Places.{nth, unit_at, instance_at, deadline_of, name_at, credit_in, host_credit, user_credit, is_held_by}
use Rattle.sched_book.specs.Sound.{IsSettledUnit, IsSettled, Sound}
use Rattle.sched_book.specs.Step.{class_granted, class_one, classed, deadline_at, job_of, job_at}
use Rattle.sched_book.specs.declared.instance.Instance.{Instance}
use Rattle.sched_book.specs.declared.instance.Place.{Place}
use Rattle.sched_book.specs.declared.instance.UnitBook.{UnitBook}
use Rattle.sched_book.specs.declared.rows.App.{App}
use Rattle.sched_book.specs.declared.rows.ClassRule.{ClassRule}
use Rattle.sched_book.specs.declared.rows.ClassRule.TheVariants.{Any, OfFirst, Only}
use Rattle.sched_book.specs.declared.rows.HostRow.{HostRow}
use Rattle.sched_book.specs.declared.rows.Version.{Version}
use Rattle.sched_book.specs.declared.world.World.{World}
use Rattle.sched_book.proofs.Classes.{first_stays, limits_with_rule}
use Rattle.sched_book.proofs.PlaceChanges.{map_changed_nth}
use Rattle.sched_book.proofs.Settling.{nth-map}
use Rattle.sched_machine.specs.Asked.{holds}
use Rattle.sched_machine.specs.Classes.{as_imported, ChangesClassesAlone}
use Rattle.sched_machine.proofs.Classes.Words.{version_word}
use Rattle.sched_machine.proofs.Rows.Kept.{rows_changed}
use Rattle.sched_machine.proofs.Rows.Listed.{all_changed_nth}
use Rattle.texts.specs.Words.{IsWord}

like_self : (w : World) → ChangesClassesAlone w w
like_self w = record { rest = refl; units = refl }

like_then : (u v w : World) → ChangesClassesAlone u v → ChangesClassesAlone v w → ChangesClassesAlone u w
like_then u v w first second = record {
  rest = second.rest ∙ ap (λ (z : World). record z { units = w.units }) first.rest;
  units = second.units ∙ first.units;
}

-- one class that is granted, and the classes of all jobs
pub granted_like : (w : World) (unit : ℕ) (class : List ℕ) → ChangesClassesAlone w (class_granted w unit class)
granted_like w unit class = record {
  rest = refl;
  units = map_changed_nth as_imported (with_class class)
      (λ b. ap (λ (rule : ClassRule). record b { unit = record b.unit { class_rule = rule } }) (first_stays b.unit.class_rule class)) w.units unit;
}

-- what each granted class keeps, the classes of all jobs keep
pub classes_keep : (P : World → Type 0) (entry : World) (h : HostRow)
    → ((w : World) (unit : ℕ) (v : Version) → version_at_unit entry h unit ≡ Some v → P w → P (class_granted w unit v.class))
    → (jobs : List Place) (w : World) → P w → P (classed entry h w jobs)
classes_keep P entry h one [] w was = was
classes_keep P entry h one (p ∷ jobs) w was = classes_keep P entry h one jobs (class_one entry h w p) (cases (version_at_unit entry h p.unit) refl)
  where
    cases : (o : Option Version) → version_at_unit entry h p.unit ≡ o → P (unwrap_or (option_map (λ (v : Version). class_granted w p.unit v.class) o) w)
    cases None is = was
    cases (Some v) is = one w p.unit v is was

pub classed_like : (entry : World) (h : HostRow) (jobs : List Place) (w : World) → ChangesClassesAlone w (classed entry h w jobs)
classed_like entry h jobs w =
    classes_keep (ChangesClassesAlone w) entry h (λ u unit v is like. like_then w u (class_granted u unit v.class) like (granted_like u unit v.class)) jobs w (like_self w)

-- a value of a list stays the same if each element is replaced by one with the same value
pub sum_mapped : {X : Type 0} (g : X → X) (f : X → ℕ) → ((x : X) → f (g x) ≡ f x) → (xs : List X) → sum_by f (map g xs) ≡ sum_by f xs
sum_mapped g f same [] = refl
sum_mapped g f same (x ∷ xs) =
    sum_by-cons f (g x) (map g xs)
    ∙ ap (λ n. n + sum_by f (map g xs)) (same x)
    ∙ ap (λ n. f x + n) (sum_mapped g f same xs)
    ∙ sym (sum_by-cons f x xs)

-- What the two worlds agree on.
module _ (w v : World) (like : ChangesClassesAlone w v) where
  pub plain_same : (n : ℕ) → option_map as_imported (unit_at v n) ≡ option_map as_imported (unit_at w n)
  plain_same n = sym (nth-map as_imported v.units n) ∙ ap (λ us. nth us n) like.units ∙ nth-map as_imported w.units n

  -- any value of a workunit that does not depend on its class
  pub read_same : {Y : Type 0} (f : Option UnitBook → Y) → ((b : UnitBook) → f (Some (as_imported b)) ≡ f (Some b)) → (n : ℕ)
      → f (unit_at v n) ≡ f (unit_at w n)
  read_same {Y} f blind n = sym (each (unit_at v n)) ∙ ap f (plain_same n) ∙ each (unit_at w n)
    where
      each : (o : Option UnitBook) → f (option_map as_imported o) ≡ f o
      each None = refl
      each (Some b) = blind b

  pub instance_same : (p : Place) → instance_at v p ≡ instance_at w p
  instance_same p = read_same (option_and_then (λ (b : UnitBook). slice_get b.instances p.number)) (λ b. refl) p.unit

  pub holds_same : (host : ℕ) (p : Place) → holds v host p ≡ holds w host p
  holds_same host p =
      read_same (λ (o : Option UnitBook). unwrap_or (option_and_then (λ (b : UnitBook). option_map (is_held_by host) (slice_get b.instances p.number)) o) false)
      (λ b. refl) p.unit

  name_same : (p : Place) → name_at v p ≡ name_at w p
  name_same p = read_same (λ (o : Option UnitBook). unwrap_or (option_map (λ (b : UnitBook). instance_name b.unit.name p.number) o) []) (λ b. refl) p.unit

  pub deadline_same : (p : Place) → deadline_at v p ≡ deadline_at w p
  deadline_same p = ap (λ (o : Option Instance). unwrap_or (option_map (λ (x : Instance). deadline_of x.owner) o) 0) (instance_same p)

  versions_same : (h : HostRow) → version_for v h ≡ version_for w h
  versions_same h = λ i app. version_for (like.rest i) h app

  -- what a reply says of a job
  pub job_same : (h : HostRow) (resent : Bool) (p : Place) → job_at v h resent p ≡ job_at w h resent p
  job_same h resent p =
      ap (λ (name : List ℕ). said name (deadline_at v p) (version_for v h) (unit_at v p.unit)) (name_same p)
      ∙ ap (λ (d : ℕ). said (name_at w p) d (version_for v h) (unit_at v p.unit)) (deadline_same p)
      ∙ ap (λ (version : List ℕ → Option Version). said (name_at w p) (deadline_at w p) version (unit_at v p.unit)) (versions_same h)
      ∙ read_same (said (name_at w p) (deadline_at w p) (version_for w h)) (λ b. refl) p.unit
    where
      said : List ℕ → ℕ → (List ℕ → Option Version) → Option UnitBook → Option Job
      said name d version o = option_and_then (λ (b : UnitBook). option_map (job_of name d h resent b.unit) (version b.unit.app)) o

  -- credit
  pub credits_same : host_credit v ≡ host_credit w
  credits_same = λ i n. each n i
    where
      each : (n : ℕ) → host_credit v n ≡ host_credit w n
      each n =
          ap (λ (z : World). sum_by (credit_in z.apps n) v.units) like.rest
          ∙ sym (sum_mapped as_imported (credit_in w.apps n) (λ b. refl) v.units)
          ∙ ap (sum_by (credit_in w.apps n)) like.units
          ∙ sum_mapped as_imported (credit_in w.apps n) (λ b. refl) w.units

  pub user_same : (account : ℕ) → user_credit v account ≡ user_credit w account
  user_same account =
      ap₂ (λ (f : ℕ → ℕ) (hosts : List HostRow). sum_by (λ (e : ℕ × HostRow). cond (e.1.account == account) (f e.0) 0) (enumerate_from 1 hosts)) credits_same
      (ap (λ (z : World). z.hosts) like.rest)

-- a settled world stays settled if the classes are words
class_is_word : (rule : ClassRule) (class : List ℕ) → IsWord class → IfSome (class_of rule) IsWord → IfSome (class_of (rule_after rule class)) IsWord
class_is_word Any class word own = tt
class_is_word OfFirst class word own = word
class_is_word (Only c) class word own = own

unit_stays : (hosts : List HostRow) (apps : List App) (class : List ℕ) → IsWord class → (b : UnitBook) → IsSettledUnit hosts apps b
    → IsSettledUnit hosts apps (with_class class b)
unit_stays hosts apps class word b settled = record {
  satisfied = settled.satisfied;
  well = record {
    one_for_each_user = settled.well.one_for_each_user;
    places = settled.well.places;
    in_range = settled.well.in_range;
    bare = settled.well.bare;
    owners = settled.well.owners;
    app = settled.well.app;
    few = settled.well.few;
    limits = limits_with_rule b.unit (rule_after b.unit.class_rule class) (class_is_word b.unit.class_rule class word settled.well.limits.rule) settled.well.limits;
    instances = settled.well.instances;
  };
}

granted_settled : (w : World) (unit : ℕ) (class : List ℕ) → IsWord class → IsSettled w → IsSettled (class_granted w unit class)
granted_settled w unit class word settled = record {
  rows = rows_changed w (with_class class) unit (λ b. refl) settled.rows;
  units = all_changed_nth (IsSettledUnit w.hosts w.apps) (with_class class) w.units unit settled.units (λ b is before. unit_stays w.hosts w.apps class word b before);
}

pub classed_settled : (entry : World) (h : HostRow) → Sound entry → (jobs : List Place) (w : World) → IsSettled w → IsSettled (classed entry h w jobs)
classed_settled entry h known =
    classes_keep IsSettled entry h (λ w unit v is settled. granted_settled w unit v.class (version_word entry known h unit v is) settled)
