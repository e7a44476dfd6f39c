-- What changes of instances leave, place by place: at the changed places, and at the others.
use Rattle.std.proofs.Common.{◌≡◌, ◌⊎◌, inl, inr, ℕ, zero, suc, ◌+◌, ◌-◌, Bool, true, false, cond, eqb, List, [], ◌∷◌, map, Option, Some, None, sym, refl, ap, ◌∙◌, subst}
use Rattle.std.specs.Prelude.{fold, nat_le, Contains, option_map, unwrap_or, slice_get}
use Rattle.std.proofs.lemmas.Option.{slice_get-map}
use Rattle.rpc_records.specs.declared.request.Report.{Report}
use Rattle.sched_book.specs.Fits.{estimate_at}
use Rattle.sched_book.specs.Lost.{is_resent, resend_or_drop, delay_at, deadline_after, with_deadline, with_lapse}
use Rattle.sched_book.specs.Places.{nth, instance_at, passes, place_named, overdue, is_overdue, is_same}
use Rattle.sched_book.specs.PlaceLaws.{ChangesInstancesAlone, ReportsChangeInstancesAlone, lapsed_if_overdue, LapsesAreByPlace, GrantsAreByPlace, LostJobsAreByPlace}
use Rattle.sched_book.specs.Reports.{modify_at, modify_nth, with_number, with_changed, first_reports, awaits_report, with_report, judged_place, record_at, record_one}
use Rattle.sched_book.specs.Step.{with_owner, grant_one, lapsed}
use Rattle.sched_book.specs.declared.instance.Instance.{Instance}
use Rattle.sched_book.specs.declared.instance.Lapse.TheVariants.{Late, Dropped}
use Rattle.sched_book.specs.declared.instance.Owner.{Owner}
use Rattle.sched_book.specs.declared.instance.Place.{Place}
use Rattle.sched_book.specs.declared.instance.UnitBook.{UnitBook}
use Rattle.sched_book.specs.declared.rows.HostRow.{HostRow}
use Rattle.sched_book.specs.declared.rows.Workunit.{Workunit}
use Rattle.sched_book.specs.declared.world.World.{World}
use Rattle.sched_book.proofs.Newest.{front_of, behind, in_front, none_in_nothing}
use Rattle.sched_book.proofs.PlacesWhere.{each_passes, none_missed}
use Rattle.sched_book.proofs.Recording.{instance_at-with_changed, is_same-self, is_same-true, passes-is}
use Rattle.std.proofs.lemmas.List.Elements.{All-contains}

-- ---- what stays

-- a value of each element stays the same if one element is changed and the change keeps its value
pub map_changed_at : {X Y : Type 0} (g : X → Y) (f : X → X) → ((x : X) → g (f x) ≡ g x) → (xs : List X) (i : ℕ) → map g (modify_at f xs i) ≡ map g xs
map_changed_at g f keeps [] i = refl
map_changed_at g f keeps (x ∷ xs) zero = ap (λ y. y ∷ map g xs) (keeps x)
map_changed_at g f keeps (x ∷ xs) (suc i) = ap (λ ys. g x ∷ ys) (map_changed_at g f keeps xs i)

pub map_changed_nth : {X Y : Type 0} (g : X → Y) (f : X → X) → ((x : X) → g (f x) ≡ g x) → (xs : List X) (n : ℕ) → map g (modify_nth f xs n) ≡ map g xs
map_changed_nth {X} g f keeps xs n = cases (eqb n 0)
  where
    cases : (b : Bool) → map g (cond b xs (modify_at f xs (n - 1))) ≡ map g xs
    cases true = refl
    cases false = map_changed_at g f keeps xs (n - 1)

stays_self : (w : World) → ChangesInstancesAlone w w
stays_self w = record { settings = refl; accounts = refl; apps = refl; versions = refl; hosts = refl; units = refl }

stays_then : (u v w : World) → ChangesInstancesAlone u v → ChangesInstancesAlone v w → ChangesInstancesAlone u w
stays_then u v w first second = record {
  settings = second.settings ∙ first.settings;
  accounts = second.accounts ∙ first.accounts;
  apps = second.apps ∙ first.apps;
  versions = second.versions ∙ first.versions;
  hosts = second.hosts ∙ first.hosts;
  units = second.units ∙ first.units;
}

stays_changed : (f : Instance → Instance) (w : World) (p : Place) → ChangesInstancesAlone w (with_changed f w p)
stays_changed f w p = record {
  settings = refl;
  accounts = refl;
  apps = refl;
  versions = refl;
  hosts = refl;
  units = map_changed_nth (λ (b : UnitBook). b.unit) (with_number f p.number) (λ b. refl) w.units p.unit;
}

-- a value of a workunit's row stays the same if the rows do
row_stays : {Y : Type 0} (g : Option Workunit → Y) (xs ys : List UnitBook) → map (λ (b : UnitBook). b.unit) ys ≡ map (λ (b : UnitBook). b.unit) xs → (i : ℕ)
    → g (option_map (λ (b : UnitBook). b.unit) (slice_get ys i)) ≡ g (option_map (λ (b : UnitBook). b.unit) (slice_get xs i))
row_stays g xs ys same i =
    ap g (sym (slice_get-map (λ (b : UnitBook). b.unit) ys i) ∙ ap (λ us. slice_get us i) same ∙ slice_get-map (λ (b : UnitBook). b.unit) xs i)

delay_stays : (u v : World) → ChangesInstancesAlone u v → (p : Place) → delay_at v p ≡ delay_at u p
delay_stays u v same p = of_row v p.unit ∙ cases (eqb p.unit 0) ∙ sym (of_row u p.unit)
  where
    delay_of : Option Workunit → ℕ
    delay_of o = unwrap_or (option_map (λ (a : Workunit). a.delay_bound) o) 0

    twice : (o : Option UnitBook) → unwrap_or (option_map (λ (b : UnitBook). b.unit.delay_bound) o) 0 ≡ delay_of (option_map (λ (b : UnitBook). b.unit) o)
    twice None = refl
    twice (Some b) = refl

    of_row : (w : World) (n : ℕ) → unwrap_or (option_map (λ (b : UnitBook). b.unit.delay_bound) (nth w.units n)) 0
        ≡ delay_of (option_map (λ (b : UnitBook). b.unit) (nth w.units n))
    of_row w n = twice (nth w.units n)

    cases : (b : Bool) → delay_of (option_map (λ (b : UnitBook). b.unit) (cond b None (slice_get v.units (p.unit - 1))))
        ≡ delay_of (option_map (λ (b : UnitBook). b.unit) (cond b None (slice_get u.units (p.unit - 1))))
    cases true = refl
    cases false = row_stays delay_of u.units v.units same.units (p.unit - 1)

-- ---- a change at each of some places, which does nothing a second time

module _ (f : Place → Instance → Instance) (again : (p : Place) (x : Instance) → f p (f p x) ≡ f p x) where
  abbrev change : World → Place → World
  change w p = with_changed (f p) w p

  abbrev changed : World → List Place → World
  changed w ps = fold change w ps

  stays : (ps : List Place) (w : World) → ChangesInstancesAlone w (changed w ps)
  stays [] w = stays_self w
  stays (p ∷ ps) w = stays_then w (change w p) (changed (change w p) ps) (stays_changed (f p) w p) (stays ps (change w p))

  change_here : (w : World) (p : Place) → instance_at (change w p) p ≡ option_map (f p) (instance_at w p)
  change_here w p =
      instance_at-with_changed (f p) w p p
      ∙ ap (λ b. cond b (option_map (f p) (instance_at w p)) (instance_at w p)) (is_same-self p)

  change_elsewhere : (w : World) (q p : Place) → is_same q p ≡ false → instance_at (change w q) p ≡ instance_at w p
  change_elsewhere w q p other =
      instance_at-with_changed (f q) w q p
      ∙ ap (λ b. cond b (option_map (f q) (instance_at w p)) (instance_at w p)) other

  -- a place that was changed stays so
  changed_more : (ps : List Place) (w v : World) (p : Place) → instance_at v p ≡ option_map (f p) (instance_at w p)
      → instance_at (changed v ps) p ≡ option_map (f p) (instance_at w p)
  changed_more [] w v p was = was
  changed_more (q ∷ ps) w v p was = changed_more ps w (change v q) p (cases (is_same q p) refl)
    where
      twice : (o : Option Instance) → option_map (f p) (option_map (f p) o) ≡ option_map (f p) o
      twice None = refl
      twice (Some x) = ap Some (again p x)

      cases : (b : Bool) → is_same q p ≡ b → instance_at (change v q) p ≡ option_map (f p) (instance_at w p)
      cases false other = change_elsewhere v q p other ∙ was
      cases true same =
          ap (λ z. instance_at (change v z) p) (is_same-true q p same) ∙ change_here v p ∙ ap (option_map (f p)) was ∙ twice (instance_at w p)

  changed_here : (ps : List Place) (w : World) (p : Place) → Contains ps p → instance_at (changed w ps) p ≡ option_map (f p) (instance_at w p)
  changed_here [] w p there = absurd (none_in_nothing p there)
  changed_here (q ∷ ps) w p there = cases (is_same q p) refl (in_front q ps p there) (changed_here ps (change w q) p)
    where
      cases : (b : Bool) → is_same q p ≡ b → (q ≡ p) ⊎ Contains ps p
          → (Contains ps p → instance_at (changed (change w q) ps) p ≡ option_map (f p) (instance_at (change w q) p))
          → instance_at (changed (change w q) ps) p ≡ option_map (f p) (instance_at w p)
      cases true same either rest =
          changed_more ps w (change w q) p (ap (λ z. instance_at (change w z) p) (is_same-true q p same) ∙ change_here w p)
      cases false other (inl same) rest = let never : true ≡ false = sym (is_same-self p) ∙ ap (λ z. is_same z p) (sym same) ∙ other in absurd cc
      cases false other (inr later) rest = rest later ∙ ap (option_map (f p)) (change_elsewhere w q p other)

  changed_elsewhere : (ps : List Place) (w : World) (p : Place) → (Contains ps p → ⊥) → instance_at (changed w ps) p ≡ instance_at w p
  changed_elsewhere [] w p nowhere = refl
  changed_elsewhere (q ∷ ps) w p nowhere =
      changed_elsewhere ps (change w q) p (λ there. nowhere (behind q ps p there)) ∙ change_elsewhere w q p (cases (is_same q p) refl)
    where
      cases : (b : Bool) → is_same q p ≡ b → is_same q p ≡ false
      cases false other = other
      cases true same = absurd (nowhere (subst (Contains (q ∷ ps)) (is_same-true q p same) (front_of q ps)))

-- ---- reports

pub reports_change_instances_alone : ReportsChangeInstancesAlone
reports_change_instances_alone entry host reports = all (first_reports reports) entry
  where
    at : (w : World) (r : Report) (p : Place) → ChangesInstancesAlone w (record_at entry host r w p)
    at w r p = cases (passes w (λ b x. awaits_report host x) p)
      where
        cases : (b : Bool) → ChangesInstancesAlone w (cond b (with_changed (with_report r (judged_place entry w p.unit)) w p) w)
        cases true = stays_changed (with_report r (judged_place entry w p.unit)) w p
        cases false = stays_self w

    one : (w : World) (r : Report) → ChangesInstancesAlone w (record_one entry host w r)
    one w r = cases (place_named entry r.name)
      where
        cases : (o : Option Place) → ChangesInstancesAlone w (unwrap_or (option_map (record_at entry host r w) o) w)
        cases None = stays_self w
        cases (Some p) = at w r p

    all : (rs : List Report) (w : World) → ChangesInstancesAlone w (fold (record_one entry host) w rs)
    all [] w = stays_self w
    all (r ∷ rs) w =
        stays_then w (record_one entry host w r) (fold (record_one entry host) (record_one entry host w r) rs) (one w r) (all rs (record_one entry host w r))

-- ---- lapses at a deadline

abbrev late : Place → Instance → Instance
late p x = with_lapse Late x

pub lapses_are_by_place : LapsesAreByPlace
lapses_are_by_place w now = record {
  instance = λ p. cases p (passes w (λ b x. is_overdue now x) p) refl;
  rest = stays late (λ p x. refl) (overdue w now) w;
}
  where
    -- a test of the instance at a place, if there is one
    over : Option Instance → Bool
    over o = unwrap_or (option_map (is_overdue now) o) false

    lapsed_at : (o : Option Instance) → over o ≡ true → option_map (with_lapse Late) o ≡ option_map (lapsed_if_overdue now) o
    lapsed_at None is = absurd cc
    lapsed_at (Some x) is = ap (λ b. Some (cond b (with_lapse Late x) x)) (sym is)

    left_at : (o : Option Instance) → over o ≡ false → o ≡ option_map (lapsed_if_overdue now) o
    left_at None is = refl
    left_at (Some x) is = ap (λ b. Some (cond b (with_lapse Late x) x)) (sym is)

    cases : (p : Place) (b : Bool) → passes w (λ b x. is_overdue now x) p ≡ b
        → instance_at (lapsed w now) p ≡ option_map (lapsed_if_overdue now) (instance_at w p)
    cases p true is =
        changed_here late (λ p x. refl) (overdue w now) w p (none_missed w (λ b x. is_overdue now x) p is)
        ∙ lapsed_at (instance_at w p) (sym (passes-is w (is_overdue now) p) ∙ is)
    cases p false is =
        changed_elsewhere late (λ p x. refl) (overdue w now) w p
        (λ there.
        (let pass : passes w (λ b x. is_overdue now x) p ≡ true =
        All-contains (λ q. passes w (λ b x. is_overdue now x) q ≡ true) (overdue w now) p (each_passes w (λ b x. is_overdue now x)) there in
        let never : true ≡ false = sym pass ∙ is in
        absurd cc))
        ∙ left_at (instance_at w p) (sym (passes-is w (is_overdue now) p) ∙ is)

-- ---- a grant

pub grants_are_by_place : GrantsAreByPlace
grants_are_by_place w host now jobs = record {
  job = λ p there. ap (λ v. instance_at v p) (as_first jobs w (stays_self w)) ∙ changed_here given (λ p x. refl) jobs w p there;
  other = λ p nowhere. ap (λ v. instance_at v p) (as_first jobs w (stays_self w)) ∙ changed_elsewhere given (λ p x. refl) jobs w p nowhere;
  rest = subst (ChangesInstancesAlone w) (sym (as_first jobs w (stays_self w))) (stays given (λ p x. refl) jobs w);
}
  where
    -- with the delay bounds of the world before
    given : Place → Instance → Instance
    given p = with_owner (record { host = host; sent = now; deadline = now + delay_at w p })

    as_first : (ps : List Place) (v : World) → ChangesInstancesAlone w v → fold (grant_one host now) v ps ≡ changed given (λ p x. refl) v ps
    as_first [] v same = refl
    as_first (p ∷ ps) v same =
        ap (λ delay. fold (grant_one host now) (with_changed (with_owner (record { host = host; sent = now; deadline = now + delay })) v p) ps) (delay_stays w v same p)
        ∙ as_first ps (with_changed (given p) v p) (stays_then w v (with_changed (given p) v p) same (stays_changed (given p) v p))

-- ---- lost jobs

module _ (entry : World) (h : HostRow) (now : ℕ) where
  abbrev moved : Place → ℕ → ℕ
  moved p = deadline_after now (estimate_at entry h p) (delay_at entry p)

  abbrev fated : Place → Instance → Instance
  fated p x = cond (is_resent entry h p) (with_deadline (moved p) x) (with_lapse Dropped x)

  -- a deadline that was moved once does not move again
  moved_once : (seconds delay deadline : ℕ) → deadline_after now seconds delay (deadline_after now seconds delay deadline) ≡ deadline_after now seconds delay deadline
  moved_once seconds delay deadline = cases (nat_le (now + seconds) deadline) refl
    where
      either : (b : Bool) → cond b (now + delay) (now + delay) ≡ now + delay
      either true = refl
      either false = refl

      cases : (b : Bool) → nat_le (now + seconds) deadline ≡ b → deadline_after now seconds delay (cond b deadline (now + delay)) ≡ cond b deadline (now + delay)
      cases true is = ap (λ b. cond b deadline (now + delay)) is
      cases false is = either (nat_le (now + seconds) (now + delay))

  again : (p : Place) (x : Instance) → fated p (fated p x) ≡ fated p x
  again p x = cases (is_resent entry h p)
    where
      twice : (o : Option Owner) → option_map (λ (o : Owner). record o { deadline = moved p o.deadline }) (option_map (λ (o : Owner). record o { deadline = moved p o.deadline }) o)
          ≡ option_map (λ (o : Owner). record o { deadline = moved p o.deadline }) o
      twice None = refl
      twice (Some o) = ap (λ d. Some (record o { deadline = d })) (moved_once (estimate_at entry h p) (delay_at entry p) o.deadline)

      cases : (b : Bool) → cond b (with_deadline (moved p) (cond b (with_deadline (moved p) x) (with_lapse Dropped x))) (with_lapse Dropped (cond b (with_deadline (moved p) x) (with_lapse Dropped x)))
          ≡ cond b (with_deadline (moved p) x) (with_lapse Dropped x)
      cases true = ap (λ o. record x { owner = o }) (twice x.owner)
      cases false = refl

  as_fated : (ps : List Place) (v : World) → fold (resend_or_drop entry h now) v ps ≡ changed fated again v ps
  as_fated [] v = refl
  as_fated (p ∷ ps) v = ap (λ u. fold (resend_or_drop entry h now) u ps) (one (is_resent entry h p) refl) ∙ as_fated ps (with_changed (fated p) v p)
    where
      one : (b : Bool) → is_resent entry h p ≡ b → cond b (with_changed (with_deadline (moved p)) v p) (with_changed (with_lapse Dropped) v p) ≡ with_changed (fated p) v p
      one true is = ap (λ g. with_changed g v p) (λ i x. cond (sym is i) (with_deadline (moved p) x) (with_lapse Dropped x))
      one false is = ap (λ g. with_changed g v p) (λ i x. cond (sym is i) (with_deadline (moved p) x) (with_lapse Dropped x))

pub lost_jobs_are_by_place : LostJobsAreByPlace
lost_jobs_are_by_place entry h now w jobs = record {
  resent = λ p there sent. here p there ∙ by_fate p true sent;
  dropped = λ p there lost. here p there ∙ by_fate p false lost;
  other = λ p nowhere. ap (λ v. instance_at v p) left ∙ changed_elsewhere fate once jobs w p nowhere;
  rest = subst (ChangesInstancesAlone w) (sym left) (stays fate once jobs w);
}
  where
    fate : Place → Instance → Instance
    fate = fated entry h now

    once : (p : Place) (x : Instance) → fate p (fate p x) ≡ fate p x
    once = again entry h now

    left : fold (resend_or_drop entry h now) w jobs ≡ changed fate once w jobs
    left = as_fated entry h now jobs w

    here : (p : Place) → Contains jobs p → instance_at (fold (resend_or_drop entry h now) w jobs) p ≡ option_map (fate p) (instance_at w p)
    here p there = ap (λ v. instance_at v p) left ∙ changed_here fate once jobs w p there

    by_fate : (p : Place) (b : Bool) → is_resent entry h p ≡ b
        → option_map (fate p) (instance_at w p)
        ≡ option_map (λ x. cond b (with_deadline (moved entry h now p) x) (with_lapse Dropped x)) (instance_at w p)
    by_fate p b is = ap (λ c. option_map (λ x. cond c (with_deadline (moved entry h now p) x) (with_lapse Dropped x)) (instance_at w p)) is
