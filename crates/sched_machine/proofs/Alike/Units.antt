-- What the changes of a call leave of a workunit: if no instance of it belongs to the call's host, it stays as it is.
use Rattle.std.proofs.Common.{◌≡◌, ℕ, suc, ◌+◌, ◌-◌, ◌/◌, ◌⊎◌, inl, inr, Bool, true, false, cond, eqb, List, [], ◌∷◌, ◌++◌, Option, Some, None, sym, refl, ap, ap₂, ◌∙◌}
use Rattle.std.specs.Prelude.{◌&&◌, ◌||◌, ◌==◌, count_by, map, replicate, option_map, option_and_then, slice_get}
use Rattle.std.specs.List.{list_any}
use Rattle.std.proofs.lemmas.List.Folds.{Any-from_list_any, list_any_at, list_any-append}
use Rattle.std.proofs.lemmas.Option.{slice_get-get_or, slice_get_within, get_or_from_slice_get}
use Rattle.rpc_records.specs.declared.request.Request.{Request}
use Rattle.sched_book.specs.Count.{is_open, need}
use Rattle.sched_book.specs.Desk.{workunit_at}
use Rattle.sched_book.specs.PlaceLaws.{ChangesInstancesAlone}
use Rattle.sched_book.specs.Places.{nth, instance_at, book_status, option_any, is_owned_by, was_sent}
use Rattle.sched_book.specs.Settle.{fresh, grown}
use Rattle.sched_book.specs.Step.{after_lost, at_entry, host_number}
use Rattle.sched_book.specs.declared.instance.Instance.{Instance}
use Rattle.sched_book.specs.declared.instance.Owner.{Owner}
use Rattle.sched_book.specs.declared.instance.Place.{Place}
use Rattle.sched_book.specs.declared.instance.UnitBook.{UnitBook}
use Rattle.sched_book.specs.declared.machine.Call.TheVariants as call
use Rattle.sched_book.specs.declared.machine.Caller.{Caller}
use Rattle.sched_book.specs.declared.rows.App.{App}
use Rattle.sched_book.specs.declared.world.World.{World}
use Rattle.sched_book.proofs.Settling.{nth-map}
use Rattle.sched_book.proofs.ByPlace.{same_by_place}
use Rattle.sched_machine.proofs.Alike.Lists.{Along, Both, along_places}
use Rattle.sched_machine.proofs.Rows.Listed.{none_any}
use Rattle.sched_machine.proofs.Moves.Moves.{Lasts, left_alone, left_lasts}
use Rattle.sched_machine.proofs.Units.Alike.{count_cons}
use Rattle.sched_machine.proofs.Units.Grown.{count_none}

-- some instance of the workunit was given to the host
abbrev pub HasOne : ℕ → UnitBook → Type 0
HasOne host b = list_any (is_owned_by host) b.instances ≡ true

-- A workunit and what it became: it is the same, or the host had an instance of it before and has one now.
pub record IsKept (host : ℕ) (b d : UnitBook) : Type 0 where
  pub row : d.unit ≡ b.unit
  pub sent : (day : ℕ) → count_by (was_sent host day) d.instances ≡ count_by (was_sent host day) b.instances
  pub held : (d ≡ b) ⊎ (HasOne host b × HasOne host d)

-- the instance at a place and what it became: the same, or the host's before and now
abbrev StaysOwn : ℕ → Option Instance → Option Instance → Type 0
StaysOwn host o q =
    ((day : ℕ) → option_map (was_sent host day) q ≡ option_map (was_sent host day) o)
    × ((q ≡ o) ⊎ ((option_any (is_owned_by host) o ≡ true) × (option_any (is_owned_by host) q ≡ true)))

-- this holds through the reports and the lost jobs of its call
stays_own : (w : World) (c : Caller) (r : Request) (p : Place) → Lasts w (call.Rpc c r) p (StaysOwn (host_number w c))
stays_own w c r p = record {
  same = λ o. (λ day. refl, inl refl);
  chain = λ o q s first second. (
    λ day. second.0 day ∙ first.0 day,
    elim first.1 [
      | inl same ↦ elim second.1 [ inl also ↦ inl (also ∙ same) | inr both ↦ inr (sym (ap (option_any (is_owned_by (host_number w c))) same) ∙ both.0, both.1) ]
      | inr both ↦ inr (both.0, elim second.1 [ inl also ↦ ap (option_any (is_owned_by (host_number w c))) also ∙ both.1 | inr two ↦ two.1 ])
    ],
  );
  reported = λ r place x none own later. (λ day. refl, inr (own, own));
  lapses = λ lapse x none own. (λ day. refl, inr (own, own));
  moved = λ f o x is own again. (
    λ day. sym (ap (λ q. Some (option_any (λ (o : Owner). (o.host == host_number w c) && (o.sent / 86400 == day)) q)) is),
    inr (own, sym (ap (λ q. option_any (λ n. n == host_number w c) (option_map (λ (o : Owner). o.host) q)) is) ∙ own),
  );
}

-- as many elements pass if each passes whenever the one at its index does
count_alike : (t : Instance → Bool) (xs ys : List Instance) → ((i : ℕ) → option_map t (slice_get ys i) ≡ option_map t (slice_get xs i))
    → count_by t ys ≡ count_by t xs
count_alike t [] [] same = refl
count_alike t [] (y ∷ ys) same = absurd (let never : Some (t y) ≡ None = same 0 in cc)
count_alike t (x ∷ xs) [] same = absurd (let never : None ≡ Some (t x) = same 0 in cc)
count_alike t (x ∷ xs) (y ∷ ys) same =
    let both : Some (t y) ≡ Some (t x) = same 0 in
    let first : t y ≡ t x = cc in
    count_cons t y ys (t x) first
    ∙ ap (λ n. cond {A = ℕ} (t x) 1 0 + n) (count_alike t xs ys (λ i. same (suc i)))
    ∙ sym (count_cons t x xs (t x) refl)

-- a workunit whose instances stay in this way
kept_by : (host : ℕ) (b d : UnitBook) → d.unit ≡ b.unit → ((i : ℕ) → StaysOwn host (slice_get b.instances i) (slice_get d.instances i)) → IsKept host b d
kept_by host b d row stays = record {
  row = row;
  sent = λ day. count_alike (was_sent host day) b.instances d.instances (λ i. (stays i).0 day);
  held = cases (list_any (is_owned_by host) b.instances) refl;
}
  where
    nobody : list_any (is_owned_by host) b.instances ≡ false → (i : ℕ) (o : Option Instance) → slice_get b.instances i ≡ o → option_any (is_owned_by host) o ≡ true → ⊥
    nobody none i None there own = absurd cc
    nobody none i (Some x) there own = let never : false ≡ true = sym (none_any (is_owned_by host) b.instances none i x there) ∙ own in absurd cc

    same : list_any (is_owned_by host) b.instances ≡ false → (i : ℕ) → slice_get d.instances i ≡ slice_get b.instances i
    same none i = elim (stays i).1 [ inl is ↦ is | inr both ↦ absurd (nobody none i (slice_get b.instances i) refl both.0) ]

    at_place : list_any (is_owned_by host) b.instances ≡ false → (n : ℕ) (t : Bool) → cond t None (slice_get d.instances (n - 1)) ≡ cond t None (slice_get b.instances (n - 1))
    at_place none n true = refl
    at_place none n false = same none (n - 1)

    -- an instance that belongs to the host still does later
    still : (i : ℕ) (o q : Option Instance) → slice_get d.instances i ≡ q → StaysOwn host o q → option_any (is_owned_by host) o ≡ true → HasOne host d
    still i None q there goes own = absurd cc
    still i (Some x) None there goes own = absurd (let never : None ≡ Some (was_sent host 0 x) = goes.0 0 in cc)
    still i (Some x) (Some y) there goes own =
        list_any_at (is_owned_by host) d.instances i y (slice_get_within d.instances i y there)
        (ap (is_owned_by host) (get_or_from_slice_get d.instances i y y there)
        ∙ elim goes.1 [ inl is ↦ ap (option_any (is_owned_by host)) is ∙ own | inr both ↦ both.1 ])

    cases : (t : Bool) → list_any (is_owned_by host) b.instances ≡ t → (d ≡ b) ⊎ (HasOne host b × HasOne host d)
    cases true is =
        let found = Any-from_list_any (is_owned_by host) b.instances is in
        inr (
          is,
          still found.0 (slice_get b.instances found.0) (slice_get d.instances found.0) refl (stays found.0)
              (ap (option_any (is_owned_by host)) (slice_get-get_or b.instances found.0 found.1 found.2) ∙ ap (is_owned_by host) found.3 ∙ found.4),
        )
    cases false is =
        let instances : d.instances ≡ b.instances = same_by_place d.instances b.instances (λ n. at_place is n (eqb n 0)) in
        inl (λ i. record { unit = row i; instances = instances i })

-- with the new instances that it needs
pub row_grown : (apps : List App) (d : UnitBook) → (grown apps d).unit ≡ d.unit
row_grown apps d = cases (is_open (book_status apps d))
  where
    cases : (t : Bool) → (cond t (record d { instances = d.instances ++ replicate (need d.unit d.instances) fresh }) d).unit ≡ d.unit
    cases true = refl
    cases false = refl

pub rows_grown : (apps : List App) (bs : List UnitBook) → map (λ (b : UnitBook). b.unit) (map (grown apps) bs) ≡ map (λ (b : UnitBook). b.unit) bs
rows_grown apps [] = refl
rows_grown apps (b ∷ bs) = ap₂ (λ u us. u ∷ us) (row_grown apps b) (rows_grown apps bs)

-- the row at a place, if all rows are the same
pub row_at : (w v : World) → map (λ (b : UnitBook). b.unit) v.units ≡ map (λ (b : UnitBook). b.unit) w.units → (n : ℕ) → workunit_at v n ≡ workunit_at w n
row_at w v rows n = sym (nth-map (λ (b : UnitBook). b.unit) v.units n) ∙ ap (λ us. nth us n) rows ∙ nth-map (λ (b : UnitBook). b.unit) w.units n

pub sent_grown : (host day : ℕ) (apps : List App) (d : UnitBook)
    → count_by (was_sent host day) (grown apps d).instances ≡ count_by (was_sent host day) d.instances
sent_grown host day apps d = cases (is_open (book_status apps d)) (need d.unit d.instances)
  where
    cases : (t : Bool) (many : ℕ) → count_by (was_sent host day) (cond t (record d { instances = d.instances ++ replicate many fresh }) d).instances
        ≡ count_by (was_sent host day) d.instances
    cases false many = refl
    cases true many = count_none (was_sent host day) d.instances many fresh refl

pub has_grown : (host : ℕ) (apps : List App) (d : UnitBook) → HasOne host d → HasOne host (grown apps d)
has_grown host apps d has = cases (is_open (book_status apps d))
  where
    cases : (t : Bool) → HasOne host (cond t (record d { instances = d.instances ++ replicate (need d.unit d.instances) fresh }) d)
    cases false = has
    cases true =
        list_any-append (is_owned_by host) d.instances (replicate (need d.unit d.instances) fresh)
        ∙ ap (λ t. t || list_any (is_owned_by host) (replicate (need d.unit d.instances) fresh)) has

-- A world and what it became: the same except for its workunits.
pub record IsFrom (host : ℕ) (w v : World) : Type 0 where
  pub units : Along (IsKept host) w.units v.units
  pub rest : v ≡ record w { units = v.units }

from_places : (host : ℕ) (w v : World) → ChangesInstancesAlone w v → ((p : Place) → StaysOwn host (instance_at w p) (instance_at v p)) → IsFrom host w v
from_places host w v alone stays = record {
  units = along_places (IsKept host) w.units v.units (λ n.
      cases (nth w.units n) (nth v.units n)
      (row_at w v alone.units n)
      (λ i. stays (record { unit = n; number = i })));
  rest = λ i. record {
    settings = alone.settings i;
    accounts = alone.accounts i;
    apps = alone.apps i;
    versions = alone.versions i;
    units = v.units;
    hosts = alone.hosts i;
  };
}
  where
    at : ℕ → Option UnitBook → Option Instance
    at i o = option_and_then (λ (b : UnitBook). slice_get b.instances i) o

    cases : (o q : Option UnitBook) → option_map (λ (b : UnitBook). b.unit) q ≡ option_map (λ (b : UnitBook). b.unit) o
        → ((i : ℕ) → StaysOwn host (at i o) (at i q)) → Both (IsKept host) o q
    cases None None row own = tt
    cases None (Some d) row own = absurd cc
    cases (Some b) None row own = absurd cc
    cases (Some b) (Some d) row own = kept_by host b d (let same : d.unit ≡ b.unit = cc in same) own

-- what the reports and the lost jobs of a call leave
pub before_settlement : (w : World) (c : Caller) (r : Request) (now : ℕ) → IsFrom (host_number w c) (at_entry w c r) (after_lost w c r now)
before_settlement w c r now =
    from_places (host_number w c) (at_entry w c r) (after_lost w c r now) (left_alone w c r now)
    (λ p. left_lasts (StaysOwn (host_number w c)) w c r p (stays_own w c r p) now)
