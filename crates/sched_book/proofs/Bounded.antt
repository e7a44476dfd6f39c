-- No list of places of a bounded world is longer than the number of instances that 200,000 workunits have at most.
use Rattle.std.proofs.Common.{◌≡◌, ℕ, ◌+◌, ◌*◌, ◌≤◌, Bool, true, false, cond, not, List, [], ◌∷◌, length, length-append, arith}
use Rattle.std.specs.Prelude.{◌&&◌, All}
use Rattle.std.proofs.lemmas.List.Elements.{All-head, All-tail, All-weaker}
use Rattle.std.proofs.lemmas.List.Sums.{count_by-le-length}
use Rattle.sched_book.specs.Bounds.{SoundIsBounded, InstancesAreFew, ChargesAreFew}
use Rattle.sched_book.specs.Count.{tells_error, is_valid, is_invalid}
use Rattle.sched_book.specs.Limits.{most_workunits, most_hosts, most_instances, IsBounded}
use Rattle.sched_book.specs.Places.{passes, places, places_in, places_among, places_where, is_held_by, is_overdue, is_owned_by, verdict_of}
use Rattle.sched_book.specs.Settle.{is_late, newly}
use Rattle.sched_book.specs.Sound.{IsSoundUnit}
use Rattle.sched_book.specs.declared.instance.Instance.{Instance}
use Rattle.sched_book.specs.declared.instance.Place.{Place}
use Rattle.sched_book.specs.declared.instance.UnitBook.{UnitBook}
use Rattle.sched_book.specs.declared.world.World.{World}

pub sound_is_bounded : SoundIsBounded
sound_is_bounded w sound = record {
  accounts = sound.rows.account_count;
  apps = sound.rows.app_count;
  versions = sound.rows.version_count;
  hosts =
      (let least : length w.hosts ≤ w.settings.max_hosts = sound.rows.host_count in
      let most : w.settings.max_hosts ≤ most_hosts = sound.rows.settings.hosts.1 in
      omega arith);
  units = sound.rows.unit_count;
  instances = All-weaker (IsSoundUnit w.hosts w.apps) (λ (b : UnitBook). length b.instances ≤ most_instances) (λ b unit. unit.well.few) w.units sound.units;
}

in_unit : (unit from : ℕ) (test : Instance → Bool) (xs : List Instance) → length (places_in unit from test xs) ≤ length xs
in_unit unit from test [] = omega arith
in_unit unit from test (x ∷ xs) = cases (test x) (in_unit unit (from + 1) test xs)
  where
    rest : List Place
    rest = places_in unit (from + 1) test xs

    cases : (b : Bool) → length rest ≤ length xs → length (cond b (record { unit = unit; number = from } ∷ rest) rest) ≤ length (x ∷ xs)
    cases true less = omega arith
    cases false less = omega arith

among : (test : UnitBook → Instance → Bool) (from : ℕ) (bs : List UnitBook) → All (λ (b : UnitBook). length b.instances ≤ most_instances) bs
    → length (places_among from test bs) ≤ length bs * 100
among test from [] few = omega arith
among test from (b ∷ bs) few =
    let here : length (places_in from 0 (test b) b.instances) ≤ length b.instances = in_unit from 0 (test b) b.instances in
    let hundred : length b.instances ≤ most_instances = All-head (λ (b : UnitBook). length b.instances ≤ most_instances) b bs few in
    let more : length (places_among (from + 1) test bs) ≤ length bs * 100 =
    among test (from + 1) bs (All-tail (λ (b : UnitBook). length b.instances ≤ most_instances) b bs few) in
    let both : length (places_among from test (b ∷ bs)) ≡ length (places_in from 0 (test b) b.instances) + length (places_among (from + 1) test bs) =
    length-append (places_in from 0 (test b) b.instances) (places_among (from + 1) test bs) in
    omega arith

pub places_are_few : (w : World) (test : UnitBook → Instance → Bool) → IsBounded w → length (places_where w test) ≤ 20000000
places_are_few w test bounded =
    let less : length (places_among 1 test w.units) ≤ length w.units * 100 = among test 1 w.units bounded.instances in
    let few : length w.units ≤ most_workunits = bounded.units in
    omega arith

pub instances_are_few : InstancesAreFew
instances_are_few w bounded = record {
  all = places_are_few w (λ b x. true) bounded;
  held = λ host. places_are_few w (λ b x. is_held_by host x) bounded;
  overdue = λ now. places_are_few w (λ b x. is_overdue now x) bounded;
}

newly_few : (test : World → UnitBook → Instance → Bool) (old new : World) (host : ℕ) → IsBounded new → newly test old new host ≤ 20000000
newly_few test old new host bounded =
    let less = count_by-le-length (λ p. passes new (λ b x. is_owned_by host x && test new b x) p && not (passes old (test old) p)) (places new) in
    let few : length (places new) ≤ 20000000 = places_are_few new (λ b x. true) bounded in
    omega (arith, less)

pub charges_are_few : ChargesAreFew
charges_are_few old new host bounded =
    let errors : newly (λ w b x. tells_error x.report) old new host ≤ 20000000 = newly_few (λ w b x. tells_error x.report) old new host bounded in
    let late : newly (λ w b x. is_late x.lapse) old new host ≤ 20000000 = newly_few (λ w b x. is_late x.lapse) old new host bounded in
    let invalid : newly (λ w b x. is_invalid (verdict_of w b x)) old new host ≤ 20000000 =
    newly_few (λ w b x. is_invalid (verdict_of w b x)) old new host bounded in
    record {
      charges = omega (arith, errors, late, invalid);
      merits = newly_few (λ w b x. is_valid (verdict_of w b x)) old new host bounded;
    }
