-- Words. What settlement counts for and against the hosts of instances, and the credit that they get from it.
use Rattle.std.specs.Prelude.{ℕ, ◌+◌, ◌==◌, Bool, true, false, not, ◌&&◌, if◌then◌else◌, List, sum_by, Option, None, option_map, unwrap_or, slice_get}
use Rattle.sched_book.specs.Count.{tells_error, is_valid, is_invalid}
use Rattle.sched_book.specs.Desk.{instances_at}
use Rattle.sched_book.specs.Places.{unit_at, passes, places_in, is_owned_by, book_verdict}
use Rattle.sched_book.specs.Settle.{is_late}
use Rattle.sched_book.specs.declared.instance.Instance.{Instance}
use Rattle.sched_book.specs.declared.instance.Place.{Place}
use Rattle.sched_book.specs.declared.instance.UnitBook.{UnitBook}
use Rattle.sched_book.specs.declared.instance.Verdict.{Verdict}
use Rattle.sched_book.specs.declared.rows.App.{App}
use Rattle.sched_book.specs.declared.world.World.{World}
use Rattle.quorum_credit.specs.declared.scores.Score.{Score}
use Rattle.quorum_credit.specs.declared.scores.Standing.{Standing}

-- the standing of an instance that has this verdict
abbrev pub standing_with : Option Verdict → Instance → Standing
standing_with verdict x = record { has_error = tells_error x.report; is_late = is_late x.lapse; verdict = verdict }

-- the standing of an instance that does not exist yet
abbrev pub no_standing : Standing
no_standing = record { has_error = false; is_late = false; verdict = None }

-- the standing of the instance of a number in a workunit, if these are the applications
abbrev pub standing_in : List App → UnitBook → ℕ → Standing
standing_in apps b number = unwrap_or (option_map (λ x. standing_with (book_verdict apps b x) x) (slice_get b.instances number)) no_standing

abbrev pub standing_at : World → Place → Standing
standing_at w p = unwrap_or (option_map (λ b. standing_in w.apps b p.number) (unit_at w p.unit)) no_standing

-- one if a test passes that did not pass before
abbrev pub one_if_new : Bool → Bool → ℕ
one_if_new new old = if new && not old then 1 else 0

-- what newly counts against the host: a client error, a lapse at the deadline, an invalid result
abbrev pub charges_between : Standing → Standing → ℕ
charges_between old new =
    one_if_new new.has_error old.has_error + one_if_new new.is_late old.is_late + one_if_new (is_invalid new.verdict) (is_invalid old.verdict)

-- what newly counts for it: a valid result
abbrev pub merits_between : Standing → Standing → ℕ
merits_between old new = one_if_new (is_valid new.verdict) (is_valid old.verdict)

-- the new credit, in a workunit of this credit: all of it if the result is newly valid
abbrev pub credit_between : ℕ → Standing → Standing → ℕ
credit_between credit old new = if is_valid new.verdict && not (is_valid old.verdict) then credit else 0

-- the credit of the workunit at a place; 0 if there is no workunit
abbrev pub unit_credit : World → ℕ → ℕ
unit_credit w unit = unwrap_or (option_map (λ (b : UnitBook). b.unit.credit) (unit_at w unit)) 0

-- the charges of the instance at a place, if it belongs to this host; then its merits, and its new credit
abbrev pub charges_at : World → World → ℕ → Place → ℕ
charges_at old new host p =
    if passes new (λ b x. is_owned_by host x) p then charges_between (standing_at old p) (standing_at new p) else 0

abbrev pub merits_at : World → World → ℕ → Place → ℕ
merits_at old new host p =
    if passes new (λ b x. is_owned_by host x) p then merits_between (standing_at old p) (standing_at new p) else 0

abbrev pub credit_new_at : World → World → ℕ → Place → ℕ
credit_new_at old new host p =
    if passes new (λ b x. is_owned_by host x) p then credit_between (unit_credit new p.unit) (standing_at old p) (standing_at new p) else 0

-- the same, summed over all instances of the workunit at a place
abbrev pub unit_charges : World → World → ℕ → ℕ → ℕ
unit_charges old new host unit = sum_by (charges_at old new host) (places_in unit 0 (λ x. true) (instances_at new unit))

abbrev pub unit_merits : World → World → ℕ → ℕ → ℕ
unit_merits old new host unit = sum_by (merits_at old new host) (places_in unit 0 (λ x. true) (instances_at new unit))

abbrev pub unit_credits : World → World → ℕ → ℕ → ℕ
unit_credits old new host unit = sum_by (credit_new_at old new host) (places_in unit 0 (λ x. true) (instances_at new unit))

-- what scores say of a host
abbrev pub charges_in : List Score → ℕ → ℕ
charges_in scores host = sum_by (λ (m : Score). if m.host == host then m.charges else 0) scores

abbrev pub merits_in : List Score → ℕ → ℕ
merits_in scores host = sum_by (λ (m : Score). if m.host == host then m.merits else 0) scores

abbrev pub credits_in : List Score → ℕ → ℕ
credits_in scores host = sum_by (λ (m : Score). if m.host == host then m.credit else 0) scores
