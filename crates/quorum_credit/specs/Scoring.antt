-- Words. The scores of workunits after changes, in the order in which they are made: by workunit, and by instance.
use Rattle.std.specs.Prelude.{ℕ, ◌+◌, ◌==◌, ◌&&◌, if◌then◌else◌, List, [], ◌∷◌, ◌++◌, map, Option, None, Some, option_map, option_and_then, unwrap_or, slice_get}
use Rattle.sched_book.specs.Count.{verdict}
use Rattle.sched_book.specs.Places.{unit_at, agreement_of}
use Rattle.sched_book.specs.declared.instance.Instance.{Instance}
use Rattle.sched_book.specs.declared.instance.UnitBook.{UnitBook}
use Rattle.sched_book.specs.declared.instance.Verdict.{Verdict}
use Rattle.sched_book.specs.declared.rows.Agreement.{Agreement}
use Rattle.sched_book.specs.declared.rows.Workunit.{Workunit}
use Rattle.sched_book.specs.declared.world.World.{World}
use Rattle.quorum_credit.specs.Scores.{standing_with, no_standing, charges_between, merits_between, credit_between, unit_credit}
use Rattle.quorum_credit.specs.declared.scores.Score.{Score}
use Rattle.quorum_credit.specs.declared.scores.OwnedStanding.{OwnedStanding}
use Rattle.quorum_credit.specs.declared.scores.Standing.{Standing}

-- an instance's owner, and its standing with this verdict
abbrev pub owned_standing : Option Verdict → Instance → OwnedStanding
owned_standing v x = record { owner = x.owner; standing = standing_with v x }

-- the same of the instances of a workunit
abbrev pub standings_in : Agreement → Workunit → List Instance → List OwnedStanding
standings_in a u xs = map (λ x. owned_standing (verdict a u xs x) x) xs

-- the same of the workunit at a place; none if there is no workunit
abbrev pub standings_at : World → ℕ → List OwnedStanding
standings_at w unit = unwrap_or (option_map (λ (b : UnitBook). standings_in (agreement_of w b) b.unit b.instances) (unit_at w unit)) []

-- the standing of the instance of a number
abbrev pub standing_of : List OwnedStanding → ℕ → Standing
standing_of rows number = unwrap_or (option_map (λ (s : OwnedStanding). s.standing) (slice_get rows number)) no_standing

-- what is new of an instance of this host, in a workunit of this credit
abbrev pub score_between : ℕ → ℕ → Standing → Standing → Score
score_between credit host old new = record {
  host = host;
  charges = charges_between old new;
  merits = merits_between old new;
  credit = credit_between credit old new;
}

-- the score, if it counts anything
abbrev pub score_if_new : Score → Option Score
score_if_new m = if (m.charges == 0) && (m.merits == 0) then None else Some m

-- what is new of an instance in a workunit of this credit; none if it has no owner or nothing is new
abbrev pub score_of : ℕ → Standing → OwnedStanding → Option Score
score_of credit old s = option_and_then (λ o. score_if_new (score_between credit o.host old s.standing)) s.owner

-- scores after another one, if there is one
abbrev pub with_score : Option Score → List Score → List Score
with_score None scores = scores
with_score (Some m) scores = m ∷ scores

-- the scores of the instances of a workunit of this credit; the first instance has the number `number`
abbrev pub scores_from : ℕ → List OwnedStanding → ℕ → List OwnedStanding → List Score
scores_from credit old number [] = []
scores_from credit old number (s ∷ new) = with_score (score_of credit (standing_of old number) s) (scores_from credit old (number + 1) new)

-- the scores of the workunit at a place
abbrev pub scores_at : World → World → ℕ → List Score
scores_at old new unit = scores_from (unit_credit new unit) (standings_at old unit) 0 (standings_at new unit)

-- the scores of these workunits
abbrev pub scores_of_units : World → World → List ℕ → List Score
scores_of_units old new [] = []
scores_of_units old new (unit ∷ units) = scores_at old new unit ++ scores_of_units old new units
