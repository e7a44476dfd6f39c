-- Words. Good reports with the votes that they have among the first of them.
use Rattle.std.specs.Prelude.{◌≡◌, ℕ, ◌+◌, ◌≤◌, ◌==◌, max, Bool, nat_le, List, length, take, map, fold, find, Option, Some, None, is_some, option_map, if◌then◌else◌, ℤ}
use Rattle.std.specs.Int.{from_bool}
use Rattle.std.specs.List.{All, Contains}
use Rattle.sched_book.specs.Alike.{first_alike, AreFirsts}
use Rattle.sched_book.specs.Count.{output_of, votes}
use Rattle.sched_book.specs.Near.{number_in, AreRising}
use Rattle.sched_book.specs.WholeNumbers.{are_within}
use Rattle.sched_book.specs.declared.ballots.Ballot.{Ballot}
use Rattle.sched_book.specs.declared.ballots.Tally.{Tally}
use Rattle.sched_book.specs.declared.instance.Instance.{Instance}
use Rattle.sched_book.specs.declared.outputs.Outputs.{Outputs}
use Rattle.sched_book.specs.declared.rows.Agreement.{Agreement}

-- the report that stands for report i, which is one of these: itself, if its output is compared as a whole number, and else
-- the first with its output
abbrev pub stands_for : Agreement → List Instance → List ℕ → ℕ → ℕ
stands_for a xs reports i = if is_some (number_in a (output_of xs i)) then i else first_alike xs reports i

-- Two outputs agree, if these are the reports that stand for theirs and the whole numbers as which they are compared. Equal
-- texts are equal numbers, so the texts of two numbers need no comparison.
abbrev pub agree_by : ℕ → ℕ → Option ℤ → ℕ → Option ℤ → Bool
agree_by d i None j n = i == j
agree_by d i (Some m) j None = i == j
agree_by d i (Some m) j (Some n) = are_within d (Some m) (Some n)

-- the ballot of report i, which is one of these
abbrev pub ballot_of : Agreement → List Instance → List ℕ → (ℕ → ℕ) → ℕ → Ballot
ballot_of a xs reports votes_of i =
    record { number = i; first = stands_for a xs reports i; value = number_in a (output_of xs i); votes = votes_of i }

-- a ballot agrees with a voter
abbrev pub agrees_with : ℕ → Ballot → Ballot → Bool
agrees_with d voter b = agree_by d b.first b.value voter.first voter.value

-- a ballot, once this voter was counted: it has one vote more if the two agree
abbrev pub voted : ℕ → Ballot → Ballot → Ballot
voted d voter b =
    record { number = b.number; first = b.first; value = b.value; votes = b.votes + from_bool (agrees_with d voter b) }

-- the ballots of the first n of these reports, with the votes among them
abbrev pub ballots_at : Agreement → List Instance → List ℕ → ℕ → List Ballot
ballots_at a xs reports n = map (ballot_of a xs reports (votes a xs (take n reports))) (take n reports)

-- the most votes that one of these has
abbrev pub most_votes : List Ballot → ℕ
most_votes ballots = fold (λ most b. max most b.votes) 0 ballots

-- the first report with enough votes
abbrev pub leader_by : ℕ → List Ballot → Option ℕ
leader_by enough ballots = option_map (λ b. b.number) (find (λ b. nat_le enough b.votes) ballots)

-- numbers in order; among them is each as which the output of one of these reports is compared
pub record AreNumbersOf (a : Agreement) (xs : List Instance) (reports : List ℕ) (numbers : List ℤ) : Type 0 where
  pub rising : AreRising numbers
  pub all : All (λ i. (m : ℤ) → number_in a (output_of xs i) ≡ Some m → Contains numbers m) reports

-- the outputs of the first n of these reports
pub record AreOutputsOf (a : Agreement) (xs : List Instance) (reports : List ℕ) (n : ℕ) (outputs : Outputs) : Type 0 where
  pub firsts : AreFirsts a xs (take n reports) outputs.firsts.numbers.items
  pub few_firsts : length outputs.firsts.numbers.items ≤ n
  pub numbers : AreNumbersOf a xs (take n reports) outputs.numbers.numbers.items
  pub few_numbers : length outputs.numbers.numbers.items ≤ n

-- what a tally holds, once the first n of these reports have joined
pub record IsTallyOf (a : Agreement) (xs : List Instance) (reports : List ℕ) (n : ℕ) (tally : Tally) : Type 0 where
  pub outputs : AreOutputsOf a xs reports n tally.outputs
  pub ballots : tally.ballots.items ≡ ballots_at a xs reports n
  pub most : tally.most_votes ≡ most_votes tally.ballots.items
