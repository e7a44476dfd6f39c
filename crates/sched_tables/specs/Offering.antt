-- Words. Workunits as they are offered.
use Rattle.std.specs.Prelude.{◌≡◌, ℕ, Option, None, Some}
use Rattle.sched_book.specs.Desk.{workunit_at}
use Rattle.sched_book.specs.declared.desk.Candidate.{Candidate}
use Rattle.sched_book.specs.declared.world.World.{World}
use Rattle.sched_book.specs.Skipping.{IsHadBy}

-- the workunit of a candidate is the one at its place
abbrev pub IsCandidateOf : World → Candidate → Type 0
IsCandidateOf w c = workunit_at w c.place.unit ≡ Some c.unit

-- the candidate may be left out for the user of the account, if one is named
abbrev pub MaySkip : World → Option ℕ → Candidate → Type 0
MaySkip w None c = ⊥
MaySkip w (Some account) c = IsHadBy w account c
