-- Rule. What holds of every statement.
use Rattle.std.specs.Prelude.{◌≡◌, ◌≤◌, All, ℕ, ◌*◌, ◌++◌, ◌∷◌, length, None, pos}
use Rattle.jiff.specs.Words.{civil_nanos, date_text, time_text}
use Rattle.jiff_core.specs.declared.civil.datetime.DateTime.{DateTime}
use Rattle.sched_book.specs.Places.{owned_by, host_credit}
use Rattle.sched_book.specs.Sound.{Sound}
use Rattle.sched_book.specs.declared.world.World.{World}
use Rattle.office_files.specs.Civil.{civil_text, last_civil}
use Rattle.office_files.specs.Statements.{lines_at, total_credit}
use Rattle.office_files.specs.declared.statement.line.StatementLine.{StatementLine}

-- each instance that the host was given has its line, and the last line has the host's credit
pub record IsWhole (w : World) (host : ℕ) : Type 0 where
  pub each : length (lines_at w (owned_by w host)) ≡ length (owned_by w host)
  pub credit : total_credit (lines_at w (owned_by w host)) ≡ host_credit w host

abbrev pub StatementsAreWhole : Type 0
StatementsAreWhole = (w : World) (host : ℕ) → IsWhole w host

-- in a sound world each moment of a line has a text, so no statement is refused
abbrev pub HaveTexts : StatementLine → Type 0
HaveTexts line = (line.sent ≤ last_civil) × (line.deadline ≤ last_civil)

abbrev pub MomentsHaveTexts : Type 0
MomentsHaveTexts = (w : World) (host : ℕ) → Sound w → All HaveTexts (lines_at w (owned_by w host))

-- the text of a moment is that of its date and time
abbrev pub CivilTextsAreDates : Type 0
CivilTextsAreDates =
    (civil : DateTime) (moment : ℕ) → civil_nanos civil ≡ pos (moment * 1_000_000_000)
    → date_text civil.date ++ 32 ∷ time_text None civil.time ≡ civil_text moment
