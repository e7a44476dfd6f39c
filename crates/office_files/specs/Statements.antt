-- Rule. The statement of a host: what became of each instance that it was ever given, as comma-separated values.
use Rattle.std.specs.Prelude.{ℕ, ◌-◌, ◌/◌, ◌%◌, not, ◌&&◌, ◌||◌, if◌then◌else◌, List, [], ◌∷◌, ◌++◌, sum_by, length, replicate, codes, decimal, Option, Some, None, is_some, option_map, option_and_then, slice_get}
use Rattle.std.specs.List.{filter_map, flat_map}
use Rattle.csv.specs.Writing.{row_text, default_writer}
use Rattle.sched_book.specs.Count.{is_judged, is_valid, verdict}
use Rattle.sched_book.specs.Names.{instance_name}
use Rattle.sched_book.specs.Places.{unit_at, host_at, agreement_of, owned_by, deadline_of}
use Rattle.sched_book.specs.declared.instance.Instance.{Instance}
use Rattle.sched_book.specs.declared.instance.Lapse.{Lapse}
use Rattle.sched_book.specs.declared.instance.Outcome.{Outcome}
use Rattle.sched_book.specs.declared.instance.Owner.{Owner}
use Rattle.sched_book.specs.declared.instance.Place.{Place}
use Rattle.sched_book.specs.declared.instance.Verdict.{Verdict}
use Rattle.sched_book.specs.declared.instance.Verdict.TheVariants.{Valid, Invalid}
use Rattle.sched_book.specs.declared.rows.Agreement.{Agreement}
use Rattle.sched_book.specs.declared.rows.HostRow.{HostRow}
use Rattle.sched_book.specs.declared.rows.Workunit.{Workunit}
use Rattle.sched_book.specs.declared.world.World.{World}
use Rattle.office_files.specs.Civil.{civil_text}
use Rattle.office_files.specs.declared.statement.line.StatementLine.{StatementLine}

-- The numbers of the three states are BOINC's.

-- 5 means over, by a report or a lapse, and 4 in progress
abbrev pub server_state : Instance → ℕ
server_state x = if is_some x.report || is_some x.lapse then 5 else 4

-- 1 means a success and 3 a client error; without a report 4 means no reply, whether late or dropped, and 0 not known yet
abbrev pub outcome_by : Option Outcome → Option Lapse → ℕ
outcome_by (Some report) lapse = if report.success then 1 else 3
outcome_by None lapse = if is_some lapse then 4 else 0

abbrev pub outcome : Instance → ℕ
outcome x = outcome_by x.report x.lapse

-- 1 means valid, 2 invalid, 3 a report that was not judged, and 0 anything else
abbrev pub validate_state_by : Option Verdict → Instance → ℕ
validate_state_by (Some Valid) x = 1
validate_state_by (Some Invalid) x = 2
validate_state_by None x = if is_some x.report && not (is_judged x) then 3 else 0

-- the moment at which it was sent to its host; 0 if it has no owner
abbrev pub sent_of : Option Owner → ℕ
sent_of None = 0
sent_of (Some owner) = owner.sent

-- the millicredits for a result of this verdict
abbrev pub credit_by : Option Verdict → Workunit → ℕ
credit_by v unit = if is_valid v then unit.credit else 0

-- what a line says of an instance with this verdict
abbrev pub line_by : Option Verdict → Workunit → ℕ → Instance → StatementLine
line_by v unit number x = record {
  result = instance_name unit.name number;
  app = unit.app;
  sent = sent_of x.owner;
  deadline = deadline_of x.owner;
  server_state = server_state x;
  outcome = outcome x;
  validate_state = validate_state_by v x;
  credit = credit_by v unit;
}

-- the line of the instance with a number of a workunit, if there is one
abbrev pub line_in : Agreement → Workunit → List Instance → ℕ → Option StatementLine
line_in a unit xs number = option_map (λ x. line_by (verdict a unit xs x) unit number x) (slice_get xs number)

abbrev pub line_at : World → Place → Option StatementLine
line_at w p = option_and_then (λ b. line_in (agreement_of w b) b.unit b.instances p.number) (unit_at w p.unit)

-- the lines of these places, in order; a place with no instance has none
abbrev pub lines_at : World → List Place → List StatementLine
lines_at w places = filter_map (line_at w) places

-- a number in three digits, with zeros in front, and millicredits as credits: 5000 is `5.000`
abbrev pub three_digits : ℕ → List ℕ
three_digits n = replicate (3 - length (decimal n)) 48 ++ decimal n

abbrev pub credit_text : ℕ → List ℕ
credit_text millicredits = decimal (millicredits / 1000) ++ 46 ∷ three_digits (millicredits % 1000)

-- the fields of a line whose moments and credit have these texts
abbrev pub fields_with : StatementLine → List ℕ → List ℕ → List ℕ → List (List ℕ)
fields_with line sent deadline credit =
    line.result ∷ line.app ∷ sent ∷ deadline
    ∷ decimal line.server_state ∷ decimal line.outcome ∷ decimal line.validate_state ∷ credit ∷ []

abbrev pub fields_of_line : StatementLine → List (List ℕ)
fields_of_line line = fields_with line (civil_text line.sent) (civil_text line.deadline) (credit_text line.credit)

abbrev pub header : List (List ℕ)
header =
    codes "result" ∷ codes "app" ∷ codes "sent" ∷ codes "deadline"
    ∷ codes "server_state" ∷ codes "outcome" ∷ codes "validate_state" ∷ codes "credit" ∷ []

-- the last line has the credit of all lines together
abbrev pub total_fields : ℕ → List (List ℕ)
total_fields credit = codes "total" ∷ [] ∷ [] ∷ [] ∷ [] ∷ [] ∷ [] ∷ credit_text credit ∷ []

abbrev pub line_text : StatementLine → List ℕ
line_text line = row_text default_writer (fields_of_line line)

abbrev pub total_credit : List StatementLine → ℕ
total_credit lines = sum_by (λ (line : StatementLine). line.credit) lines

-- the text of a statement of these lines
abbrev pub text_of_lines : List StatementLine → List ℕ
text_of_lines lines =
    row_text default_writer header ++ flat_map line_text lines ++ row_text default_writer (total_fields (total_credit lines))

-- the statement of the host of a number, if there is such a host
abbrev pub statement_of : World → ℕ → Option (List ℕ)
statement_of w host = option_map (λ (h : HostRow). text_of_lines (lines_at w (owned_by w host))) (host_at w host)
