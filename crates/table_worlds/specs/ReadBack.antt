-- Rule. Accounts, applications, versions, workunits, hosts and instances, read back from the columns of their rows.
use Rattle.std.specs.Prelude.{ℕ, pos, Bool, eqb, ◌==◌, if◌then◌else◌, List, [], Option, Some, None, option_map, unwrap_or}
use Rattle.std.specs.List.{slice_split}
use Rattle.sched_book.specs.Places.{nth}
use Rattle.sched_book.specs.declared.rows.Account.{Account}
use Rattle.sched_book.specs.declared.rows.Agreement.{Agreement}
use Rattle.sched_book.specs.declared.rows.Agreement.TheVariants.{Exact, Within}
use Rattle.sched_book.specs.declared.rows.App.{App}
use Rattle.sched_book.specs.declared.rows.ClassRule.{ClassRule}
use Rattle.sched_book.specs.declared.rows.ClassRule.TheVariants.{Any, OfFirst, Only}
use Rattle.sched_book.specs.declared.rows.HostRow.{HostRow}
use Rattle.sched_book.specs.declared.rows.Version.{Version}
use Rattle.sched_book.specs.declared.rows.Workunit.{Workunit}
use Rattle.sched_book.specs.declared.instance.Instance.{Instance as Job}
use Rattle.sched_book.specs.declared.instance.Outcome.{Outcome}
use Rattle.sched_book.specs.declared.instance.Owner.{Owner}
use Rattle.sqlite_value.specs.declared.value.Value.{Value}
use Rattle.sqlite_value.specs.declared.value.Value.TheVariants.{Int, Text}
use Rattle.sqlite_value.specs.Order.{Row, bytes, column}
use Rattle.table_meaning.specs.Codes.{lapse_in}
use Rattle.table_meaning.specs.Kept.{number_of}

-- ---- the values in columns

-- the number and the text in a column
abbrev pub number_at : Row → ℕ → ℕ
number_at row at = number_of (column row at)

abbrev pub text_at : Row → ℕ → List ℕ
text_at row at = bytes (column row at)

-- a number or none
abbrev pub number_or_none : Value → Option ℕ
number_or_none (Int (pos n)) = Some n
number_or_none other = None

-- a text or none
abbrev pub text_or_none : Value → Option (List ℕ)
text_or_none (Text t) = Some t
text_or_none other = None

-- ---- accounts and applications

-- the account of a row
abbrev pub account_in : Row → Account
account_in row = record { authenticator = text_at row 1; name = text_at row 2 }

-- the agreement of a limit
abbrev pub agreement_in : Option ℕ → Agreement
agreement_in None = Exact
agreement_in (Some n) = Within n

-- the application of a row
abbrev pub app_in : Row → App
app_in row = record { name = text_at row 1; agreement = agreement_in (number_or_none (column row 2)) }

-- ---- versions and workunits, for these applications

-- the name of the application at a place
abbrev pub app_name_at : List App → ℕ → List ℕ
app_name_at apps at = unwrap_or (option_map (λ (a : App). a.name) (nth apps at)) []

-- the version of a row, with the class of another row
abbrev pub version_in : List App → Row → Row → Version
version_in apps row class = record { app = app_name_at apps (number_at row 1); platform = text_at row 2; version_num = number_at row 3; class = text_at class 1 }

-- the rule of a marked workunit with this class, or with none
abbrev pub rule_marked : Option (List ℕ) → ClassRule
rule_marked None = OfFirst
rule_marked (Some class) = Only class

-- the rule in a row of marks
abbrev pub rule_in : Row → ClassRule
rule_in mark = if number_at mark 1 == 0 then Any else rule_marked (text_or_none (column mark 2))

-- the workunit of a row, with the rule of its mark
abbrev pub unit_in : List App → Row → Row → Workunit
unit_in apps row mark = record {
  name = text_at row 1;
  app = app_name_at apps (number_at row 2);
  min_quorum = number_at row 3;
  target_nresults = number_at row 4;
  max_error_results = number_at row 5;
  max_total_results = number_at row 6;
  max_success_results = number_at row 7;
  delay_bound = number_at row 8;
  rsc_fpops_est = number_at row 9;
  rsc_memory_bound = number_at row 10;
  rsc_disk_bound = number_at row 11;
  credit = number_at row 12;
  class_rule = rule_in mark;
}

-- ---- hosts

-- a byte is a comma
abbrev pub is_comma : ℕ → Bool
is_comma b = eqb b 44

-- the host of a row
abbrev pub host_in : Row → HostRow
host_in row = record {
  account = number_at row 1;
  cpid = text_at row 2;
  platforms = slice_split is_comma (text_at row 3);
  p_fpops = number_at row 4;
  m_nbytes = number_at row 5;
  d_free = number_at row 6;
  quota = number_at row 7;
}

-- ---- instances

-- the host that it was sent to, the moment of sending and the deadline
abbrev pub owner_in : Option ℕ → ℕ → ℕ → Option Owner
owner_in None sent deadline = None
owner_in (Some host) sent deadline = Some (record { host = host; sent = sent; deadline = deadline })

-- the report: its code, its output and its place
abbrev pub report_in : Option ℕ → List ℕ → Option ℕ → Option Outcome
report_in None output place = None
report_in (Some code) output place = Some (record { success = code == 1; output = output; place = place })

-- the instance of a row
abbrev pub job_in : Row → Job
job_in row = record {
  owner = owner_in (number_or_none (column row 2)) (number_at row 3) (number_at row 4);
  lapse = lapse_in (number_at row 5);
  report = report_in (number_or_none (column row 6)) (text_at row 7) (number_or_none (column row 8));
}
