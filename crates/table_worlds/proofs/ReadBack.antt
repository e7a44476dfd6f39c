-- Accounts, applications, versions, workunits, hosts and instances are what is read back from the columns of their rows.
use Rattle.std.proofs.Common.{◌≡◌, ◌≤◌, ℕ, pos, Bool, true, false, List, length, Option, Some, None, option_map, refl}
use Rattle.std.specs.Prelude.{All, ◌==◌, if◌then◌else◌, option_and_then}
use Rattle.sched_book.specs.Classes.{class_of}
use Rattle.sched_book.specs.Imports.{has_app}
use Rattle.sched_book.specs.declared.rows.Account.{Account}
use Rattle.sched_book.specs.declared.rows.Agreement.{Agreement}
use Rattle.sched_book.specs.declared.rows.Agreement.TheVariants.{Exact, Within}
use Rattle.sched_book.specs.declared.rows.App.{App}
use Rattle.sched_book.specs.declared.rows.ClassRule.{ClassRule}
use Rattle.sched_book.specs.declared.rows.ClassRule.TheVariants.{Any}
use Rattle.sched_book.specs.declared.rows.HostRow.{HostRow}
use Rattle.sched_book.specs.declared.rows.Version.{Version}
use Rattle.sched_book.specs.declared.instance.Instance.{Instance as Job}
use Rattle.sched_book.specs.declared.instance.Outcome.{Outcome}
use Rattle.sched_book.specs.declared.instance.Owner.{Owner}
use Rattle.sched_book.specs.declared.instance.UnitBook.{UnitBook}
use Rattle.sched_book.specs.declared.world.World.{World}
use Rattle.sqlite.specs.Values.{or_null}
use Rattle.sqlite_value.specs.declared.value.Value.TheVariants.{Int, Text}
use Rattle.sqlite_value.specs.Order.{bytes}
use Rattle.table_meaning.specs.declared.rows.StoredRow.TheVariants as stored
use Rattle.table_meaning.specs.Kept.{number_of}
use Rattle.table_meaning.specs.Rows.{columns_of, whole}
use Rattle.table_meaning.specs.Worlds.{is_marked, agreement_limit, account_row, app_row, version_row, class_row, unit_row, mark_row, host_row, instance_row}
use Rattle.table_meaning.proofs.CodesBack.{lapse_back}
use Rattle.table_worlds.specs.ReadBack.{number_or_none, account_in, agreement_in, app_in, version_in, rule_in, unit_in, host_in, owner_in, report_in, job_in}
use Rattle.table_worlds.proofs.AppsNamed.{name_back}
use Rattle.table_worlds.proofs.JoinedWords.{split_joined}
use Rattle.texts.specs.Words.{IsWord}

-- ---- the values in columns

-- a number or none is read back from its column
number_back : (o : Option ℕ) → number_or_none (or_null whole o) ≡ o
number_back None = refl
number_back (Some n) = refl

-- ---- accounts and applications

-- an account is read back from its row
pub account_back : (id : ℕ) (a : Account) → account_in (columns_of (stored.Account (account_row id a))) ≡ a
account_back id a = refl

-- an agreement is read back from its limit
agreement_back : (g : Agreement) → agreement_in (number_or_none (or_null whole (agreement_limit g))) ≡ g
agreement_back Exact = refl
agreement_back (Within n) = refl

-- an application is read back from its row
pub app_back : (id : ℕ) (a : App) → app_in (columns_of (stored.App (app_row id a))) ≡ a
app_back id a = λ i. record { name = a.name; agreement = agreement_back a.agreement i }

-- ---- versions and workunits, for these applications

-- the rule of a workunit is read back from the columns of its mark
rule_back : (id : ℕ) (rule : ClassRule) → rule_in (columns_of (stored.UnitMark (record { unit_id = id; marked = is_marked rule; class = class_of rule }))) ≡ rule
rule_back id Any = refl
rule_back id _ = refl

module _ (apps : List App) (w : World) (are : apps ≡ w.apps) (id : ℕ) where
  -- a version of an application that exists is read back from its row and its class
  pub version_back : (v : Version) → has_app w.apps v.app ≡ true → version_in apps (columns_of (stored.Version (version_row w id v))) (columns_of (stored.VersionClass (class_row id v))) ≡ v
  version_back v has = λ i. record v { app = name_back apps w v.app are has i }

  -- a workunit of an application that exists is read back from its row and its mark
  pub unit_back : (b : UnitBook) → has_app w.apps b.unit.app ≡ true → unit_in apps (columns_of (stored.Unit (unit_row w id b))) (columns_of (stored.UnitMark (mark_row id b))) ≡ b.unit
  unit_back b has = λ i. record b.unit { app = name_back apps w b.unit.app are has i; class_rule = rule_back id b.unit.class_rule i }

-- ---- hosts

-- a host whose platforms are words is read back from its row
pub host_back : (held credit id : ℕ) (h : HostRow) → (1 ≤ length h.platforms) × All IsWord h.platforms → host_in (columns_of (stored.Host (host_row held credit id h))) ≡ h
host_back held credit id h words = λ i. record h { platforms = split_joined h.platforms words i }

-- ---- instances

-- an owner or none is read back from its three columns
owner_back : (o : Option Owner)
    → owner_in (number_or_none (or_null whole (option_map (λ (o : Owner). o.host) o))) (number_of (or_null Int (option_map (λ (o : Owner). pos o.sent) o))) (number_of (or_null Int (option_map (λ (o : Owner). pos o.deadline) o))) ≡ o
owner_back None = refl
owner_back (Some o) = refl

-- a success is read back from its code
success_back : (success : Bool) → ((if success then 1 else 3) == 1) ≡ success
success_back true = refl
success_back false = refl

-- a report or none is read back from its three columns
report_back : (r : Option Outcome)
    → report_in (number_or_none (or_null whole (option_map (λ (r : Outcome). if r.success then 1 else 3) r))) (bytes (or_null Text (option_map (λ (r : Outcome). r.output) r))) (number_or_none (or_null whole (option_and_then (λ (r : Outcome). r.place) r))) ≡ r
report_back None = refl
report_back (Some r) = λ i. Some (record { success = success_back r.success i; output = r.output; place = number_back r.place i })

-- an instance is read back from its row
pub job_back : (w : World) (b : UnitBook) (unit num : ℕ) (x : Job) → job_in (columns_of (stored.Instance (instance_row w b unit num x))) ≡ x
job_back w b unit num x = λ i. record { owner = owner_back x.owner i; lapse = lapse_back x.lapse i; report = report_back x.report i }
