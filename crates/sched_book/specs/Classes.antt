-- Rule. Classes of versions, and the workunits that keep to one. They are this profile's own: neither BOINC's homogeneous
-- redundancy, which has classes of hosts, nor its homogeneous app version.
use Rattle.std.specs.Prelude.{ℕ, Bool, true, false, List, Option, Some, None}
use Rattle.std.specs.Str.{bytes_eq}
use Rattle.sched_book.specs.declared.instance.UnitBook.{UnitBook}
use Rattle.sched_book.specs.declared.rows.ClassRule.{ClassRule}
use Rattle.sched_book.specs.declared.rows.ClassRule.TheVariants.{Any, OfFirst, Only}
use Rattle.sched_book.specs.declared.rows.Version.{Version}
use Rattle.sched_book.specs.declared.rows.Workunit.{Workunit}

-- a version may do a workunit of this rule
abbrev pub suits : ClassRule → Version → Bool
suits Any v = true
suits OfFirst v = true
suits (Only class) v = bytes_eq class v.class

-- the class that a workunit keeps to, if it has one
abbrev pub class_of : ClassRule → Option (List ℕ)
class_of Any = None
class_of OfFirst = None
class_of (Only class) = Some class

-- the rule after a version of a class was granted: with its first one a marked workunit takes the class, and then keeps it
abbrev pub rule_after : ClassRule → List ℕ → ClassRule
rule_after Any class = Any
rule_after OfFirst class = Only class
rule_after (Only own) class = Only own

-- a workunit after a version of a class was granted for it
abbrev pub with_class : List ℕ → UnitBook → UnitBook
with_class class b = record b { unit = record b.unit { class_rule = rule_after b.unit.class_rule class } }

-- the rule that a workunit was imported with
abbrev pub first_rule : ClassRule → ClassRule
first_rule Any = Any
first_rule OfFirst = OfFirst
first_rule (Only class) = OfFirst

-- the row as it was imported
abbrev pub imported : Workunit → Workunit
imported u = record u { class_rule = first_rule u.class_rule }

-- the workunit is to take the class of its first version
abbrev pub is_of_first : ClassRule → Bool
is_of_first Any = false
is_of_first OfFirst = true
is_of_first (Only class) = false
