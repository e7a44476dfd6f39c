-- Words. Schemas without the things that are not compared: no default, no CHECK and no view.
use Rattle.std.specs.Prelude.{◌≡◌, List, []}
use Rattle.sqlite_value.specs.declared.value.Value.TheVariants.{Null}
use Rattle.sqlite_rules.specs.Lists.{Has}
use Rattle.sqlite_schema.specs.declared.schema.Column.{Column}
use Rattle.sqlite_schema.specs.declared.schema.Schema.{Schema}
use Rattle.sqlite_schema.specs.declared.schema.Table.{Table}

-- each member passes
abbrev pub Each : {X : Type 0} → (X → Type 0) → List X → Type 0
Each {X} P xs = (x : X) → Has xs x → P x

abbrev pub HasNoDefault : Column → Type 0
HasNoDefault c = c.default ≡ Null

-- no CHECK and no computed default
pub record IsBare (t : Table) : Type 0 where
  pub checks : t.checks ≡ []
  pub computed : t.computed ≡ []
  pub stamps : t.stamps ≡ record { places = []; terms = []; formats = [] }

abbrev pub IsPlainTable : Table → Type 0
IsPlainTable t = IsBare t × Each HasNoDefault t.columns

abbrev pub IsPlain : Schema → Type 0
IsPlain s = (s.views ≡ []) × Each IsPlainTable s.tables
