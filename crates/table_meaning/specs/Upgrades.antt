-- Rule. What an upgrade makes of tables of each earlier schema. The call that the first schema keeps of a host goes into its first slot. The class of a
-- version is its platform. No workunit is marked.
use Rattle.std.specs.Prelude.{◌≡◌, ◌≢◌, ◌⊎◌, ℕ, zero, suc, ◌+◌, ◌-◌, ◌≤◌, ◌<◌, List, fold, codes, Option, None}
use Rattle.sqlite.specs.Effect.{Database}
use Rattle.sqlite.specs.State.{State}
use Rattle.sched_book.specs.Former.{IsUnclassed}
use Rattle.sched_book.specs.declared.world.World.{World}
use Rattle.table_meaning.specs.declared.rows.SettingValue.TheVariants.{Number}
use Rattle.table_meaning.specs.declared.rows.StoredRow.{StoredRow}
use Rattle.table_meaning.specs.declared.rows.StoredRow.TheVariants.{Setting}
use Rattle.table_meaning.specs.Schema.{newest, schema_at}
use Rattle.table_meaning.specs.Holding.{Contents, with_row}
use Rattle.table_meaning.specs.Worlds.{BatchText, SlotCalls, contents_of, HoldWorld}
use Rattle.table_meaning.specs.Schemas.{IsSchema, HoldAt, only_at}
use Rattle.table_meaning.specs.Fills.{fills_of, HostCalls, KeepCalls, with_inserted}

-- the row that names the schema of the tables
abbrev pub schema_row_of : ℕ → StoredRow
schema_row_of n = Setting (record { name = codes "schema"; value = Number n })

-- If these tables of a schema held some contents, they now hold them with that row put.
abbrev pub PutsSchema : ℕ → Database → Database → Type 0
PutsSchema n old new = (contents : Contents) → HoldAt n old contents → HoldAt n new (with_row contents (schema_row_of n))

-- ---- what tables of a schema hold

-- All that tables of a schema hold: exactly these contents, and exactly these calls if the schema is the first.
pub record HoldAllAt (n : ℕ) (db : Database) (contents : Contents) (calls : HostCalls) : Type 0 where
  pub held : HoldAt n db contents
  pub kept : n ≡ 1 → KeepCalls db.trees calls

-- ---- one step, and several

-- What tables of the next schema hold, from what those of a schema hold. A table that the next one adds and that no fill fills is empty.
abbrev pub next_contents : ℕ → HostCalls → Contents → Contents
next_contents n calls contents = with_row (fold (with_inserted calls) (only_at n contents) (fills_of n)) (schema_row_of (n + 1))

-- one step, from tables of the schema of a number to those of the next
abbrev pub MakesNext : ℕ → Database → Database → Type 0
MakesNext n old new = (contents : Contents) (calls : HostCalls) → HoldAllAt n old contents calls → HoldAt (n + 1) new (next_contents n calls contents)

-- `k` steps, one after another, from the schema of number `n`
abbrev pub Goes : (n k : ℕ) → Database → Database → Type 0
Goes n zero old new = new ≡ old
Goes n (suc k) old new = (mid : Database) × Goes n k old mid × MakesNext (n + k) mid new

-- Tables of any schema have become those of the newest, step by step.
abbrev pub Upgrades : Database → Database → Type 0
Upgrades old new = (n : ℕ) → IsSchema n → old.schema ≡ schema_at n → Goes n (newest - n) old new

-- What a stop may leave of an upgrade from a schema, if not the tables as they were: tables of some later schema, made step by step.
abbrev pub IsLeftFrom : ℕ → Database → Database → Type 0
IsLeftFrom n old new = (k : ℕ) × (n + suc k ≤ newest) × Goes n (suc k) old new

abbrev pub IsLeftBehind : Database → Database → Type 0
IsLeftBehind old new = (n : ℕ) × IsSchema n × (old.schema ≡ schema_at n) × IsLeftFrom n old new

-- What a refusal leaves: everything is as it was, or the tables have a later schema, and that is committed.
abbrev pub StopsBetween : ℕ → State → State → Type 0
StopsBetween n old new = ((new.now ≡ old.now) × (new.committed ≡ old.committed)) ⊎ (IsLeftFrom n old.now new.committed × (new.now ≡ new.committed))

abbrev pub StaysOrUpgrades : State → State → Type 0
StaysOrUpgrades old new = ((new.now ≡ old.now) × (new.committed ≡ old.committed)) ⊎ (IsLeftBehind old.now new.committed × (new.now ≡ new.committed))

-- ---- the same for worlds

-- The tables of a schema hold this world, with these calls by host and slot and these batches by kind and name. Those of the first schema have one slot.
pub record HoldWorldAt (n : ℕ) (db : Database) (w : World) (calls : SlotCalls) (batches : List ℕ → List ℕ → Option BatchText) : Type 0 where
  pub held : HoldAt n db (with_row (contents_of w calls batches) (schema_row_of n))
  pub kept : n ≡ 1 → KeepCalls db.trees (λ host. calls host 0) × ((host slot : ℕ) → slot ≢ 0 → calls host slot ≡ None)

-- Tables of a schema before the third hold only such a world: the class of each version is its platform, and no workunit is marked.
abbrev pub FitsSchema : ℕ → World → Type 0
FitsSchema n w = n < 3 → IsUnclassed w

-- Any world that tables of one schema held is held by these of another one.
abbrev pub CarriesWorld : (n m : ℕ) → Database → Database → Type 0
CarriesWorld n m old new = (w : World) (calls : SlotCalls) (batches : List ℕ → List ℕ → Option BatchText) → FitsSchema n w → HoldWorldAt n old w calls batches → HoldWorldAt m new w calls batches

-- Any world that tables of any schema held is held by these of the newest.
abbrev pub UpgradesWorld : Database → Database → Type 0
UpgradesWorld old new = (n : ℕ) → IsSchema n → (w : World) (calls : SlotCalls) (batches : List ℕ → List ℕ → Option BatchText) → FitsSchema n w → HoldWorldAt n old w calls batches
    → HoldWorld new w calls batches

-- what a stop may leave, and what a refusal may leave
abbrev pub IsLeftBehindWorld : Database → Database → Type 0
IsLeftBehindWorld old new = (n : ℕ) × (m : ℕ) × IsSchema n × (n < m) × (m ≤ newest) × (old.schema ≡ schema_at n) × CarriesWorld n m old new

abbrev pub StaysOrGoesWorld : State → State → Type 0
StaysOrGoesWorld old new = ((new.now ≡ old.now) × (new.committed ≡ old.committed)) ⊎ (IsLeftBehindWorld old.now new.committed × (new.now ≡ new.committed))
