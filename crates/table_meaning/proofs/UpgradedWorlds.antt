-- An upgrade keeps the world that the tables hold.
use Rattle.std.proofs.Common.{◌≡◌, ◌≢◌, ◌+◌, ◌-◌, ◌≤◌, ℕ, zero, suc, Bool, true, false, cond, List, codes, Option, Some, None, option_map, option_and_then, refl, sym, ap, subst, ◌∙◌, inl, inr, true≢false, arith}
use Rattle.std.specs.Prelude.{◌==◌}
use Rattle.std.specs.List.{All}
use Rattle.sched_book.specs.Former.{IsUnclassed}
use Rattle.sched_book.specs.Classes.{class_of}
use Rattle.std.proofs.lemmas.List.Elements.{recursion_from_All}
use Rattle.std.proofs.lemmas.Option.{none-some}
use Rattle.sqlite_keyed.proofs.ListLemmas.{all-slice_get}
use Rattle.sched_book.specs.Places.{nth, unit_at}
use Rattle.sched_book.proofs.PlacesOf.{nth-suc}
use Rattle.sched_book.specs.declared.instance.UnitBook.{UnitBook}
use Rattle.sched_book.specs.declared.rows.ClassRule.{ClassRule}
use Rattle.sched_book.specs.declared.rows.ClassRule.TheVariants.{Any}
use Rattle.sched_book.specs.declared.rows.Version.{Version as Runs}
use Rattle.sched_book.specs.declared.world.World.{World}
use Rattle.sqlite.specs.Effect.{Database}
use Rattle.sqlite.specs.State.{State}
use Rattle.table_meaning.specs.declared.rows.StoredRow.TheVariants as stored
use Rattle.table_meaning.specs.Schema.{newest}
use Rattle.table_meaning.specs.Rows.{columns_of, RowKey, setting_key, kept_key, class_key, mark_key, table_at, same_row_key}
use Rattle.table_meaning.specs.Schemas.{IsSchema, IsEarlier, has_table}
use Rattle.table_meaning.specs.Holding.{Contents, Hold, with_row}
use Rattle.table_meaning.specs.Worlds.{BatchText, SlotCalls, version_row, unit_row, call_row, class_row, mark_row, is_marked, contents_of, HoldWorld}
use Rattle.table_meaning.specs.Fills.{platform_class, no_mark}
use Rattle.table_meaning.specs.Upgrades.{schema_row_of, next_contents, MakesNext, Goes, Upgrades, IsLeftBehind, StaysOrUpgrades, HoldWorldAt, FitsSchema, CarriesWorld, UpgradesWorld, IsLeftBehindWorld, StaysOrGoesWorld}
use Rattle.table_meaning.proofs.Keys.{one_key}
use Rattle.table_meaning.proofs.SchemaTables.{hold_at_same, hold_newest}

abbrev Batches : Type 0
Batches = List ℕ → List ℕ → Option BatchText

-- contents that agree at each key
pub hold_same : (db : Database) (one other : Contents) → ((key : RowKey) → one key ≡ other key) → Hold db one → Hold db other
hold_same db one other same holds = record { known = holds.known; rows = λ key. holds.rows key ∙ ap (option_map columns_of) (same key); keyed = holds.keyed }

-- ---- each step and the world

module _ (w : World) (calls : SlotCalls) (batches : Batches) where
  -- what tables of a schema hold of it
  abbrev at : ℕ → Contents
  at n = with_row (contents_of w calls batches) (schema_row_of n)

  -- the setting is that of the next schema, and each other is as it was
  setting_same : (n : ℕ) (name : List ℕ) → cond (same_row_key (setting_key name) (setting_key (codes "schema"))) (Some (schema_row_of (n + 1))) (at n (setting_key name)) ≡ at (n + 1) (setting_key name)
  setting_same n name =
      elim (same_row_key (setting_key name) (setting_key (codes "schema"))) as (λ is. cond is (Some (schema_row_of (n + 1))) (cond is (Some (schema_row_of n)) (contents_of w calls batches (setting_key name)))
      ≡ cond is (Some (schema_row_of (n + 1))) (contents_of w calls batches (setting_key name))) [ true ↦ refl | false ↦ refl ]

  -- to the second schema, if only the first slots are used
  second_same : ((host slot : ℕ) → slot ≢ 0 → calls host slot ≡ None) → (key : RowKey) → has_table 2 (table_at key) ≡ true → next_contents 1 (λ host. calls host 0) (at 1) key ≡ at 2 key
  second_same others (setting_key name) is = setting_same 1 name
  second_same others (kept_key host slot) is = slots slot
    where
      slots : (s : ℕ) → cond (s == 0) (option_map (λ k. stored.Kept (call_row host s k)) (calls host 0)) None ≡ option_map (λ k. stored.Kept (call_row host s k)) (calls host s)
      slots zero = refl
      slots (suc s) = let past : (suc s == 0) ≡ false = grind arith in rw past (sym (ap (option_map (λ k. stored.Kept (call_row host (suc s) k))) (others host (suc s) (λ same. omega (arith, same)))))
  second_same others (class_key id) is = absurd (true≢false (sym is))
  second_same others (mark_key id) is = absurd (true≢false (sym is))
  second_same others _ is = refl

  at_place : {X : Type 0} (P : X → Type 0) (xs : List X) → All P xs → (n : ℕ) (x : X) → nth xs n ≡ Some x → P x
  at_place P xs all zero x is = absurd (none-some _ is)
  at_place P xs all (suc n) x is = all-slice_get P xs n x (sym (nth-suc xs n) ∙ is) (recursion_from_All P xs all)

  module _ (unclassed : IsUnclassed w) where
    class_same : (id : ℕ) (o : Option Runs) → nth w.versions id ≡ o → option_and_then (platform_class id) (option_map (λ v. stored.Version (version_row w id v)) o) ≡ option_map (λ v. stored.VersionClass (class_row id v)) o
    class_same id None is = refl
    class_same id (Some v) is = ap (λ class. Some (stored.VersionClass (record { version_id = id; class = class }))) (sym (at_place (λ (u : Runs). u.class ≡ u.platform) w.versions unclassed.versions id v is))

    mark_same : (id : ℕ) (o : Option UnitBook) → unit_at w id ≡ o → option_map (λ _. no_mark id) (option_map (λ b. stored.Unit (unit_row w id b)) o) ≡ option_map (λ b. stored.UnitMark (mark_row id b)) o
    mark_same id None is = refl
    mark_same id (Some b) is =
        ap (λ (rule : ClassRule). Some (stored.UnitMark (record { unit_id = id; marked = is_marked rule; class = class_of rule }))) (sym (at_place (λ (u : UnitBook). u.unit.class_rule ≡ Any) w.units unclassed.units id b is))

    -- to the third
    third_same : (key : RowKey) → has_table 3 (table_at key) ≡ true → next_contents 2 (λ host. calls host 0) (at 2) key ≡ at 3 key
    third_same (setting_key name) is = setting_same 2 name
    third_same (class_key id) is = class_same id (nth w.versions id) refl
    third_same (mark_key id) is = mark_same id (unit_at w id) refl
    third_same _ is = refl

  next_same : (n : ℕ) → IsEarlier n → FitsSchema n w → (n ≡ 1 → (host slot : ℕ) → slot ≢ 0 → calls host slot ≡ None) → (key : RowKey) → has_table (n + 1) (table_at key) ≡ true
      → next_contents n (λ host. calls host 0) (at n) key ≡ at (n + 1) key
  next_same zero earlier fits others = absurd (omega (arith, earlier.0))
  next_same (suc zero) earlier fits others = second_same (others refl)
  next_same (suc (suc zero)) earlier fits others = third_same (fits (omega arith))
  next_same (suc (suc (suc n))) earlier fits others = absurd (omega (arith, earlier.1))

carries_next : (n : ℕ) → IsEarlier n → (old new : Database) → MakesNext n old new → CarriesWorld n (n + 1) old new
carries_next n earlier old new makes w calls batches fits holds = record {
  held = hold_at_same (n + 1) new _ _ (next_same w calls batches n earlier fits (λ one. (holds.kept one).1)) (makes _ (λ host. calls host 0) (record { held = holds.held; kept = λ one. (holds.kept one).0 }));
  kept = λ one. absurd (omega (arith, one, earlier.0));
}

-- ---- several steps

goes_world : (n k : ℕ) → IsSchema n → n + k ≤ newest → (old new : Database) → Goes n k old new → CarriesWorld n (n + k) old new
goes_world n zero is within old new goes w calls batches fits holds =
    let same : n ≡ n + zero = omega arith in
    subst (λ m. HoldWorldAt m new w calls batches) same (subst (λ db. HoldWorldAt n db w calls batches) (sym goes) holds)
goes_world n (suc k) is within old new goes w calls batches fits holds =
    let earlier : IsEarlier (n + k) = (omega (arith, is.0), omega (arith, within)) in
    let next : n + k + 1 ≡ n + suc k = omega arith in
    let mid = goes_world n k is (omega (arith, within)) old goes.0 goes.1 w calls batches fits holds in
    subst (λ m. HoldWorldAt m new w calls batches) next (carries_next (n + k) earlier goes.0 new goes.2 w calls batches (λ less. fits (omega (arith, less))) mid)

-- tables of the newest schema hold a world as they are
newest_world : (db : Database) (w : World) (calls : SlotCalls) (batches : Batches) → HoldWorldAt newest db w calls batches → HoldWorld db w calls batches
newest_world db w calls batches holds = hold_same db _ _ (λ key. said key (same_row_key key (setting_key (codes "schema"))) refl) (hold_newest db _ holds.held)
  where
    said : (key : RowKey) (is : Bool) → same_row_key key (setting_key (codes "schema")) ≡ is → cond is (Some (schema_row_of newest)) (contents_of w calls batches key) ≡ contents_of w calls batches key
    said key true is = sym (ap (contents_of w calls batches) (one_key key (setting_key (codes "schema")) is))
    said key false other = refl

pub upgrades_world : (old new : Database) → Upgrades old new → UpgradesWorld old new
upgrades_world old new upgrades n is w calls batches fits holds =
    let whole : n + (newest - n) ≡ newest = omega (arith, is.1) in
    let carried = goes_world n (newest - n) is (omega (arith, is.1)) old new (upgrades n is holds.held.known.schema) w calls batches fits holds in
    newest_world new w calls batches (subst (λ m. HoldWorldAt m new w calls batches) whole carried)

-- ---- what a stop or a refusal leaves

pub left_world : (old new : Database) → IsLeftBehind old new → IsLeftBehindWorld old new
left_world old new (n, is, schema, (k, within, goes)) = (n, n + suc k, is, omega arith, within, schema, goes_world n (suc k) is within old new goes)

pub refused_world : (old new : State) → StaysOrUpgrades old new → StaysOrGoesWorld old new
refused_world old new (inl stays) = inl stays
refused_world old new (inr left) = inr (left_world old.now new.committed left.0, left.1)
