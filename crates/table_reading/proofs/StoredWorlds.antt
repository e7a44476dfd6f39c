-- The world that rows represent is the one that is read back from them, and there is at most one.
use Rattle.std.proofs.Common.{◌≡◌, ℕ, Bool, true, false, true≢false, List, [], sym, ap, subst, ◌∙◌}
use Rattle.sqlite.specs.Effect.{Database}
use Rattle.sched_book.specs.Places.{overdue}
use Rattle.sched_book.specs.declared.instance.UnitBook.{UnitBook}
use Rattle.sched_book.specs.declared.world.World.{World}
use Rattle.table_meaning.specs.Holding.{AreKnown}
use Rattle.table_meaning.specs.Kept.{calls_in, batches_in}
use Rattle.table_meaning.specs.Worlds.{HoldWorld}
use Rattle.table_rows.specs.Refusing.{IsUnavailable}
use Rattle.table_rows.specs.declared.opening.OpenFault.{OpenFault}
use Rattle.table_rows.specs.declared.opening.OpenFault.TheVariants as fault
use Rattle.table_worlds.specs.RowsOf.{AreOtherRows, having, without_units}
use Rattle.table_worlds.specs.StoredWorld.{world_in}
use Rattle.table_worlds.proofs.StaysReadable.{sound_is_readable}
use Rattle.table_worlds.proofs.WorldReadBack.{held_is_read_back}
use Rattle.table_reading.specs.Reading.{AllRows, AreAllRead, AreTyped, ReadFrom, Represent, RepresentNone, reading_of}
use Rattle.table_reading.specs.declared.rows.Reading.{Reading}
use Rattle.table_reading.proofs.KeptRows.{held_by_rows}
use Rattle.table_reading.proofs.WorldRepresented.{beside_read}

module _ (db : Database) (known : AreKnown db) (all : AllRows) (read : AreAllRead db.trees all) where
  module _ (w : World) (stand : Represent w all) where
    -- the tables hold it, so it is read back from their rows
    pub is_told : world_in db.trees ≡ w
    is_told = held_is_read_back db w _ _ (held_by_rows db w all known read stand) (sound_is_readable w stand.sound)

    pub is_read : ReadFrom db.trees (world_in db.trees)
    is_read = (all, read, subst (λ (v : World). Represent v all) (sym is_told) stand)

    pub is_held : HoldWorld db (world_in db.trees) (calls_in db.trees) (batches_in db.trees)
    is_held = subst (λ (v : World). HoldWorld db v (calls_in db.trees) (batches_in db.trees)) (sym is_told) (held_by_rows db w all known read stand)

    pub settings_told : w.settings ≡ (world_in db.trees).settings
    settings_told = ap (λ (v : World). v.settings) (sym is_told)

    pub apps_told : w.apps ≡ (world_in db.trees).apps
    apps_told = ap (λ (v : World). v.apps) (sym is_told)

    pub none_due_told : (due_from : ℕ) → overdue w due_from ≡ [] → overdue (world_in db.trees) due_from ≡ []
    none_due_told due_from none = subst (λ (v : World). overdue v due_from ≡ []) (sym is_told) none

  -- Suppose the rows determine the world without its workunits. If no list of workunits makes it a world that they represent, they represent none.
  pub none_stands : (d : World) → ((w : World) → Represent w all → d ≡ without_units w) → ((books : List UnitBook) → Represent (having d books) all → ⊥) → RepresentNone db.trees
  none_stands d told none = (all, read, λ w stand. none w.units (subst (λ (v : World). Represent (having v w.units) all) (sym (told w stand)) stand))

-- a refusal has one reason only
abbrev is_unavailable : OpenFault → Bool
is_unavailable (fault.Unavailable cause) = true
is_unavailable other = false

pub one_reason : (e : OpenFault) → IsUnavailable e → e ≡ fault.BadRow → ⊥
one_reason e unavailable bad = true≢false (sym (ap is_unavailable unavailable.1) ∙ ap is_unavailable bad)

-- the rows other than those of workunits are those of a world that the rows represent
pub beside_of : (db : Database) → AreKnown db → (all : AllRows) → AreAllRead db.trees all → AreTyped all → (r : Reading) → r ≡ reading_of all → (w : World) → Represent w all → AreOtherRows w r.rows
beside_of db known all read typed r is w stand = beside_read db known all read typed r is w w.units stand
