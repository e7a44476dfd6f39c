-- What a stop leaves of tables agrees with what they agree with, and so do tables that are opened.
use Rattle.std.proofs.Common.{refl, sym, subst, inl}
use Rattle.sqlite.specs.Effect.{Database}
use Rattle.sqlite.specs.State.{HasCleanDisk}
use Rattle.sqlite_trees.specs.declared.store.Store.{Ghosts}
use Rattle.stores.specs.Acting.{Parts}
use Rattle.stores.specs.Held.{Held, IsLeft}
use Rattle.sched_server.specs.Arrivals.{StandsFor, StoreStandsFor}
use Rattle.sched_server.specs.Laws.{ReopenedStands}
use Rattle.sched_server.proofs.Begun.{new_held_stands}
use Rattle.sched_tables.specs.Held.{IsHonest}
use Rattle.sched_tables.specs.Stops.{MayBeFound}
use Rattle.sched_tables.specs.Views.{state_of, held_in, held_of, AreKept}
use Rattle.sched_tables.specs.declared.tables.Tables.{Tables}
use Rattle.table_pasts.specs.Stops.{NewDatabasesStand, StoppedTablesStand, OpenedTablesStand}

module _ {S : Type 0} (store : Ghosts S) (parts : Parts (Tables S)) where
  pub stopped_stand : ((t : Tables S) (h : Held) → MayBeFound (state_of store t) h → parts.may_leave t h) → StoppedTablesStand store parts
  stopped_stand found t key points before reopens st clean db sound left =
      let can = reopens.stop clean db sound left in
      let read : MayBeFound (state_of store t) (held_in db.trees) = record {
        trees = db.trees;
        clean = clean;
        left = left;
        read = can.rows;
        calls_are = λ host. refl;
        batches_are = λ kind batch. refl;
      } in record { opens = can; stands = st.left (held_in db.trees) (found t (held_in db.trees) read) }

  pub opened_stand : ReopenedStands parts
      → ((t : Tables S) → parts.honest t → HasCleanDisk (state_of store t))
      → ((t : Tables S) (h : Held) → parts.may_leave t h → HasCleanDisk (state_of store t))
      → ((t : Tables S) → IsHonest (state_of store t) → parts.honest t)
      → ((t : Tables S) → AreKept store t → parts.well_kept t)
      → ((t : Tables S) → IsLeft (parts.holds t) (held_of store t))
      → OpenedTablesStand store parts
  opened_stand reopened honest_clean found_clean is_honest are_kept holds db t opened key points before st =
      let whole : HasCleanDisk (state_of store t) → StoreStandsFor parts key points before t = λ clean.
      let here = subst (λ (d : Database). StandsFor key (held_in d.trees) points before) (sym (opened.same clean)) st in
      reopened t (is_honest t (opened.honest clean)) (are_kept t (opened.kept clean)) (held_of store t) (holds t) key points before here in record {
        held = λ honest. (whole (honest_clean t honest)).held honest;
        left = λ h may. (whole (found_clean t h may)).left h may;
      }

pub new_databases_stand : NewDatabasesStand
new_databases_stand settings db limits new = record { opens = new.opens; stands = inl (new_held_stands settings (held_in db.trees) new.new limits) }
