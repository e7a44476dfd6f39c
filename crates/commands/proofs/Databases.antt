-- What a stop may leave of the store under tables, from what it may leave of the tables.
use Rattle.std.proofs.Common.{◌≡◌, ◌-◌, ◌<◌, ℕ, List, [], ◌++◌, Result, Ok, Err, IsTrue, refl, sym, ap, subst, ◌∙◌, inl, inr, arith}
use Rattle.std.specs.Prelude.{OnOk}
use Rattle.sqlite.specs.Effect.{Database, IsDatabase}
use Rattle.sqlite.specs.Held.{Held, state}
use Rattle.sqlite.specs.State.{State, HasCleanDisk, Opens, Survives}
use Rattle.sqlite_trees.specs.Tree.{Trees}
use Rattle.sqlite_trees.specs.View.{IsClean, IsQuiet}
use Rattle.sqlite_trees.specs.declared.store.Store.{Ghosts}
use Rattle.sched_book.specs.Sound.{Sound}
use Rattle.sched_book.specs.Step.{empty_world}
use Rattle.sched_book.specs.declared.settings.Settings.{Settings}
use Rattle.sched_book.specs.declared.world.World.{World}
use Rattle.sched_machine.proofs.Moves.Sound.{the_empty_world_is_sound}
use Rattle.stores.specs.Acting.{Parts}
use Rattle.stores.specs.Eras.{era_of_classes, this_era, new_upgrade_points}
use Rattle.stores.specs.Held.{IsNew}
use Rattle.sched_server.specs.Arrivals.{Came, StandsIn}
use Rattle.sched_server.specs.Laws.{AllStay, FormerWorldsAreUnclassed, NewStoresStand}
use Rattle.sched_tables.specs.Commits.{Imports}
use Rattle.sched_tables.specs.Held.{IsHonest}
use Rattle.sched_tables.specs.Laws.{AreUtf8At, AreCallsUtf8, UpgradedCanBeOpened}
use Rattle.sched_tables.specs.Making.{IsRestOfMaking}
use Rattle.sched_tables.specs.Reopening.{CanBeOpened, Reopens}
use Rattle.sched_tables.specs.Upgrading.{held_with}
use Rattle.sched_tables.specs.Stops.{MayBeFound}
use Rattle.sched_tables.specs.Views.{state_of, held_in, held_of, AreKept}
use Rattle.stores.specs.Held as stores
use Rattle.sched_tables.specs.declared.tables.Tables.{Tables}
use Rattle.table_meaning.specs.Schema.{no_schema, newest, schema_at}
use Rattle.table_meaning.specs.Schemas.{IsSchema}
use Rattle.table_meaning.specs.Upgrades.{FitsSchema, HoldWorldAt, IsLeftBehindWorld, UpgradesWorld}
use Rattle.table_meaning.specs.Worlds.{SlotCalls, HoldWorld}
use Rattle.table_meaning.proofs.SchemaTables.{same_number}
use Rattle.table_pasts.specs.Stops.{NewDatabasesStand, OpensAndStands, StandSince, StandsOverAStop, StoppedTablesStand, OpenedTablesStand, AreOpenedFrom, StoppedUpgradesStand}
use Rattle.table_rows.specs.Refusing.{IsRestOf}
use Rattle.table_rows.proofs.Reopening.{one_database}
use Rattle.commands.specs.Databases.{CouldBeOpenedAt, HasDatabase, IsGivenBack, HoldsOverAStop, KeepsDatabase, KeepsOrMakes, MakesTables, ServesStore, ServesTables, StandAsEnded, StandsLater, UpgradesTables}
use Rattle.commands.specs.declared.ending.Ending.{Ending}
use Rattle.commands.specs.declared.ending.Failure.{Failure}

-- two facts of an order that ended well, and what follows from them
on_ok_both : {A E : Type 0} (P Q R : Type 0) (r : Result A E) → (P → Q → R) → OnOk r P → OnOk r Q → OnOk r R
on_ok_both P Q R (Ok a) both p q = both p q
on_ok_both P Q R (Err e) both p q = tt

-- what follows from a fact, if it does of an order that ended well
on_ok_later : {A E : Type 0} (P Q : Type 0) (r : Result A E) → (P → OnOk r Q) → OnOk r (P → Q)
on_ok_later P Q (Ok a) later = later
on_ok_later P Q (Err e) later = tt

module _ {S : Type 0} (g : Ghosts S) where
  was_clean : (conn : Held S) (s : S) → IsQuiet g.view g.faults g.recovers g.is_shielded conn.store s → IsClean (g.view s) → HasCleanDisk (state g conn)
  was_clean conn s quiet clean = omega (arith, quiet.clean, clean)

  -- what holds of each database that a stop may leave of a connection holds over a stop of the store that the connection gives back
  over_a_stop : (conn : Held S) (s : S) (P : Database → Type 0) → IsGivenBack g s → IsQuiet g.view g.faults g.recovers g.is_shielded conn.store s
      → (HasCleanDisk (state g conn) → (db : Database) → IsDatabase db → (state g conn).may_leave db.trees → P db) → HoldsOverAStop g P s
  over_a_stop conn s P back quiet holds clean trees may =
      let schema = back.databases clean trees may in
      let db : Database = record { schema = schema.0; trees = trees } in
      (db, refl, holds (was_clean conn s quiet clean) db schema.1 (quiet.outcomes trees may))

  -- ---- tables

  -- Tables gave back their connection, and that gave back its store, as the clauses of `into_connection` and `into_store` say.
  pub record WereGivenBack (t : Tables S) (conn : Held S) (s : S) : Type 0 where
    pub clean : HasCleanDisk (state g conn) → HasCleanDisk (state_of g t)
    pub left : (trees : Trees) → (state g conn).may_leave trees → (state_of g t).may_leave trees
    pub quiet : IsQuiet g.view g.faults g.recovers g.is_shielded conn.store s
    pub back : IsGivenBack g s

  tables_over_a_stop : (t : Tables S) (conn : Held S) (s : S) (key points : List ℕ) (before : List Came) → WereGivenBack t conn s
      → (HasCleanDisk (state_of g t) → StandsOverAStop key points before (state_of g t)) → HoldsOverAStop g (OpensAndStands key points before) s
  tables_over_a_stop t conn s key points before were stands =
      over_a_stop conn s (OpensAndStands key points before) were.back were.quiet
      (λ clean db sound may. let tables_clean = were.clean clean in stands tables_clean tables_clean db sound (were.left db.trees may))

  module _ (parts : Parts (Tables S)) (stopped : StoppedTablesStand g parts)
      (is_honest : (t : Tables S) → IsHonest (state_of g t) → parts.honest t)
      (are_kept : (t : Tables S) → AreKept g t → parts.well_kept t) where
    pub makes_tables : NewStoresStand parts → ((t : Tables S) (settings : Settings) → IsNew settings (held_of g t) → IsNew settings (parts.holds t))
        → (settings : Settings) (old : State) (t : Tables S) (conn : Held S) (s : S) → old.now.schema ≡ no_schema → (HasCleanDisk (state_of g t) → HasCleanDisk old)
        → (HasCleanDisk (state_of g t) → IsHonest (state_of g t)) → (HasCleanDisk (state_of g t) → AreKept g t) → (HasCleanDisk (state_of g t) → IsNew settings (held_of g t))
        → (Sound (empty_world settings) → Reopens (state_of g t)) → WereGivenBack t conn s → MakesTables g settings old s
    makes_tables new_stands is_new settings old t conn s was_empty clean_before honest kept new reopens were = record {
      back = were.back;
      was_clean = λ clean. clean_before (were.clean (was_clean conn s were.quiet clean));
      was_empty = was_empty;
      stands = λ limits. tables_over_a_stop t conn s settings.operator_key (new_upgrade_points this_era) [] were
          (λ clean.
          stopped t settings.operator_key (new_upgrade_points this_era) [] (reopens (the_empty_world_is_sound settings limits))
          (new_stands t settings (is_honest t (honest clean)) (are_kept t (kept clean)) (is_new t settings (new clean)) limits));
    }

    pub serves_tables : OpenedTablesStand g parts
        → ((t : Tables S) → parts.honest t → HasCleanDisk (state_of g t))
        → ((t : Tables S) → HasCleanDisk (state_of g t) → parts.clean t)
        → ((t : Tables S) → parts.clean t → HasCleanDisk (state_of g t))
        → ((t : Tables S) → Reopens (state_of g t) → parts.reopens t)
        → ((t : Tables S) → parts.reopens t → Reopens (state_of g t))
        → ((t : Tables S) (h : stores.Held) → MayBeFound (state_of g t) h → parts.may_leave t h)
        → ((t : Tables S) → (parts.holds t).world ≡ (held_of g t).world)
        → (key : List ℕ) (came : List Came) (old : State) (t u : Tables S) (conn : Held S) (s : S)
        → AreOpenedFrom g old.committed t → (HasCleanDisk (state_of g t) → HasCleanDisk old) → Reopens (state_of g t)
        → ServesStore parts key came t u → WereGivenBack u conn s → ServesTables g key came old s
    serves_tables opened_stand honest_clean is_clean was_tables_clean can_reopen reopens_so found holds_so key came old t u conn s opened clean_before reopens serves were = record {
      back = were.back;
      was_clean = λ clean. clean_before (was_tables_clean t (serves.was_clean (is_clean u (were.clean (was_clean conn s were.quiet clean)))));
      keyed = λ operator points before st clean some.
          serves.keyed operator points before (opened_stand old.committed t opened operator points before st) (is_clean u (were.clean (was_clean conn s were.quiet clean))) some;
      newest_was = λ clean.
          let there = was_tables_clean t (serves.was_clean (is_clean u (were.clean (was_clean conn s were.quiet clean)))) in
          sym (ap (λ (d : Database). d.schema) (opened.same there)) ∙ (opened.kept there).0.holds.known.schema;
      stands = λ operator points before st.
          over_a_stop conn s (StandsLater (held_in old.committed.trees).world operator points (came ++ before)) were.back were.quiet
          (λ clean db sound may.
          let here = were.clean clean in
          let there = was_tables_clean t (serves.was_clean (is_clean u here)) in
          let first = opened_stand old.committed t opened operator points before st in
          let stands = stopped u operator points (came ++ before) (reopens_so u (serves.reopens (λ honest. are_kept t (opened.kept (honest_clean t honest))) (can_reopen t reopens)))
          (serves.stands operator points before first (is_clean u here)) here db sound (were.left db.trees may) in
          let read : MayBeFound (state_of g u) (held_in db.trees) = record {
            trees = db.trees;
            clean = here;
            left = were.left db.trees may;
            read = stands.opens.rows;
            calls_are = λ host. refl;
            batches_are = λ kind batch. refl;
          } in
          let same : (parts.holds t).world ≡ (held_in old.committed.trees).world = holds_so t ∙ ap (λ (d : Database). (held_in d.trees).world) (opened.same there) in record {
            stands = stands;
            stays = subst (λ w. AllStay w (held_in db.trees).world) same
                (serves.stays operator points before first (is_honest t (opened.honest there)) (held_in db.trees) (found u (held_in db.trees) read));
          });
    }

  -- ---- tables that could not be made or opened

  -- an open connection leaves what it committed
  abbrev pub IsSettled : Type 0
  IsSettled = (s : S) (trees : Trees) → IsTrue (g.view s).is_open → g.recovers s trees → trees ≡ (g.view s).committed

  pub keeps_database : IsSettled → (old : Held S) (rest s : S) → IsRestOf g (state g old) rest → IsQuiet g.view g.faults g.recovers g.is_shielded rest s → KeepsDatabase g (state g old) s
  keeps_database settled old rest s it quiet = record {
    was_clean = λ clean. it.clean (omega (arith, quiet.clean, clean));
    same = λ is_open clean trees may. elim (it.left (omega (arith, quiet.clean, clean)) trees (quiet.outcomes trees may)) [ inl before ↦ settled old.store trees is_open before | inr is ↦ is ];
  }

  pub keeps_or_makes : IsSettled → NewDatabasesStand → (settings : Settings) (old : Held S) (s : S) → IsRestOfMaking g settings (state g old) s → KeepsOrMakes g settings (state g old) s
  keeps_or_makes settled new_stands settings old s it = record {
    was_clean = it.clean;
    left = λ limits is_open clean trees may. elim (it.left (the_empty_world_is_sound settings limits) clean trees may) [
      | inl before ↦ inl (settled old.store trees is_open before)
      | inr made ↦ inr (made.0, (made.1, made.2, new_stands settings made.1 limits made.3))
    ];
  }

  -- ---- an upgrade

  module _ (stand : StoppedUpgradesStand) (unclassed : FormerWorldsAreUnclassed) (can : UpgradedCanBeOpened) (settled : IsSettled) (ended : Result Ending Failure) (old conn : Held S) (s : S)
      (is_open : HasCleanDisk (state g conn) → OnOk ended (IsTrue (state g conn).is_open))
      (upgrades : HasCleanDisk (state g conn) → OnOk ended (UpgradesWorld (state g old).now (state g conn).committed))
      (survives : Survives (state g old) (state g conn) (λ trees. IsTrue (state g old).is_open × (db : Database) × IsLeftBehindWorld (state g old).now db × (trees ≡ db.trees)))
      (quiet : IsQuiet g.view g.faults g.recovers g.is_shielded conn.store s) (back : IsGivenBack g s) (opens : Opens (state g old)) (clean : IsClean (g.view s))
      (n : ℕ) (is : IsSchema n) (w : World) (calls : SlotCalls) (batches : Imports) (key points : List ℕ) (before : List Came)
      (held : HoldWorldAt n (state g old).committed w calls batches) (st : StandsIn (n - 1) key (held_with w calls batches) points before) where
    here : HasCleanDisk (state g conn)
    here = was_clean conn s quiet clean

    fits : FitsSchema n w
    fits less = let early : n - 1 < era_of_classes = omega (arith, less, is.0) in unclassed (n - 1) key (held_with w calls batches) points before early st

    held_now : HoldWorldAt n (state g old).now w calls batches
    held_now = subst (λ db. HoldWorldAt n db w calls batches) (sym opens.clean) held

    -- an upgrade that ended well leaves one database, of the newest schema
    is_newest : IsTrue (state g conn).is_open → UpgradesWorld (state g old).now (state g conn).committed → (trees : Trees) → g.recovers s trees → (db : Database) → db.trees ≡ trees
        → (since : StandSince n w calls batches key points before db) → since.0 ≡ newest
    is_newest open_now went trees may db same since =
        let whole : HoldWorld (state g conn).committed w calls batches = went n is w calls batches fits held_now in
        let one : db ≡ (state g conn).committed =
        one_database db (state g conn).committed (same ∙ settled conn.store trees open_now (quiet.outcomes trees may)) since.3.held.known.sound whole.known.sound in
        same_number since.0 newest since.1 (omega arith, omega arith) (sym since.3.held.known.schema ∙ ap (λ (d : Database). d.schema) one ∙ whole.known.schema)

    -- what a stop leaves since the former schema
    since_then : (trees : Trees) → g.recovers s trees → HasDatabase (StandSince n w calls batches key points before) trees
    since_then trees may = elim (survives.crash here trees (quiet.outcomes trees may)) [
      | inl earlier ↦ (
        (state g old).committed,
        sym (settled old.store trees opens.is_open earlier),
        stand (state g old).committed (state g old).committed (inl refl) n is w calls batches key points before held st,
      )
      | inr ahead ↦
          let left = subst (λ db. IsLeftBehindWorld db ahead.1) opens.clean ahead.2 in
          (ahead.1, sym ahead.3, stand (state g old).committed ahead.1 (inr left) n is w calls batches key points before held st)
    ]

    pub upgrade_stands : (trees : Trees) → g.recovers s trees → HasDatabase (StandAsEnded ended n w calls batches key points before) trees
    upgrade_stands trees may =
        let there = since_then trees may in
        (there.0, there.1, (there.2, on_ok_both _ _ _ ended (λ open_now went. is_newest open_now went trees may there.0 there.1 there.2) (is_open here) (upgrades here)))

    pub upgrade_opens : CouldBeOpenedAt n w calls batches (state g old).committed.trees → OnOk ended ((trees : Trees) → g.recovers s trees → HasDatabase CanBeOpened trees)
    upgrade_opens could =
        let texts = subst (λ (db : Database). AreUtf8At n db.trees) (sym opens.clean) could.texts in
        let call_texts = λ (first : n ≡ 1). subst (λ (db : Database). AreCallsUtf8 db.trees) (sym opens.clean) (could.call_texts first) in
        on_ok_both _ _ _ ended
        (λ open_now went trees may. (
          (state g conn).committed,
          sym (settled conn.store trees open_now (quiet.outcomes trees may)),
          can (state g old).now (state g conn).committed went n is w calls batches st.sound.world fits could.kept held_now texts call_texts,
        ))
        (is_open here) (upgrades here)

  -- tables of the newest schema have no later one
  upgrade_stays : IsSettled → (old conn : Held S) (s : S)
      → Survives (state g old) (state g conn) (λ trees. IsTrue (state g old).is_open × (db : Database) × IsLeftBehindWorld (state g old).now db × (trees ≡ db.trees))
      → IsQuiet g.view g.faults g.recovers g.is_shielded conn.store s → Opens (state g old) → (state g old).committed.schema ≡ schema_at newest
      → HoldsOverAStop g (λ db. db ≡ (state g old).committed) s
  upgrade_stays settled old conn s survives quiet opens is_newest clean trees may =
      elim (survives.crash (was_clean conn s quiet clean) trees (quiet.outcomes trees may)) [
        | inl earlier ↦ ((state g old).committed, sym (settled old.store trees opens.is_open earlier), refl)
        | inr ahead ↦
            let left = subst (λ db. IsLeftBehindWorld db ahead.1) opens.clean ahead.2 in
            let same : left.0 ≡ newest = same_number left.0 newest left.2 (omega arith, omega arith) (sym left.5 ∙ is_newest) in
            absurd (omega (arith, same, left.3, left.4))
      ]

  pub upgrades_tables : StoppedUpgradesStand → FormerWorldsAreUnclassed → UpgradedCanBeOpened → IsSettled → (ended : Result Ending Failure) (old conn : Held S) (s : S)
      → (HasCleanDisk (state g conn) → OnOk ended (IsTrue (state g conn).is_open))
      → (HasCleanDisk (state g conn) → OnOk ended (UpgradesWorld (state g old).now (state g conn).committed))
      → Survives (state g old) (state g conn) (λ trees. IsTrue (state g old).is_open × (db : Database) × IsLeftBehindWorld (state g old).now db × (trees ≡ db.trees))
      → IsQuiet g.view g.faults g.recovers g.is_shielded conn.store s → IsGivenBack g s → UpgradesTables g ended (state g old) s
  upgrades_tables stand unclassed can settled ended old conn s is_open upgrades survives quiet back = record {
    back = back;
    was_clean = λ clean. let here = was_clean conn s quiet clean in omega (arith, survives.clean, here);
    stands = λ opens n is w calls batches key points before held st clean.
        upgrade_stands stand unclassed can settled ended old conn s is_open upgrades survives quiet back opens clean n is w calls batches key points before held st;
    opens = λ opens n is w calls batches key points before held st could.
        on_ok_later _ _ ended (λ clean. upgrade_opens stand unclassed can settled ended old conn s is_open upgrades survives quiet back opens clean n is w calls batches key points before held st could);
    stays = λ opens is_newest. upgrade_stays settled old conn s survives quiet opens is_newest;
  }
