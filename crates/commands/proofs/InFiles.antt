-- From a database to its files: what an order leaves of a store over files, from what it leaves of the database.
use Rattle.std.proofs.Common.{◌≡◌, ◌≢◌, ℕ, ◌-◌, List, ◌++◌, Option, Some, None, Result, Ok, Err, refl, sym, ap, subst, inl, inr, ◌∙◌}
use Rattle.std.specs.Coded.{Coded-set, coded_list, coded_ℕ}
use Rattle.std.proofs.Math.Logic.{∥∥₁_elim, ∥∥₁_map}
use Rattle.std.specs.Prelude.{IfSome, OnOk}
use Rattle.sqlite.specs.Effect.{Database, IsDatabase}
use Rattle.sqlite.specs.Files.{HoldsDatabase, file_state, over_files, IsOpened}
use Rattle.sqlite.specs.Held.{Held}
use Rattle.sqlite.specs.Start.{FindsIn}
use Rattle.sqlite.specs.State.{HasCleanDisk}
use Rattle.sqlite.specs.declared.file.Leftover.{Leftover}
use Rattle.sqlite.specs.declared.file.Leftover.TheVariants as rest
use Rattle.sqlite.proofs.Theorems.{opens_again}
use Rattle.sqlite_disk.specs.declared.Disk as disk
use Rattle.sqlite_store.specs.declared.store.FileStore.{FileStore}
use Rattle.sqlite_trees.specs.Tree.{Trees}
use Rattle.sqlite_wal.specs.Recovery.{Image}
use Rattle.sched_book.specs.Limits.{AreSettingsInLimits}
use Rattle.sched_book.specs.declared.settings.Settings.{Settings}
use Rattle.sched_book.specs.declared.world.World.{World}
use Rattle.sched_server.specs.Arrivals.{Came, StandsFor, StandsIn}
use Rattle.sched_tables.specs.Commits.{Imports}
use Rattle.sched_tables.specs.Reopening.{CanBeOpened}
use Rattle.sched_tables.specs.Upgrading.{held_with}
use Rattle.sched_tables.specs.Views.{held_in}
use Rattle.table_meaning.specs.Schema.{no_schema}
use Rattle.table_meaning.specs.Schemas.{IsSchema}
use Rattle.table_meaning.specs.Upgrades.{HoldWorldAt}
use Rattle.table_meaning.specs.Worlds.{SlotCalls}
use Rattle.table_rows.proofs.Reopening.{one_database}
use Rattle.commands.specs.Databases.{AgreesWithNone, CouldBeOpenedAt, IsGivenBack, HoldsOverAStop, KeepsDatabase, KeepsOrMakes, LeavesDatabase, MakesTables, ServesTables, StandAsEnded, StandsLater, UpgradesTables}
use Rattle.commands.specs.Files.{FilesHold, HeldNone, LeavesInFiles, MakesFiles, MakesNone, ServesFiles, UpgradesFiles, KeepsFiles, in_files, left_of_opening}
use Rattle.commands.specs.Leftovers.{AreHeld, LeavesAsHeld}
use Rattle.commands.specs.Messages.{AreOf, ServedSo}
use Rattle.commands.proofs.Leftovers.{as_held_or}
use Rattle.commands.specs.declared.database.Action.{Action}
use Rattle.commands.specs.declared.database.Action.TheVariants as action
use Rattle.commands.specs.declared.ending.Failure.{Failure}
use Rattle.commands.specs.declared.ending.Ending.{Ending}
use Rattle.commands.specs.declared.ending.Left.{Left}
use Rattle.commands.specs.declared.ending.Left.TheVariants as left
use Rattle.commands.specs.declared.files.Files as files

-- something is left
abbrev pub IsAny : {S R : Type 0} → Left S R → Type 0
IsAny left.Nothing = ⊥
IsAny (left.Refused rest) = Unit {0}
IsAny (left.Tables store) = Unit {0}

module _ {D : Type 0} {g : disk.Ghosts D} where
  over_stops : (it : FileStore D g) (P : Database → Type 0) → IsGivenBack over_files it → HoldsOverAStop over_files P it → LeavesInFiles P it
  over_stops it P back holds clean image may =
      ∥∥₁_map (opens_again it (back.numbered clean) (back.databases clean) image may)
      (λ found.
      let there = holds clean found.0 found.1 in
      let whole : (db : Database) × HoldsDatabase image db.trees × P db = (there.0, subst (λ (t : Trees). HoldsDatabase image t) (sym there.1) found.2, there.2) in whole)

  module _ (c : Held (FileStore D g)) (before : Image) (opened : HasCleanDisk (file_state c) → IsOpened c) (found : HasCleanDisk (file_state c) → FindsIn before (file_state c)) where
    -- the database of the files is the one that the connection opened
    same_database : HasCleanDisk (file_state c) → (db : Database) → HoldsDatabase before db.trees → IsDatabase db → (file_state c).committed ≡ db
    same_database clean db holds sound = let opens = opened clean in one_database (file_state c).committed db ((found clean).holds db.trees holds) (opens.1 opens.0.is_open).1 sound

    -- the trees that the connection shows are those that the files held
    are_held : (clean : HasCleanDisk (file_state c)) → (trees : Trees) → trees ≡ (file_state c).committed.trees → AreHeld before trees
    are_held clean trees same = subst (AreHeld before) (sym same) ((found clean).reads, λ db holds. (found clean).holds db holds)

    held_none : (clean : HasCleanDisk (file_state c)) → (file_state c).now.schema ≡ no_schema → HeldNone before
    held_none clean empty db sound holds = ap (λ (d : Database). d.schema) (sym (same_database clean db holds sound) ∙ sym (opened clean).0.clean) ∙ empty

    makes_none : (s : Settings) → AreSettingsInLimits s → (it : FileStore D g) → KeepsOrMakes over_files s (file_state c) it → MakesNone s before (rest.Store it)
    makes_none s limits it keeps clean trees may =
        let here = keeps.was_clean clean in
        elim (keeps.left limits (opened here).0.is_open clean trees may) [ inl same ↦ inl (are_held here trees same) | inr made ↦ inr (held_none here made.0, made.1) ]

    makes_files : (s : Settings) → AreSettingsInLimits s → (it : FileStore D g) → MakesTables over_files s (file_state c) it → MakesFiles s before it
    makes_files s limits it makes = record {
      was_empty = λ clean. held_none (makes.was_clean clean) makes.was_empty;
      stands = over_stops it (AgreesWithNone s) makes.back (makes.stands limits);
    }

    keeps_rest : (it : FileStore D g) → KeepsDatabase over_files (file_state c) it → LeavesAsHeld (λ _. ⊥) before (rest.Store it)
    keeps_rest it keeps clean trees may = let here = keeps.was_clean clean in inl (are_held here trees (keeps.same (opened here).0.is_open clean trees may))

    serves_files : (Are : List ℕ → List Came → Type 0) (it : FileStore D g) (key : List ℕ) (came : List Came) → Are key came → ServesTables over_files key came (file_state c) it
        → ServesFiles Are before it
    serves_files Are it key came are serves = record {
      key = key;
      came = came;
      are = are;
      stands = λ w operator points earlier held clean image may.
          ∥∥₁_elim held squash₁ (λ it_holds.
          let same = (found (serves.was_clean clean)).holds it_holds.0.trees it_holds.1 in
          let world = ap (λ (t : Trees). (held_in t).world) same ∙ it_holds.2.1 in
          over_stops it (StandsLater w operator points (came ++ earlier)) serves.back
          (subst (λ v. HoldsOverAStop over_files (StandsLater v operator points (came ++ earlier)) it) world
          (serves.stands operator points earlier (subst (λ (t : Trees). StandsFor operator (held_in t) points earlier) (sym same) it_holds.2.0))) clean image may);
      keyed = λ w operator points earlier held clean some.
          ∥∥₁_elim held (Coded-set (coded_list coded_ℕ) _ _) (λ it_holds.
          let same = (found (serves.was_clean clean)).holds it_holds.0.trees it_holds.1 in
          serves.keyed operator points earlier (subst (λ (t : Trees). StandsFor operator (held_in t) points earlier) (sym same) it_holds.2.0) clean some);
      newest_was = λ db sound holds clean.
          sym (ap (λ (d : Database). d.schema) (same_database (serves.was_clean clean) db holds sound)) ∙ serves.newest_was clean;
    }

    upgrade_opens : (ended : Result Ending Failure) (it : FileStore D g) → UpgradesTables over_files ended (file_state c) it
        → (n : ℕ) → IsSchema n → (w : World) (calls : SlotCalls) (batches : Imports) (key points : List ℕ) (earlier : List Came)
        → FilesHold (λ db. IsDatabase db × HoldWorldAt n db w calls batches × CouldBeOpenedAt n w calls batches db.trees) before
        → StandsIn (n - 1) key (held_with w calls batches) points earlier → OnOk ended (LeavesInFiles CanBeOpened it)
    upgrade_opens (Err why) it upgrades n is w calls batches key points earlier held st = tt
    upgrade_opens (Ok well) it upgrades n is w calls batches key points earlier held st = λ clean image may.
        ∥∥₁_elim held squash₁ (λ it_holds.
        let was = upgrades.was_clean clean in
        let same = same_database was it_holds.0 it_holds.1 it_holds.2.0 in
        over_stops it CanBeOpened upgrades.back
        (upgrades.opens (opened was).0 n is w calls batches key points earlier (subst (λ db. HoldWorldAt n db w calls batches) (sym same) it_holds.2.1) st
        (subst (λ (db : Database). CouldBeOpenedAt n w calls batches db.trees) (sym same) it_holds.2.2)) clean image may)

    upgrades_files : (ended : Result Ending Failure) (it : FileStore D g) → UpgradesTables over_files ended (file_state c) it → UpgradesFiles ended before it
    upgrades_files ended it upgrades = record {
      stands = λ n is w calls batches key points earlier held st clean image may.
          ∥∥₁_elim held squash₁ (λ it_holds.
          let was = upgrades.was_clean clean in
          let same = same_database was it_holds.0 it_holds.1 it_holds.2.0 in
          over_stops it (StandAsEnded ended n w calls batches key points earlier) upgrades.back
          (upgrades.stands (opened was).0 n is w calls batches key points earlier (subst (λ db. HoldWorldAt n db w calls batches) (sym same) it_holds.2.1) st) clean image may);
      opens = upgrade_opens ended it upgrades;
      stays = λ db sound holds is_newest clean image may.
          let was = upgrades.was_clean clean in
          let same = same_database was db holds sound in
          let newest_was = ap (λ (d : Database). d.schema) same ∙ is_newest in
          over_stops it (λ found. found ≡ db) upgrades.back
          (subst (λ d. HoldsOverAStop over_files (λ found. found ≡ d) it) same (upgrades.stays (opened was).0 newest_was)) clean image may;
    }

    pub keeps_files : {F : Type 0} (f : files.Ghosts F) (served : ServedSo) (a : Action) (ended : Result Ending Failure) (last : Left (FileStore D g) (FileStore D g))
        → LeavesDatabase f served over_files a ended (file_state c) last → KeepsFiles f served a ended before (in_files last)
    keeps_files f served (action.Create settings) ended left.Nothing leaves = absurd leaves
    keeps_files f served (action.Create settings) ended (left.Refused it) leaves = λ limits. (leaves.0, makes_none settings.now limits it leaves.1)
    keeps_files f served (action.Create settings) ended (left.Tables it) leaves = λ limits. makes_files settings.now limits it leaves
    keeps_files f served action.Upgrade ended left.Nothing leaves = absurd leaves
    keeps_files f served action.Upgrade ended (left.Refused it) leaves = absurd leaves.1
    keeps_files f served action.Upgrade ended (left.Tables it) leaves = upgrades_files ended it leaves
    keeps_files f served (action.Handle task) ended left.Nothing leaves = absurd leaves
    keeps_files f served (action.Handle task) ended (left.Refused it) leaves = (leaves.0, keeps_rest it leaves.1)
    keeps_files f served (action.Handle task) ended (left.Tables it) leaves = serves_files (λ key. AreOf f served key task ended) it leaves.0 leaves.1 leaves.2 leaves.3

    leaves_any : {F : Type 0} (f : files.Ghosts F) (served : ServedSo) (a : Action) (ended : Result Ending Failure) (last : Left (FileStore D g) (FileStore D g))
        → LeavesDatabase f served over_files a ended (file_state c) last → IsAny (in_files last)
    leaves_any f served (action.Create settings) ended left.Nothing leaves = leaves
    leaves_any f served action.Upgrade ended left.Nothing leaves = leaves
    leaves_any f served (action.Handle task) ended left.Nothing leaves = leaves
    leaves_any f served a ended (left.Refused it) leaves = tt
    leaves_any f served a ended (left.Tables it) leaves = tt

    -- an action with an open database leaves something of it
    pub leaves_some : {F : Type 0} (f : files.Ghosts F) (served : ServedSo) (a : Action) (ended : Result Ending Failure) (last : Left (FileStore D g) (FileStore D g))
        → LeavesDatabase f served over_files a ended (file_state c) last → in_files last ≡ left.Nothing → ⊥
    leaves_some f served a ended last leaves none = subst IsAny none (leaves_any f served a ended last leaves)

  -- files that could not be opened
  pub refused_files : {F : Type 0} (f : files.Ghosts F) (served : ServedSo) (a : Action) (before : Image) (why : Failure) (last : Leftover D g) → LeavesAsHeld (λ _. ⊥) before last
      → KeepsFiles f served a (Err why) before (left.Refused last)
  refused_files f served (action.Create settings) before why last leaves = λ limits. (tt, as_held_or before _ last leaves)
  refused_files f served action.Upgrade before why last leaves = (tt, leaves)
  refused_files f served (action.Handle task) before why last leaves = (tt, leaves)

  pub not_opened : {F : Type 0} (f : files.Ghosts F) (served : ServedSo) (a : Action) (before : Image) (why : Failure) (rest : Option (Leftover D g)) → IfSome rest (LeavesAsHeld (λ _. ⊥) before)
      → left_of_opening rest ≢ left.Nothing → KeepsFiles f served a (Err why) before (left_of_opening rest)
  not_opened f served a before why None leaves some = absurd (some refl)
  not_opened f served a before why (Some last) leaves some = refused_files f served a before why last leaves

  -- something was refused if anything is left
  pub none_opened : (R : Type 0) (rest : Option (Leftover D g)) → (rest ≡ None → R) → left_of_opening rest ≡ left.Nothing → R
  none_opened R None refuses none = refuses refl
  none_opened R (Some last) refuses none = absurd (subst IsAny none tt)
