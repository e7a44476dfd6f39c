-- Each run leads from the files as it found them to the files as it leaves them, and so do several, one after the other.
use Rattle.std.proofs.Common.{◌≡◌, ◌≢◌, ◌⊎◌, ℕ, ◌-◌, List, [], ◌∷◌, ◌++◌, Result, refl, sym, ap, subst, inl, inr, ◌∙◌, arith}
use Rattle.std.proofs.Math.Logic.{∥∥₁_elim, ∥∥₁_map}
use Rattle.std.proofs.Math.Nat.{eq-or-lt_of_le}
use Rattle.std.specs.List.{AllByRecursion}
use Rattle.sqlite.specs.Effect.{Database, IsDatabase}
use Rattle.sqlite.specs.Files.{HoldsDatabase}
use Rattle.sqlite.specs.declared.file.Leftover.{Leftover}
use Rattle.sqlite.specs.declared.file.Leftover.TheVariants as rest
use Rattle.sqlite_disk.specs.declared.Disk as disk
use Rattle.sqlite_store.specs.FileStore.{state, view}
use Rattle.sqlite_store.specs.declared.store.FileStore.{FileStore}
use Rattle.sqlite_trees.specs.Tree.{Trees}
use Rattle.sqlite_trees.specs.View.{IsClean}
use Rattle.sqlite_wal.specs.Recovery.{Image}
use Rattle.command_line.specs.declared.order.Order.{Order}
use Rattle.command_line.specs.declared.order.Order.TheVariants as order
use Rattle.http_responses.specs.declared.answer.Answer.TheVariants as answer
use Rattle.http_serving.specs.declared.streams.Sink as sink
use Rattle.http_serving.specs.declared.streams.Source as source
use Rattle.sched_book.specs.Sound.{Sound}
use Rattle.sched_book.specs.declared.settings.Settings.{Settings}
use Rattle.sched_book.specs.declared.world.World.{World}
use Rattle.sched_server.proofs.Lasting.{all_stays_self, all_stays_then}
use Rattle.sched_server.specs.Arrivals.{Came, StandsFor, StandsIn}
use Rattle.sched_tables.proofs.Upgraded.{upgraded_hold}
use Rattle.sched_tables.specs.Commits.{Imports}
use Rattle.sched_tables.specs.Upgrading.{held_with}
use Rattle.sched_tables.specs.Views.{held_in}
use Rattle.stores.proofs.ReadsAct.{left_is}
use Rattle.stores.specs.Eras.{this_era, new_upgrade_points}
use Rattle.table_meaning.proofs.SchemaTables.{at_tree, has_settings, same_number}
use Rattle.table_meaning.proofs.UpgradedWorlds.{upgrades_world}
use Rattle.table_meaning.proofs.Upgrading.{goes_from}
use Rattle.table_meaning.specs.Rows.{tree_of}
use Rattle.table_meaning.specs.Schema.{newest, no_schema, schema_at}
use Rattle.table_meaning.specs.Schemas.{IsSchema}
use Rattle.table_meaning.specs.Upgrades.{HoldWorldAt, UpgradesWorld}
use Rattle.table_meaning.specs.Worlds.{SlotCalls}
use Rattle.table_meaning.specs.declared.tables.TableName.TheVariants.{Setting}
use Rattle.table_pasts.specs.Laws.{with_upgrade_points}
use Rattle.table_pasts.specs.Stops.{StandSince}
use Rattle.commands.proofs.InFiles.{IsAny}
use Rattle.commands.specs.Databases.{AgreesWithNone, HasDatabase, StandsLater}
use Rattle.commands.specs.Files.{FilesHold, HeldNone, LeavesFiles, MakesFiles, MakesNone, RowsStand, ServesFiles, UpgradesFiles}
use Rattle.commands.specs.Leftovers.{LeavesAsHeld}
use Rattle.commands.specs.Messages.{MayCome, ServedSo}
use Rattle.commands.specs.Runs.{AgreesWith, FilesAgree, AgreeNext, MayLeave, MayLeaveRest, IsNext, Leads, NewFilesAgree, RunsFollow, RunsLead}
use Rattle.commands.specs.Wire.{AreServed}
use Rattle.commands.specs.declared.connections.Connections as connections
use Rattle.commands.specs.declared.ending.Ending.{Ending}
use Rattle.commands.specs.declared.ending.Failure.{Failure}
use Rattle.commands.specs.declared.ending.Left.{Left}
use Rattle.commands.specs.declared.ending.Left.TheVariants as left
use Rattle.commands.specs.declared.files.Files as files

there_is : {A : Type 0} → A → ∥ A ∥₁
there_is a = ∣ a ∣₁

-- something is left
some_rest : (S : Type 0) {R : Type 0} (last : R) → (let it : Left S R = left.Refused last in it ≢ left.Nothing)
some_rest S last same = subst IsAny same tt

some_tables : {S : Type 0} (R : Type 0) (it : S) → (let here : Left S R = left.Tables it in here ≢ left.Nothing)
some_tables R it same = subst IsAny same tt

-- ---- databases

-- a schema has tables
has_tables : (n : ℕ) → IsSchema n → schema_at n ≡ no_schema → ⊥
has_tables n is same = at_tree n (λ tree. ⊥) (subst (λ s. AllByRecursion (λ t. ⊥) s.tables) (sym same) tt) (tree_of Setting) (has_settings n is)

-- tables of the newest schema are their own upgrade
upgraded_already : (db : Database) → db.schema ≡ schema_at newest → UpgradesWorld db db
upgraded_already db schema = upgrades_world db db (goes_from newest (omega arith, omega arith) db db schema refl)

-- what they hold is what their rows say
held_is : (db : Database) (w : World) (calls : SlotCalls) (batches : Imports) → Sound w → HoldWorldAt newest db w calls batches → held_in db.trees ≡ held_with w calls batches
held_is db w calls batches sound held =
    left_is (held_with w calls batches) (held_in db.trees)
    (upgraded_hold db db (upgraded_already db held.held.known.schema) newest (omega arith, omega arith) w calls batches sound (λ less. absurd (omega (arith, less))) held)

module _ (w : World) (key points : List ℕ) (came : List Came) (db : Database) where
  schema_of : AgreesWith w key points came db → (n : ℕ) × IsSchema n × (db.schema ≡ schema_at n)
  schema_of agrees = elim agrees.rows [
    | inl now ↦ (newest, (omega arith, omega arith), now.0)
    | inr former ↦ (former.0, (former.1.0, omega (arith, former.1.1)), former.4.held.known.schema)
  ]

  not_empty : AgreesWith w key points came db → db.schema ≡ no_schema → ⊥
  not_empty agrees none = let it = schema_of agrees in has_tables it.0 it.1 (sym it.2 ∙ none)

  -- of the newest schema they agree in this era
  stands_now : AgreesWith w key points came db → db.schema ≡ schema_at newest → RowsStand w key points came db
  stands_now agrees schema = elim agrees.rows [
    | inl now ↦ (now.1, now.2)
    | inr former ↦
        let same = same_number former.0 newest (former.1.0, omega (arith, former.1.1)) (omega arith, omega arith) (sym former.4.held.known.schema ∙ schema) in
        absurd (omega (arith, same, former.1.1))
  ]

agrees_now : (key points : List ℕ) (came : List Came) (db : Database) → db.schema ≡ schema_at newest → IsDatabase db → StandsFor key (held_in db.trees) points came
    → AgreesWith (held_in db.trees).world key points came db
agrees_now key points came db schema sound st = record { sound = sound; rows = inl (schema, st, refl) }

-- an upgrade, or a front of it, holds the same world and agrees with the same arrivals
since_agrees : (n : ℕ) (w : World) (calls : SlotCalls) (batches : Imports) (key points : List ℕ) (earlier : List Came) (db : Database)
    → (since : StandSince n w calls batches key points earlier db) → AgreesWith w key (with_upgrade_points (since.0 - n) points earlier) earlier db
since_agrees n w calls batches key points earlier db since = record {
  sound = since.3.held.known.sound;
  rows = elim (eq-or-lt_of_le since.1.1) [
    | inl same ↦
        let held = subst (λ m. HoldWorldAt m db w calls batches) same since.3 in
        let st = subst (λ m. StandsIn (m - 1) key (held_with w calls batches) (with_upgrade_points (since.0 - n) points earlier) earlier) same since.4 in
        let is = held_is db w calls batches st.sound.world held in
        inl (held.held.known.schema, subst (λ h. StandsFor key h (with_upgrade_points (since.0 - n) points earlier) earlier) (sym is) st, ap (λ h. h.world) is)
    | inr less ↦ inr (since.0, (since.1.0, less), calls, batches, since.3, since.4)
  ];
}

-- ---- files

-- files that hold what they held agree with what they agreed with
same_leads : (before after : Image)
    → ((db : Database) (w : World) (key points : List ℕ) (earlier : List Came) → AgreesWith w key points earlier db → HoldsDatabase before db.trees → HoldsDatabase after db.trees)
    → Leads [] before after
same_leads before after holds = λ w key points earlier agree.
    there_is (
      points,
      earlier,
      inl (refl, inl refl),
      w,
      all_stays_self w,
      ∥∥₁_map agree (λ it.
          let whole : (db : Database) × HoldsDatabase after db.trees × AgreesWith w key points earlier db = (it.0, holds it.0 w key points earlier it.2 it.1, it.2) in whole),
    )

-- what a stop leaves of tables that handled messages
next_of : (came : List Came) (w : World) (key points : List ℕ) (earlier : List Came) (after : Image) (db : Database) → HoldsDatabase after db.trees
    → StandsLater w key points (came ++ earlier) db → AgreeNext (IsNext came points earlier) w key after
next_of came w key points earlier after db holds it =
    let known = it.stands.opens.newest.known in elim it.stands.stands [
      | inl st ↦ (
        points,
        came ++ earlier,
        inl (refl, inl refl),
        (held_in db.trees).world,
        it.stays,
        there_is (db, holds, agrees_now key points (came ++ earlier) db known.schema known.sound st),
      )
      | inr doubt ↦
          let later = record { arrival = doubt.0; answer = answer.Response doubt.2 } ∷ (came ++ earlier) in (
            points,
            later,
            inl (refl, inr (doubt.0, doubt.1, doubt.2, refl)),
            (held_in db.trees).world,
            it.stays,
            there_is (db, holds, agrees_now key points later db known.schema known.sound doubt.3),
          )
    ]

module _ {D : Type 0} {g : disk.Ghosts D} where
  rest_holds : (before after : Image) (Or : Trees → Type 0) (last : Leftover D g) → ((trees : Trees) → Or trees → ⊥) → LeavesAsHeld Or before last → MayLeaveRest before last after
      → (db : Trees) → HoldsDatabase before db → HoldsDatabase after db
  rest_holds before after Or (rest.Files now) none leaves may db holds = subst (λ (i : Image). HoldsDatabase i db) (sym (leaves may.0 after may.1)) holds
  rest_holds before after Or (rest.Unopened now) none leaves may db holds = elim (leaves may.0 db holds after may.1) [
    | inl same ↦ subst (λ (i : Image). HoldsDatabase i db) (sym same) holds
    | inr stands ↦ may.2 stands db holds
  ]
  rest_holds before after Or (rest.Store it) none leaves may db holds = elim (leaves may.0 may.1 may.2) [
    | inl held ↦ subst (λ (t : Trees). HoldsDatabase after t) (held.1 db holds) may.3
    | inr other ↦ absurd (none may.1 other)
  ]

  rest_leads : (before after : Image) (last : Leftover D g) → LeavesAsHeld (λ _. ⊥) before last → MayLeaveRest before last after → Leads [] before after
  rest_leads before after last leaves may = same_leads before after (λ db w key points earlier agrees holds. rest_holds before after (λ _. ⊥) last (λ trees none. none) leaves may db.trees holds)

  -- ---- create

  -- a `create` that made no tables leaves what the files held
  none_made_leads : (s : Settings) (before after : Image) (last : Leftover D g) → MakesNone s before last → MayLeaveRest before last after → Leads [] before after
  none_made_leads s before after last leaves may = same_leads before after (λ db w key points earlier agrees holds.
      let Or : Trees → Type 0 = λ found. HeldNone before × HasDatabase (AgreesWithNone s) found in
      let none : (trees : Trees) → Or trees → ⊥ = λ trees made. not_empty w key points earlier db agrees (made.0 db agrees.sound holds) in
      rest_holds before after Or last none leaves may db.trees holds)

  -- it made none over tables
  made_leads : (s : Settings) (before after : Image) (it : FileStore D g) → MakesFiles s before it → IsClean (view it) → Leads [] before after
  made_leads s before after it makes clean = λ w key points earlier agree.
      ∥∥₁_elim agree squash₁ (λ held. absurd (not_empty w key points earlier held.0 held.2 (makes.was_empty clean held.0 held.2.sound held.1)))

  pub new_files_agree : NewFilesAgree g
  new_files_agree s before after it makes may =
      ∥∥₁_map (makes.stands may.0 after may.1)
      (λ found.
      let known = found.2.opens.newest.known in
      let st : StandsFor s.operator_key (held_in found.0.trees) (new_upgrade_points this_era) [] = elim found.2.stands [ inl st ↦ st | inr doubt ↦ absurd doubt.1 ] in
      ((held_in found.0.trees).world, there_is (found.0, found.1, agrees_now s.operator_key (new_upgrade_points this_era) [] found.0 known.schema known.sound st)))

  -- ---- messages

  served_leads : (Are : List ℕ → List Came → Type 0) (before after : Image) (it : FileStore D g) → (serves : ServesFiles Are before it) → IsClean (view it) → (state it).may_leave after
      → Leads serves.came before after
  served_leads Are before after it serves clean may = λ w key points earlier agree.
      ∥∥₁_elim agree squash₁ (λ held.
      let schema = serves.newest_was held.0 held.2.sound held.1 clean in
      let stood : FilesHold (RowsStand w key points earlier) before = there_is (held.0, held.1, stands_now w key points earlier held.0 held.2 schema) in
      ∥∥₁_map (serves.stands w key points earlier stood clean after may) (λ found. next_of serves.came w key points earlier after found.0 found.1 found.2))

  -- ---- upgrades

  upgraded_leads : (ended : Result Ending Failure) (before after : Image) (it : FileStore D g) → UpgradesFiles ended before it → IsClean (view it) → (state it).may_leave after → Leads [] before after
  upgraded_leads ended before after it upgrades clean may = λ w key points earlier agree.
      ∥∥₁_elim agree squash₁ (λ held. elim held.2.rows [
        | inl now ↦
            ∥∥₁_map (upgrades.stays held.0 held.2.sound held.1 now.0 clean after may)
            (λ found. (points, earlier, inl (refl, inl refl), w, all_stays_self w, there_is (found.0, found.1, subst (AgreesWith w key points earlier) (sym found.2) held.2)))
        | inr former ↦
            ∥∥₁_map (upgrades.stands former.0 (former.1.0, omega (arith, former.1.1)) w former.2 former.3 key points earlier (there_is (held.0, held.1, (held.2.sound, former.4))) former.5 clean after may)
            (λ found.
            let since = found.2.0 in (
              with_upgrade_points (since.0 - former.0) points earlier,
              earlier,
              inr (refl, refl, since.0 - former.0, refl),
              w,
              all_stays_self w,
              there_is (found.0, found.1, since_agrees former.0 w former.2 former.3 key points earlier found.0 since),
            ))
      ])

  -- ---- any order

  run_leads : {F : Type 0} (f : files.Ghosts F) (served : ServedSo) (o : Order) (ended : Result Ending Failure) (before after : Image) (last : Left (FileStore D g) (Leftover D g))
      → (last ≢ left.Nothing → LeavesFiles f served o ended before last) → MayLeave before last after
      → (key : List ℕ) × (came : List Came) × ((came ≡ []) ⊎ MayCome f served key o ended came) × Leads came before after
  run_leads f served o ended before after left.Nothing leaves may = ([], [], inl refl, same_leads before after (λ db w key points earlier agrees holds. subst (λ (i : Image). HoldsDatabase i db.trees) (sym may) holds))
  run_leads f served (order.Create settings tables) ended before after (left.Refused last) leaves may =
      let made = leaves (some_rest (FileStore D g) last) in ([], [], inl refl, none_made_leads made.0 before after last made.2.1 may)
  run_leads f served (order.Create settings tables) ended before after (left.Tables it) leaves may = let made = leaves (some_tables (Leftover D g) it) in ([], [], inl refl, made_leads made.0 before after it made.2 may.0)
  run_leads f served (order.Upgrade tables) ended before after (left.Refused last) leaves may = ([], [], inl refl, rest_leads before after last (leaves (some_rest (FileStore D g) last)).1 may)
  run_leads f served (order.Upgrade tables) ended before after (left.Tables it) leaves may = ([], [], inl refl, upgraded_leads ended before after it (leaves (some_tables (Leftover D g) it)) may.0 may.1)
  run_leads f served (order.Serve tables port count) ended before after (left.Refused last) leaves may = ([], [], inl refl, rest_leads before after last (leaves (some_rest (FileStore D g) last)).1 may)
  run_leads f served (order.Serve tables port count) ended before after (left.Tables it) leaves may =
      let serves = leaves (some_tables (Leftover D g) it) in (serves.key, serves.came, inr serves.are, served_leads _ before after it serves may.0 may.1)
  run_leads f served (order.Import tables kind batch file) ended before after (left.Refused last) leaves may = ([], [], inl refl, rest_leads before after last (leaves (some_rest (FileStore D g) last)).1 may)
  run_leads f served (order.Import tables kind batch file) ended before after (left.Tables it) leaves may =
      let serves = leaves (some_tables (Leftover D g) it) in (serves.key, serves.came, inr serves.are, served_leads _ before after it serves may.0 may.1)
  run_leads f served (order.Tick tables at) ended before after (left.Refused last) leaves may = ([], [], inl refl, rest_leads before after last (leaves (some_rest (FileStore D g) last)).1 may)
  run_leads f served (order.Tick tables at) ended before after (left.Tables it) leaves may =
      let serves = leaves (some_tables (Leftover D g) it) in (serves.key, serves.came, inr serves.are, served_leads _ before after it serves may.0 may.1)
  run_leads f served (order.Statement tables host) ended before after (left.Refused last) leaves may = ([], [], inl refl, rest_leads before after last (leaves (some_rest (FileStore D g) last)).1 may)
  run_leads f served (order.Statement tables host) ended before after (left.Tables it) leaves may =
      let serves = leaves (some_tables (Leftover D g) it) in (serves.key, serves.came, inr serves.are, served_leads _ before after it serves may.0 may.1)
  run_leads f served (order.Replay settings) ended before after (left.Refused last) leaves may = absurd (leaves (some_rest (FileStore D g) last))
  run_leads f served (order.Replay settings) ended before after (left.Tables it) leaves may = absurd (leaves (some_tables (Leftover D g) it))

  pub runs_lead : {F C R W : Type 0} (f : files.Ghosts F) (steps : connections.Ghosts C R W) (reads : source.Ghosts R) (writes : sink.Ghosts W) → RunsLead g f steps reads writes
  runs_lead f steps reads writes old new = run_leads f (AreServed steps reads writes old new)

-- ---- runs one after the other

pub runs_follow : RunsFollow
runs_follow [] before after same w key points earlier agree =
    there_is (points, earlier, (refl, refl), w, all_stays_self w, subst (FilesAgree w key points earlier) (sym same) agree)
runs_follow (came ∷ runs) before after (mid, first, last) w key points earlier agree =
    ∥∥₁_elim (runs_follow runs before mid first w key points earlier agree) squash₁ (λ there.
    ∥∥₁_map (last there.3 key there.0 there.1 there.5)
    (λ next. (next.0, next.1, (there.0, there.1, there.2, next.2), next.3, all_stays_then w there.3 next.3 there.4 next.4, next.5)))
