-- What tables held has no classes. It is held after the upgrade, and agrees in each of the next eras, and so does the store.
use Rattle.std.proofs.Common.{◌≡◌, ◌+◌, ◌-◌, ◌<◌, ℕ, zero, suc, List, [], ◌∷◌, ◌++◌, length, replicate, refl, sym, subst, ◌∙◌, arith, inl, inr}
use Rattle.std.proofs.lemmas.List.{append-nil, append_assoc}
use Rattle.sqlite_trees.specs.declared.store.Store.{Ghosts}
use Rattle.stores.specs.Acting.{Parts}
use Rattle.stores.specs.Eras.{era_of_classes}
use Rattle.stores.specs.Held.{Held, IsLeft}
use Rattle.table_meaning.specs.Schema.{newest}
use Rattle.sched_tables.specs.Laws.{UpgradedHolds}
use Rattle.sched_tables.specs.Upgrading.{held_with}
use Rattle.sched_tables.specs.Views.{held_of}
use Rattle.sched_tables.specs.declared.tables.Tables.{Tables}
use Rattle.sched_server.specs.Arrivals.{Came, answered, StandsIn}
use Rattle.sched_server.specs.Laws.{FormerWorldsAreUnclassed, ReopenedStands, UpgradedStands}
use Rattle.table_meaning.specs.Upgrades.{HoldWorldAt, FitsSchema}
use Rattle.table_meaning.proofs.SchemaTables.{same_number}
use Rattle.table_pasts.specs.Laws.{UpgradedTablesStand, with_upgrade_points}
use Rattle.table_pasts.specs.Stops.{StoppedUpgradesStand}

left_as_it_is : (held : Held) → IsLeft held held
left_as_it_is held = record { world_is = refl; calls_are = λ host. refl; batches_are = λ kind batch. refl }

-- if nothing changed from either of two to a third, nothing changed between the two
left_back : (one other last : Held) → IsLeft one last → IsLeft other last → IsLeft one other
left_back one other last from to = record {
  world_is = sym to.world_is ∙ from.world_is;
  calls_are = λ host. sym (to.calls_are host) ∙ from.calls_are host;
  batches_are = λ kind batch. sym (to.batches_are kind batch) ∙ from.batches_are kind batch;
}

-- several upgrades, one after another
stand_in_later_eras : UpgradedStands → (upgrades era : ℕ) (key : List ℕ) (held : Held) (points : List ℕ) (before : List Came) → StandsIn era key held points before
    → StandsIn (era + upgrades) key held (with_upgrade_points upgrades points before) before
stand_in_later_eras stands zero era key held points before st =
    let same : era ≡ era + zero = omega arith in
    subst (λ e. StandsIn e key held (points ++ []) before) same (subst (λ ms. StandsIn era key held ms before) (sym (append-nil points)) st)
stand_in_later_eras stands (suc upgrades) era key held points before st =
    let next = stands era key held held points before (left_as_it_is held) st in
    let later = stand_in_later_eras stands upgrades (suc era) key held (points ++ length (answered before) ∷ []) before next in
    let last : suc era + upgrades ≡ era + suc upgrades = omega arith in
    subst (λ e. StandsIn e key held (with_upgrade_points (suc upgrades) points before) before) last
    (subst (λ ms. StandsIn (suc era + upgrades) key held ms before) (append_assoc points (length (answered before) ∷ []) (replicate upgrades (length (answered before)))) later)

pub stand_upgraded : {S : Type 0} (store : Ghosts S) (parts : Parts (Tables S)) → FormerWorldsAreUnclassed → UpgradedStands → UpgradedHolds store → ReopenedStands parts
    → ((t : Tables S) → IsLeft (parts.holds t) (held_of store t)) → UpgradedTablesStand store parts
stand_upgraded store parts unclassed stands holds reopened same old t honest kept upgrades n is w calls batches key points before held st =
    let was = held_with w calls batches in
    let left = holds old t upgrades n is w calls batches st.sound.world (λ less. let early : n - 1 < era_of_classes = omega (arith, less, is.0) in unclassed (n - 1) key was points before early st) held in
    let last : n - 1 + (newest - n) ≡ newest - 1 = omega (arith, is.0, is.1) in
    let later = subst (λ e. StandsIn e key was (with_upgrade_points (newest - n) points before) before) last (stand_in_later_eras stands (newest - n) (n - 1) key was points before st) in
    reopened t honest kept was (left_back (parts.holds t) was (held_of store t) (same t) left) key (with_upgrade_points (newest - n) points before) before later

pub stopped_upgrades_stand : FormerWorldsAreUnclassed → UpgradedStands → StoppedUpgradesStand
stopped_upgrades_stand unclassed stands old db (inl same) n is w calls batches key points before held st =
    let none : 0 ≡ n - n = omega arith in
    let era : n - 1 + 0 ≡ n - 1 = omega arith in
    let here = stand_in_later_eras stands 0 (n - 1) key (held_with w calls batches) points before st in (
      n,
      is,
      omega arith,
      subst (λ d. HoldWorldAt n d w calls batches) (sym same) held,
      subst (λ k. StandsIn (n - 1) key (held_with w calls batches) (with_upgrade_points k points before) before) none
          (subst (λ e. StandsIn e key (held_with w calls batches) (with_upgrade_points 0 points before) before) era here),
    )
stopped_upgrades_stand unclassed stands old db (inr left) n is w calls batches key points before held st =
    let m = left.1 in
    let same : n ≡ left.0 = same_number n left.0 is left.2 (sym held.held.known.schema ∙ left.5) in
    let fits : FitsSchema n w = λ less. let early : n - 1 < era_of_classes = omega (arith, less, is.0) in unclassed (n - 1) key (held_with w calls batches) points before early st in
    let carried : HoldWorldAt m db w calls batches = left.6 w calls batches (subst (λ k. FitsSchema k w) same fits) (subst (λ k. HoldWorldAt k old w calls batches) same held) in
    let era : n - 1 + (m - n) ≡ m - 1 = omega (arith, is.0, left.3, same) in
    let later = stand_in_later_eras stands (m - n) (n - 1) key (held_with w calls batches) points before st in (
      m,
      (omega (arith, is.0, left.3, same), left.4),
      omega (arith, left.3, same),
      carried,
      subst (λ e. StandsIn e key (held_with w calls batches) (with_upgrade_points (m - n) points before) before) era later,
    )
