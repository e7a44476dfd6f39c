-- Other workunits keep the rows of a world sound.
use Rattle.std.proofs.Common.{◌≢◌, ◌≤◌, List, length, AllPairs, ◌≡◌, ℕ, sym, ◌∙◌, subst}
use Rattle.sched_book.specs.Limits.{most_workunits}
use Rattle.sched_book.specs.Reports.{modify_nth}
use Rattle.sched_book.specs.Sound.{AreRowsSound}
use Rattle.sched_book.specs.declared.instance.UnitBook.{UnitBook}
use Rattle.sched_book.specs.declared.world.World.{World}
use Rattle.sched_book.proofs.PlacesOf.{length-modify_nth}
use Rattle.sched_machine.proofs.Rows.Listed.{pairs_changed_nth}

-- if no two have the same name and there are not too many
pub rows_kept : (w : World) (bs : List UnitBook) → AreRowsSound w → AllPairs (λ a b. a.unit.name ≢ b.unit.name) bs → length bs ≤ most_workunits
    → AreRowsSound (record w { units = bs })
rows_kept w bs rows names few = record {
  settings = rows.settings;
  accounts = rows.accounts;
  apps = rows.apps;
  versions = rows.versions;
  hosts = rows.hosts;
  account_names = rows.account_names;
  app_names = rows.app_names;
  version_names = rows.version_names;
  unit_names = names;
  host_keys = rows.host_keys;
  account_count = rows.account_count;
  app_count = rows.app_count;
  version_count = rows.version_count;
  unit_count = few;
  host_count = rows.host_count;
}

-- so if one is changed, but not its name
pub rows_changed : (w : World) (f : UnitBook → UnitBook) (n : ℕ) → ((b : UnitBook) → (f b).unit.name ≡ b.unit.name) → AreRowsSound w
    → AreRowsSound (record w { units = modify_nth f w.units n })
rows_changed w f n same rows =
    rows_kept w (modify_nth f w.units n) rows
    (pairs_changed_nth (λ a b. a.unit.name ≢ b.unit.name) f w.units n rows.unit_names
    (λ b is c. (λ apart equal. apart (equal ∙ same b), λ apart equal. apart (sym (same b) ∙ equal))))
    (subst (λ m. m ≤ most_workunits) (sym (length-modify_nth f w.units n)) rows.unit_count)
