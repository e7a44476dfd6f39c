-- The rows of all tables except those of workunits, marks and instances, together and table by table.
use Rattle.std.proofs.Common.{List, [], ◌∷◌, refl, inl, inr}
use Rattle.sqlite_rules.specs.Lists.{Has}
use Rattle.sched_book.specs.declared.world.World.{World}
use Rattle.table_worlds.specs.RowsOf.{setting_rows, HaveSame, IsOtherTable, AreOtherRows}
use Rattle.table_worlds.specs.declared.keys.NumberedTable.{NumberedTable}
use Rattle.table_worlds.specs.declared.keys.NumberedTable.TheVariants as table
use Rattle.table_worlds.specs.declared.matching.TableRows.{TableRows}

-- the tables that are compared
abbrev pub tables_beside : List NumberedTable
tables_beside = table.Account ∷ table.App ∷ table.Version ∷ table.Class ∷ table.Host ∷ []

module _ (w : World) (rows : TableRows) where
  pub all_beside : HaveSame rows.settings (setting_rows w.settings) → ((t : NumberedTable) → Has tables_beside t → IsOtherTable w rows t) → AreOtherRows w rows
  all_beside settings each = record {
    settings = settings;
    accounts = each table.Account (inl refl);
    apps = each table.App (inr (inl refl));
    versions = each table.Version (inr (inr (inl refl)));
    classes = each table.Class (inr (inr (inr (inl refl))));
    hosts = each table.Host (inr (inr (inr (inr (inl refl)))));
  }

  pub each_beside : AreOtherRows w rows → (t : NumberedTable) → IsOtherTable w rows t
  each_beside are table.Account = are.accounts
  each_beside are table.App = are.apps
  each_beside are table.Version = are.versions
  each_beside are table.Class = are.classes
  each_beside are table.Unit = refl
  each_beside are table.Mark = refl
  each_beside are table.Host = are.hosts
