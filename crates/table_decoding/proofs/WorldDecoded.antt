-- What is known about the rows of a sound world, except those of its workunits, table by table.
use Rattle.std.proofs.Common.{◌≡◌, List, subst, sym, ◌∙◌, arith}
use Rattle.std.specs.Prelude.{All}
use Rattle.std.proofs.lemmas.List.Elements.{All-weaker}
use Rattle.sched_book.specs.Limits.{most_quota, IsHostInLimits}
use Rattle.sched_book.specs.Numbered.{map_from}
use Rattle.sched_book.specs.Places.{held_by, host_credit}
use Rattle.sched_book.specs.Sound.{Sound, IsSoundHost}
use Rattle.sched_book.specs.declared.world.World.{World}
use Rattle.std.specs.Prelude.{length}
use Rattle.table_meaning.specs.declared.rows.StoredRow.{StoredRow}
use Rattle.table_worlds.specs.declared.matching.TableRows.{TableRows}
use Rattle.table_worlds.specs.RowsOf.{AreOtherRows}
use Rattle.table_decoding.specs.Decoding.{GiveSettings, of_account, of_app, of_version, of_class, of_host}
use Rattle.table_decoding.proofs.RowsInOrder.{account_rows, app_rows, version_rows, class_rows, host_rows}
use Rattle.table_decoding.proofs.SettingsDecoded.{all_told}

-- a host whose quota is within the settings' quota is within the greatest quota
pub hosts_limited : (w : World) → Sound w → All (IsHostInLimits most_quota) w.hosts
hosts_limited w sound = All-weaker (IsSoundHost (length w.accounts) w.settings.daily_result_quota) (IsHostInLimits most_quota) (λ h is. record {
  cpid = is.limits.cpid;
  speed = is.limits.speed;
  memory = is.limits.memory;
  disk = is.limits.disk;
  platforms = is.limits.platforms;
  words = is.limits.words;
  quota = (is.limits.quota.0, let least = is.limits.quota.1 in let most = sound.rows.settings.quota.1 in omega (arith, least, most));
}) w.hosts sound.rows.hosts

-- the rows of each table, however they are passed on
module _ (w : World) (rows : TableRows) (are : AreOtherRows w rows) (these : List StoredRow) where
  pub settings_told : these ≡ rows.settings → GiveSettings these w.settings
  settings_told is = subst (λ l. GiveSettings l w.settings) (sym is) (all_told w.settings rows.settings are.settings)

  pub accounts_told : these ≡ rows.accounts → these ≡ map_from 1 of_account w.accounts
  accounts_told is = is ∙ are.accounts ∙ account_rows w

  pub apps_told : these ≡ rows.apps → these ≡ map_from 1 of_app w.apps
  apps_told is = is ∙ are.apps ∙ app_rows w

  pub versions_told : these ≡ rows.versions → these ≡ map_from 1 (of_version w) w.versions
  versions_told is = is ∙ are.versions ∙ version_rows w

  pub classes_told : these ≡ rows.classes → these ≡ map_from 1 of_class w.versions
  classes_told is = is ∙ are.classes ∙ class_rows w

  pub hosts_told : these ≡ rows.hosts → these ≡ map_from 1 (of_host (λ id. length (held_by w id)) (host_credit w)) w.hosts
  hosts_told is = is ∙ are.hosts ∙ host_rows w
