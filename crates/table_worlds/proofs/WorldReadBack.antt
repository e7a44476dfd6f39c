-- The world that tables hold is the one that is read back from their rows.
use Rattle.std.proofs.Common.{◌≡◌, ◌≤◌, ℕ, ◌+◌, Bool, true, false, List, [], length, Option, Some, option_map, refl, ap, ◌∙◌, arith}
use Rattle.std.specs.Prelude.{All, codes, option_and_then, slice_get, unwrap_or, ◌==◌, if◌then◌else◌}
use Rattle.sqlite.specs.Effect.{Database}
use Rattle.sqlite_trees.specs.Tree.{Trees}
use Rattle.sqlite_value.specs.Order.{Row}
use Rattle.sched_book.specs.Imports.{has_app}
use Rattle.sched_book.specs.Places.{unit_at, held_by, host_credit}
use Rattle.sched_book.specs.declared.instance.Instance.{Instance as Job}
use Rattle.sched_book.specs.declared.instance.UnitBook.{UnitBook}
use Rattle.sched_book.specs.declared.rows.Account.{Account}
use Rattle.sched_book.specs.declared.rows.App.{App}
use Rattle.sched_book.specs.declared.rows.HostRow.{HostRow}
use Rattle.sched_book.specs.declared.rows.Version.{Version}
use Rattle.sched_book.specs.declared.world.World.{World}
use Rattle.table_meaning.specs.declared.rows.StoredRow.TheVariants as stored
use Rattle.table_meaning.specs.declared.tables.TableName.TheVariants as table
use Rattle.table_meaning.specs.Rows.{setting_key, account_key, app_key, version_key, class_key, unit_key, mark_key, host_key, instance_key, columns_of, rows_in, look_up}
use Rattle.table_meaning.specs.Worlds.{BatchText, SlotCalls, HoldWorld, account_row, app_row, version_row, class_row, unit_row, mark_row, host_row, instance_row}
use Rattle.table_worlds.specs.ReadBack.{number_at, text_at, account_in, app_in, version_in, host_in, job_in}
use Rattle.table_worlds.specs.Readable.{IsReadable}
use Rattle.table_worlds.specs.StoredWorld.{settings_in, accounts_in, apps_in, versions_in, hosts_in, jobs_in, version_of, book_in, book_of, units_in, greatest, world_in, HeldIsReadBack}
use Rattle.table_worlds.proofs.ByNumber.{list_back, places_found, places_back}
use Rattle.table_worlds.proofs.ByPlace.{all_nth}
use Rattle.table_worlds.proofs.ReadBack.{account_back, app_back, version_back, unit_back, host_back, job_back}
use Rattle.texts.specs.Words.{IsWord}

-- a switch is read back from its number
switch_back : (on : Bool) → ((if on then 1 else 0) == 1) ≡ on
switch_back true = refl
switch_back false = refl

module _ (db : Database) (w : World) (calls : SlotCalls) (batches : List ℕ → List ℕ → Option BatchText) (holds : HoldWorld db w calls batches) (readable : IsReadable w) where
  abbrev trees : Trees
  trees = db.trees

  -- the columns of the row at a key
  abbrev row_shown : Option Row → Row
  row_shown o = unwrap_or o []

  -- each setting is read back by its name
  settings_back : settings_in trees ≡ w.settings
  settings_back =
      let quota = ap (λ o. number_at (row_shown o) 1) (holds.rows (setting_key (codes "daily_result_quota"))) in
      let hosts = ap (λ o. number_at (row_shown o) 1) (holds.rows (setting_key (codes "max_hosts"))) in
      let in_progress = ap (λ o. number_at (row_shown o) 1) (holds.rows (setting_key (codes "max_wus_in_progress"))) in
      let to_send = ap (λ o. number_at (row_shown o) 1) (holds.rows (setting_key (codes "max_wus_to_send"))) in
      let key = ap (λ o. text_at (row_shown o) 1) (holds.rows (setting_key (codes "operator_key"))) in
      let delay = ap (λ o. number_at (row_shown o) 1) (holds.rows (setting_key (codes "request_delay"))) in
      let resend = ap (λ o. number_at (row_shown o) 1 == 1) (holds.rows (setting_key (codes "resend_lost_results"))) ∙ switch_back w.settings.resend_lost_results in
      λ i. record {
        daily_result_quota = quota i;
        max_hosts = hosts i;
        max_wus_in_progress = in_progress i;
        max_wus_to_send = to_send i;
        operator_key = key i;
        request_delay = delay i;
        resend_lost_results = resend i;
      }

  -- accounts, applications, versions and hosts are read back by their places; a version names its application by its place
  accounts_back : accounts_in trees ≡ w.accounts
  accounts_back =
      places_back trees table.Account account_key (λ n. refl) (λ n (a : Account). stored.Account (account_row n a)) (λ n a. refl) (λ n. account_in) w.accounts
      (λ n. holds.rows (account_key n)) (λ n a stands. account_back n a)

  apps_back : apps_in trees ≡ w.apps
  apps_back =
      places_back trees table.App app_key (λ n. refl) (λ n (a : App). stored.App (app_row n a)) (λ n a. refl) (λ n. app_in) w.apps
      (λ n. holds.rows (app_key n)) (λ n a stands. app_back n a)

  versions_back : versions_in trees ≡ w.versions
  versions_back =
      places_found trees table.Version version_key (λ n. refl) (λ n (v : Version). stored.Version (version_row w n v)) (λ n v. refl)
      (λ n. option_and_then (version_of trees n) (look_up trees (version_key n))) (λ n none. ap (option_and_then (version_of trees n)) none) w.versions
      (λ n. holds.rows (version_key n))
      (λ n v stands shows.
      let row = columns_of (stored.Version (version_row w n v)) in
      let class = holds.rows (class_key n) ∙ ap (λ o. option_map columns_of (option_map (λ (v : Version). stored.VersionClass (class_row n v)) o)) stands in
      ap (option_and_then (version_of trees n)) shows ∙ ap (option_map (version_in (apps_in trees) row)) class
      ∙ ap Some (version_back (apps_in trees) w apps_back n v (all_nth (λ (v : Version). has_app w.apps v.app ≡ true) w.versions n v stands readable.versions)))

  hosts_back : hosts_in trees ≡ w.hosts
  hosts_back =
      places_back trees table.Host host_key (λ n. refl) (λ n (h : HostRow). stored.Host (host_row (length (held_by w n)) (host_credit w n) n h)) (λ n h. refl) (λ n. host_in) w.hosts
      (λ n. holds.rows (host_key n))
      (λ n h stands. host_back (length (held_by w n)) (host_credit w n) n h (all_nth (λ (h : HostRow). (1 ≤ length h.platforms) × All IsWord h.platforms) w.hosts n h stands readable.hosts))

  -- the instances of a workunit are read back by their numbers
  jobs_back : (unit : ℕ) (b : UnitBook) → unit_at w unit ≡ Some b → jobs_in trees unit ≡ b.instances
  jobs_back unit b is =
      list_back trees table.Instance 1 (instance_key unit) (λ n. refl) (λ n (x : Job). stored.Instance (instance_row w b unit n x)) (λ n x. refl) (λ n. job_in) b.instances 0
      (λ i n at.
      let index : n ≡ i = omega (arith, at) in
      holds.rows (instance_key unit n)
      ∙ ap (λ o. option_map columns_of (option_and_then (λ (b : UnitBook). option_map (λ (x : Job). stored.Instance (instance_row w b unit n x)) (slice_get b.instances n)) o)) is
      ∙ ap (λ j. option_map columns_of (option_map (λ (x : Job). stored.Instance (instance_row w b unit n x)) (slice_get b.instances j))) index)
      (λ i n x at stands. job_back w b unit n x)
      (greatest 1 (rows_in trees table.Instance) + 1) (omega arith)

  -- and so is each workunit with its instances
  units_back : units_in trees ≡ w.units
  units_back =
      places_found trees table.Unit unit_key (λ n. refl) (λ n (b : UnitBook). stored.Unit (unit_row w n b)) (λ n b. refl)
      (λ n. option_and_then (book_of trees n) (look_up trees (unit_key n))) (λ n none. ap (option_and_then (book_of trees n)) none) w.units
      (λ n. holds.rows (unit_key n))
      (λ n b stands shows.
      let row = columns_of (stored.Unit (unit_row w n b)) in
      let mark = holds.rows (mark_key n) ∙ ap (λ o. option_map columns_of (option_map (λ (b : UnitBook). stored.UnitMark (mark_row n b)) o)) stands in
      let unit = unit_back (apps_in trees) w apps_back n b (all_nth (λ (b : UnitBook). has_app w.apps b.unit.app ≡ true) w.units n b stands readable.units) in
      let instances = jobs_back n b stands in
      ap (option_and_then (book_of trees n)) shows ∙ ap (option_map (book_in trees n row)) mark ∙ (λ i. Some (record { unit = unit i; instances = instances i })))

  world_back : world_in db.trees ≡ w
  unfolding world_in
  world_back = λ i. record { settings = settings_back i; accounts = accounts_back i; apps = apps_back i; versions = versions_back i; units = units_back i; hosts = hosts_back i }

-- the world that tables hold is the world in them
pub held_is_read_back : HeldIsReadBack
held_is_read_back db w calls batches holds readable = world_back db w calls batches holds readable
