-- What a world has at a place follows from its rows there. So worlds with the same rows there have the same.
use Rattle.std.proofs.Common.{◌≡◌, ℕ, Bool, true, false, ◌&&◌, List, [], length, Option, Some, None, option_map, refl, sym, ap, ◌∙◌}
use mathlib.Core.Bool.{and_comm}
use Rattle.std.specs.Prelude.{◌≤◌, All, is_none, option_and_then, slice_get, unwrap_or}
use Rattle.sched_book.proofs.ByPlace.{same_by_place}
use Rattle.sched_book.specs.Count.{is_open}
use Rattle.sched_book.specs.Desk.{workunit_at, instances_at}
use Rattle.sched_book.specs.Imports.{has_app}
use Rattle.sched_book.specs.Places.{nth, status_of, unit_at, host_at, held_by, host_credit}
use Rattle.sched_book.specs.declared.instance.Instance.{Instance as Job}
use Rattle.sched_book.specs.declared.instance.UnitBook.{UnitBook}
use Rattle.sched_book.specs.declared.rows.Account.{Account}
use Rattle.sched_book.specs.declared.rows.App.{App}
use Rattle.sched_book.specs.declared.rows.HostRow.{HostRow}
use Rattle.sched_book.specs.declared.rows.Version.{Version}
use Rattle.sched_book.specs.declared.rows.Workunit.{Workunit}
use Rattle.sched_book.specs.declared.world.World.{World}
use Rattle.table_desk.specs.Columns.{counted_host_at}
use Rattle.table_desk.proofs.Waiting.{open_code}
use Rattle.table_meaning.specs.declared.rows.StoredRow.{StoredRow}
use Rattle.table_meaning.specs.declared.rows.StoredRow.TheVariants as stored
use Rattle.table_meaning.specs.Rows.{columns_of}
use Rattle.table_meaning.specs.Worlds.{account_row, app_row, version_row, class_row, unit_row, mark_row, host_row, instance_row, is_queued}
use Rattle.table_worlds.proofs.ByPlace.{all_nth}
use Rattle.table_worlds.proofs.ReadBack.{app_back, version_back, unit_back, host_back, job_back}
use Rattle.table_worlds.specs.Keys.{row_in}
use Rattle.table_worlds.specs.ReadBack.{account_in, app_in, version_in, unit_in}
use Rattle.table_worlds.specs.Readable.{IsReadable}
use Rattle.table_cache.specs.Carrying.{job_of, counted_of}
use Rattle.table_desk.specs.WaitingWindow.{waiting_of}
use Rattle.table_cache.specs.Keys.{title_at}
use Rattle.table_worlds.specs.declared.keys.WorldKey.TheVariants.{Account as account_at, App as app_at, Version as version_at, Class as class_at, Unit as unit_key_at, Mark as mark_at, Host as host_key_at, Instance as job_at}
use Rattle.texts.specs.Words.{IsWord}

-- ---- what rows tell

abbrev account_of : StoredRow → Account
account_of row = account_in (columns_of row)

abbrev app_of : StoredRow → App
app_of row = app_in (columns_of row)

abbrev version_of : List App → Option StoredRow → Option StoredRow → Option Version
version_of apps row class = option_and_then (λ r. option_map (λ c. version_in apps (columns_of r) (columns_of c)) class) row

abbrev workunit_of : List App → Option StoredRow → Option StoredRow → Option Workunit
workunit_of apps row mark = option_and_then (λ r. option_map (λ m. unit_in apps (columns_of r) (columns_of m)) mark) row

-- whether the instance of a row waits
abbrev pub queued_of : StoredRow → Bool
queued_of (stored.Instance row) = row.queued
queued_of other = false

-- the name of the workunit of a row
abbrev pub title_of : StoredRow → List ℕ
title_of (stored.Unit row) = row.name
title_of other = []

-- ---- lists by what is at each place

-- ---- a world follows from its rows

pub waiting_told : (w : World) (unit num : ℕ) → waiting_of w unit num ≡ option_map queued_of (row_in w (job_at (record { unit = unit; number = num })))
waiting_told w unit num = go (unit_at w unit)
  where
    of_job : (b : UnitBook) (x : Job) → (is_open (status_of w b) && is_none x.owner) ≡ is_queued w b x
    of_job b x = and_comm (is_open (status_of w b)) (is_none x.owner) ∙ ap (λ t. is_none x.owner && t) (sym (open_code (status_of w b)))

    of_book : (b : UnitBook) (o : Option Job)
        → option_map (λ (x : Job). is_open (status_of w b) && is_none x.owner) o ≡ option_map queued_of (option_map (λ (x : Job). stored.Instance (instance_row w b unit num x)) o)
    of_book b None = refl
    of_book b (Some x) = ap Some (of_job b x)

    go : (o : Option UnitBook)
        → option_and_then (λ (b : UnitBook). option_map (λ (x : Job). is_open (status_of w b) && is_none x.owner) (slice_get b.instances num)) o
        ≡ option_map queued_of (option_and_then (λ (b : UnitBook). option_map (λ (x : Job). stored.Instance (instance_row w b unit num x)) (slice_get b.instances num)) o)
    go None = refl
    go (Some b) = of_book b (slice_get b.instances num)

pub title_told : (w : World) (n : ℕ) → title_at w n ≡ option_map title_of (row_in w (unit_key_at n))
title_told w n = go (unit_at w n)
  where
    go : (o : Option UnitBook) → option_map (λ (u : Workunit). u.name) (option_map (λ (b : UnitBook). b.unit) o) ≡ option_map title_of (option_map (λ (b : UnitBook). stored.Unit (unit_row w n b)) o)
    go None = refl
    go (Some b) = refl

module _ (w : World) (readable : IsReadable w) where
  account_told : (n : ℕ) → nth w.accounts n ≡ option_map account_of (row_in w (account_at n))
  account_told n = go (nth w.accounts n)
    where
      go : (o : Option Account) → o ≡ option_map account_of (option_map (λ (a : Account). stored.Account (account_row n a)) o)
      go None = refl
      go (Some a) = refl

  app_told : (n : ℕ) → nth w.apps n ≡ option_map app_of (row_in w (app_at n))
  app_told n = go (nth w.apps n)
    where
      go : (o : Option App) → o ≡ option_map app_of (option_map (λ (a : App). stored.App (app_row n a)) o)
      go None = refl
      go (Some a) = ap Some (sym (app_back n a))

  version_told : (n : ℕ) → nth w.versions n ≡ version_of w.apps (row_in w (version_at n)) (row_in w (class_at n))
  version_told n = go (nth w.versions n) refl
    where
      go : (o : Option Version) → nth w.versions n ≡ o
          → o ≡ version_of w.apps (option_map (λ (v : Version). stored.Version (version_row w n v)) o) (option_map (λ (v : Version). stored.VersionClass (class_row n v)) o)
      go None stands = refl
      go (Some v) stands = ap Some (sym (version_back w.apps w refl n v (all_nth (λ (v : Version). has_app w.apps v.app ≡ true) w.versions n v stands readable.versions)))

  workunit_told : (n : ℕ) → workunit_at w n ≡ workunit_of w.apps (row_in w (unit_key_at n)) (row_in w (mark_at n))
  workunit_told n = go (unit_at w n) refl
    where
      go : (o : Option UnitBook) → unit_at w n ≡ o
          → option_map (λ (b : UnitBook). b.unit) o ≡ workunit_of w.apps (option_map (λ (b : UnitBook). stored.Unit (unit_row w n b)) o) (option_map (λ (b : UnitBook). stored.UnitMark (mark_row n b)) o)
      go None stands = refl
      go (Some b) stands = ap Some (sym (unit_back w.apps w refl n b (all_nth (λ (b : UnitBook). has_app w.apps b.unit.app ≡ true) w.units n b stands readable.units)))

  pub host_told : (n : ℕ) → counted_host_at w n ≡ option_map counted_of (row_in w (host_key_at n))
  host_told n = go (host_at w n) refl
    where
      go : (o : Option HostRow) → host_at w n ≡ o
          → option_map (λ (h : HostRow). record { row = h; held = length (held_by w n); credit = host_credit w n }) o
          ≡ option_map counted_of (option_map (λ (h : HostRow). stored.Host (host_row (length (held_by w n)) (host_credit w n) n h)) o)
      go None stands = refl
      go (Some h) stands =
          let row = host_back (length (held_by w n)) (host_credit w n) n h (all_nth (λ (h : HostRow). (1 ≤ length h.platforms) × All IsWord h.platforms) w.hosts n h stands readable.hosts) in
          ap (λ (r : HostRow). Some (record { row = r; held = length (held_by w n); credit = host_credit w n })) (sym row)

  pub job_told : (unit num : ℕ) → slice_get (instances_at w unit) num ≡ option_map job_of (row_in w (job_at (record { unit = unit; number = num })))
  job_told unit num = go (unit_at w unit)
    where
      of_book : (b : UnitBook) (o : Option Job) → o ≡ option_map job_of (option_map (λ (x : Job). stored.Instance (instance_row w b unit num x)) o)
      of_book b None = refl
      of_book b (Some x) = ap Some (sym (job_back w b unit num x))

      go : (o : Option UnitBook)
          → slice_get (unwrap_or (option_map (λ (b : UnitBook). b.instances) o) []) num
          ≡ option_map job_of (option_and_then (λ (b : UnitBook). option_map (λ (x : Job). stored.Instance (instance_row w b unit num x)) (slice_get b.instances num)) o)
      go None = refl
      go (Some b) = of_book b (slice_get b.instances num)

-- ---- worlds with the same rows

module _ (w w' : World) (readable : IsReadable w) (readable' : IsReadable w') where
  pub same_accounts : ((n : ℕ) → row_in w (account_at n) ≡ row_in w' (account_at n)) → w.accounts ≡ w'.accounts
  same_accounts same = same_by_place w.accounts w'.accounts (λ n. account_told w readable n ∙ ap (option_map account_of) (same n) ∙ sym (account_told w' readable' n))

  pub same_apps : ((n : ℕ) → row_in w (app_at n) ≡ row_in w' (app_at n)) → w.apps ≡ w'.apps
  same_apps same = same_by_place w.apps w'.apps (λ n. app_told w readable n ∙ ap (option_map app_of) (same n) ∙ sym (app_told w' readable' n))

  pub same_versions : w.apps ≡ w'.apps → ((n : ℕ) → row_in w (version_at n) ≡ row_in w' (version_at n)) → ((n : ℕ) → row_in w (class_at n) ≡ row_in w' (class_at n)) → w.versions ≡ w'.versions
  same_versions apps rows classes = same_by_place w.versions w'.versions (λ n.
      version_told w readable n ∙ (λ i. version_of (apps i) (rows n i) (classes n i)) ∙ sym (version_told w' readable' n))

  pub same_workunit : (n : ℕ) → w.apps ≡ w'.apps → row_in w (unit_key_at n) ≡ row_in w' (unit_key_at n) → row_in w (mark_at n) ≡ row_in w' (mark_at n) → workunit_at w n ≡ workunit_at w' n
  same_workunit n apps row mark = workunit_told w readable n ∙ (λ i. workunit_of (apps i) (row i) (mark i)) ∙ sym (workunit_told w' readable' n)

  pub same_host : (n : ℕ) → row_in w (host_key_at n) ≡ row_in w' (host_key_at n) → counted_host_at w n ≡ counted_host_at w' n
  same_host n row = host_told w readable n ∙ ap (option_map counted_of) row ∙ sym (host_told w' readable' n)
