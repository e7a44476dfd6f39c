-- If a world has a row at a key, it still has one there after changes.
use Rattle.std.proofs.Common.{◌≡◌, ℕ, zero, suc, ◌-◌, ◌≤◌, Bool, true, false, cond, eqb, List, [], ◌∷◌, ◌++◌, length, map, Option, Some, None, option_map, option_and_then, refl, sym, ap, ◌∙◌, arith, nat_lt}
use Rattle.std.specs.Prelude.{slice_get, slice_set}
use Rattle.std.proofs.lemmas.List.{length-append, length-set}
use Rattle.std.proofs.lemmas.Option.{none-some, slice_get_past}
use Rattle.sched_book.specs.Delta.{set_at, set_nth, with_instance, edited_one, edited, applied}
use Rattle.sched_book.specs.Classes.{with_class}
use Rattle.sched_book.specs.Imports.{new_unit, with_rows}
use Rattle.sched_book.specs.Places.{nth, unit_at}
use Rattle.sched_book.specs.Reports.{modify_nth}
use Rattle.sched_book.specs.declared.delta.Delta.{Delta}
use Rattle.sched_book.specs.declared.delta.Delta.TheVariants as delta
use Rattle.sched_book.specs.declared.delta.Edit.{Edit}
use Rattle.sched_book.specs.declared.delta.Edit.TheVariants as edit
use Rattle.sched_book.specs.declared.instance.Instance.{Instance as Job}
use Rattle.sched_book.specs.declared.instance.UnitBook.{UnitBook}
use Rattle.sched_book.specs.declared.rows.Rows.{Rows}
use Rattle.sched_book.specs.declared.rows.Rows.TheVariants as rows
use Rattle.sched_book.specs.declared.world.World.{World}
use Rattle.sched_book.proofs.PlacesOf.{nth-suc, nth-front, nth-modify_nth, length-modify_nth}
use Rattle.table_meaning.specs.declared.rows.StoredRow.{StoredRow}
use Rattle.table_worlds.specs.declared.keys.WorldKey.{WorldKey}
use Rattle.table_worlds.specs.declared.keys.WorldKey.TheVariants.{Account, App, Version, Class, Unit, Mark, Host, Instance}
use Rattle.table_worlds.specs.Keys.{row_in}

-- ---- by lengths

beyond : {X : Type 0} (xs : List X) (i : ℕ) → slice_get xs i ≡ None → length xs ≤ i
beyond [] i none = omega arith
beyond (x ∷ xs) zero none = absurd (none-some x (sym none))
beyond (x ∷ xs) (suc i) none = omega (arith, beyond xs i none)

no_more : {X : Type 0} (xs ys : List X) (i : ℕ) → length xs ≤ length ys → slice_get ys i ≡ None → slice_get xs i ≡ None
no_more xs ys i fewer none = slice_get_past xs i (omega (arith, fewer, beyond ys i none))

none_at : {X : Type 0} (xs ys : List X) (n : ℕ) → length xs ≤ length ys → nth ys n ≡ None → nth xs n ≡ None
none_at xs ys zero fewer none = refl
none_at xs ys (suc i) fewer none = nth-suc xs i ∙ no_more xs ys i fewer (sym (nth-suc ys i) ∙ none)

more_behind : {X : Type 0} (xs more : List X) → length xs ≤ length (xs ++ more)
more_behind xs more = omega (arith, length-append xs more)

more_set : {X : Type 0} (xs : List X) (i : ℕ) (x : X) → length xs ≤ length (set_at xs i x)
more_set xs i x = cases (nat_lt i (length xs))
  where
    cases : (b : Bool) → length xs ≤ length (cond b (slice_set xs i x) (xs ++ x ∷ []))
    cases true = omega (arith, length-set xs i x)
    cases false = more_behind xs (x ∷ [])

more_put : {X : Type 0} (xs : List X) (n : ℕ) (x : X) → length xs ≤ length (set_nth xs n x)
more_put xs n x = cases (eqb n 0)
  where
    cases : (b : Bool) → length xs ≤ length (cond b xs (set_at xs (n - 1) x))
    cases true = omega arith
    cases false = more_set xs (n - 1) x

-- ---- one change

no_source : {X Y : Type 0} (f : X → Y) (o : Option X) → option_map f o ≡ None → o ≡ None
no_source f None none = refl
no_source f (Some x) none = absurd (none-some (f x) (sym none))

abbrev job_at : ℕ → Option UnitBook → Option Job
job_at k o = option_and_then (λ (b : UnitBook). slice_get b.instances k) o

no_job : (f : UnitBook → Job → StoredRow) (k : ℕ) (o : Option UnitBook) → option_and_then (λ (b : UnitBook). option_map (f b) (slice_get b.instances k)) o ≡ None → job_at k o ≡ None
no_job f k None none = refl
no_job f k (Some b) none = no_source (f b) (slice_get b.instances k) none

no_job_row : (f : UnitBook → Job → StoredRow) (k : ℕ) (o : Option UnitBook) → job_at k o ≡ None → option_and_then (λ (b : UnitBook). option_map (f b) (slice_get b.instances k)) o ≡ None
no_job_row f k None none = refl
no_job_row f k (Some b) none = ap (option_map (f b)) none

-- no list is shorter, and each place that had an instance still has one
record NoFewer (w w' : World) : Type 0 where
  accounts : length w.accounts ≤ length w'.accounts
  apps : length w.apps ≤ length w'.apps
  versions : length w.versions ≤ length w'.versions
  units : length w.units ≤ length w'.units
  hosts : length w.hosts ≤ length w'.hosts
  jobs : (unit number : ℕ) → job_at number (unit_at w' unit) ≡ None → job_at number (unit_at w unit) ≡ None

same : (xs : ℕ) → xs ≤ xs
same n = omega arith

new_unit_jobs : (bs more : List UnitBook) (unit number : ℕ) → job_at number (nth (bs ++ more) unit) ≡ None → job_at number (nth bs unit) ≡ None
new_unit_jobs bs more unit number none = cases (nth bs unit) refl
  where
    cases : (o : Option UnitBook) → nth bs unit ≡ o → job_at number o ≡ None
    cases None at = refl
    cases (Some b) at = ap (job_at number) (sym (nth-front bs more unit b at)) ∙ none

changed_jobs : (f : UnitBook → UnitBook) → ((b : UnitBook) → length b.instances ≤ length (f b).instances)
    → (p : ℕ) (bs : List UnitBook) (unit number : ℕ) → job_at number (nth (modify_nth f bs p) unit) ≡ None → job_at number (nth bs unit) ≡ None
changed_jobs f more p bs unit number none = cases (eqb p unit) (nth bs unit) (sym (ap (job_at number) (nth-modify_nth f bs p unit)) ∙ none)
  where
    cases : (c : Bool) (o : Option UnitBook) → job_at number (cond c (option_map f o) o) ≡ None → job_at number o ≡ None
    cases true None none = refl
    cases true (Some b) none = no_more b.instances (f b).instances number (more b) none
    cases false o none = none

module _ (w : World) where
  units_stay : (e : Edit) → length w.units ≤ length (edited_one w e).units
  units_stay (edit.Host number h) = same (length w.units)
  units_stay (edit.Instance p x) = let long = length-modify_nth (with_instance p.number x) w.units p.unit in omega (arith, long)
  units_stay (edit.Class unit class) = let long = length-modify_nth (with_class class) w.units unit in omega (arith, long)

  hosts_stay : (e : Edit) → length w.hosts ≤ length (edited_one w e).hosts
  hosts_stay (edit.Host number h) = more_put w.hosts number h
  hosts_stay (edit.Instance p x) = same (length w.hosts)
  hosts_stay (edit.Class unit class) = same (length w.hosts)

  jobs_stay : (e : Edit) (unit number : ℕ) → job_at number (unit_at (edited_one w e) unit) ≡ None → job_at number (unit_at w unit) ≡ None
  jobs_stay (edit.Host number h) = λ unit number none. none
  jobs_stay (edit.Instance p x) = changed_jobs (with_instance p.number x) (λ b. more_set b.instances p.number x) p.unit w.units
  jobs_stay (edit.Class unit class) = changed_jobs (with_class class) (λ b. same (length b.instances)) unit w.units

  lists_stay : (e : Edit) → (length w.accounts ≤ length (edited_one w e).accounts) × (length w.apps ≤ length (edited_one w e).apps)
      × (length w.versions ≤ length (edited_one w e).versions)
  lists_stay (edit.Host number h) = (same (length w.accounts), same (length w.apps), same (length w.versions))
  lists_stay (edit.Instance p x) = (same (length w.accounts), same (length w.apps), same (length w.versions))
  lists_stay (edit.Class unit class) = (same (length w.accounts), same (length w.apps), same (length w.versions))

  one_edit : (e : Edit) → NoFewer w (edited_one w e)
  one_edit e = record {
    accounts = (lists_stay e).0;
    apps = (lists_stay e).1;
    versions = (lists_stay e).2;
    units = units_stay e;
    hosts = hosts_stay e;
    jobs = jobs_stay e;
  }

  -- new rows come after the others
  new_rows : (new : Rows) → NoFewer w (with_rows w new)
  new_rows (rows.Accounts xs) = record {
    accounts = more_behind w.accounts xs;
    apps = same (length w.apps);
    versions = same (length w.versions);
    units = same (length w.units);
    hosts = same (length w.hosts);
    jobs = λ unit number none. none;
  }
  new_rows (rows.Apps xs) = record {
    accounts = same (length w.accounts);
    apps = more_behind w.apps xs;
    versions = same (length w.versions);
    units = same (length w.units);
    hosts = same (length w.hosts);
    jobs = λ unit number none. none;
  }
  new_rows (rows.Versions xs) = record {
    accounts = same (length w.accounts);
    apps = same (length w.apps);
    versions = more_behind w.versions xs;
    units = same (length w.units);
    hosts = same (length w.hosts);
    jobs = λ unit number none. none;
  }
  new_rows (rows.Workunits xs) = record {
    accounts = same (length w.accounts);
    apps = same (length w.apps);
    versions = same (length w.versions);
    units = more_behind w.units (map new_unit xs);
    hosts = same (length w.hosts);
    jobs = new_unit_jobs w.units (map new_unit xs);
  }

none_between : (w w' : World) → NoFewer w w' → (key : WorldKey) → row_in w' key ≡ None → row_in w key ≡ None
none_between w w' grown (Account id) none = ap (option_map _) (none_at w.accounts w'.accounts id grown.accounts (no_source _ _ none))
none_between w w' grown (App id) none = ap (option_map _) (none_at w.apps w'.apps id grown.apps (no_source _ _ none))
none_between w w' grown (Version id) none = ap (option_map _) (none_at w.versions w'.versions id grown.versions (no_source _ _ none))
none_between w w' grown (Class id) none = ap (option_map _) (none_at w.versions w'.versions id grown.versions (no_source _ _ none))
none_between w w' grown (Unit id) none = ap (option_map _) (none_at w.units w'.units id grown.units (no_source _ _ none))
none_between w w' grown (Mark id) none = ap (option_map _) (none_at w.units w'.units id grown.units (no_source _ _ none))
none_between w w' grown (Host id) none = ap (option_map _) (none_at w.hosts w'.hosts id grown.hosts (no_source _ _ none))
none_between w w' grown (Instance p) none = no_job_row _ p.number (unit_at w p.unit) (grown.jobs p.unit p.number (no_job _ p.number (unit_at w' p.unit) none))

none_after : (w : World) (edits : List Edit) (key : WorldKey) → row_in (edited w edits) key ≡ None → row_in w key ≡ None
none_after w [] key none = none
none_after w (e ∷ es) key none = none_between w (edited_one w e) (one_edit w e) key (none_after (edited_one w e) es key none)

-- after any changes
pub none_goes : (w : World) (changes : Delta) (key : WorldKey) → row_in (applied w changes) key ≡ None → row_in w key ≡ None
none_goes w (delta.Rows new) key none = none_between w (with_rows w new) (new_rows w new) key none
none_goes w (delta.Edits edits) key none = none_after w edits key none
