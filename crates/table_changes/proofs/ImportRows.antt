-- The rows of a world that an import made one row longer, compared with those of the world before.
use Rattle.std.proofs.Common.{◌≡◌, ◌⊎◌, ℕ, zero, suc, ◌+◌, ◌*◌, ◌<◌, ◌≤◌, Bool, true, false, cond, eqb, ◌&&◌, ◌||◌, List, [], ◌∷◌, ◌++◌, length, map, take, get_or, Option, Some, None, option_map, option_and_then, refl, sym, ap, subst, ◌∙◌, inl, inr, arith, true≢false, append_assoc, append-nil, length-append}
use Rattle.std.specs.Prelude.{All, replicate, count_by, sum_by, slice_get, is_none}
use Rattle.std.proofs.lemmas.Bool.{eq-eqb, eqb-true}
use Rattle.std.proofs.lemmas.List.Elements.{All-head, All-tail}
use Rattle.std.proofs.lemmas.List.Sums.{sum_by-cons, sum_by-append}
use Rattle.std.proofs.lemmas.List.{map_push, take_more}
use Rattle.std.proofs.lemmas.Option.{none-some}
use Rattle.sched_book.specs.Count.{status, verdict, is_valid}
use Rattle.sched_book.specs.Desk.{counts}
use Rattle.sched_book.specs.Imports.{has_app, new_unit, with_rows}
use Rattle.sched_book.specs.Places.{nth, unit_at, host_at, agreement_by, status_of, held_by, host_credit, is_held_by, is_owned_by, book_verdict, credit_in}
use Rattle.sched_book.specs.Settle.{fresh}
use Rattle.sched_book.specs.declared.desk.Counts.{Counts}
use Rattle.sched_book.specs.declared.instance.Instance.{Instance as Job}
use Rattle.sched_book.specs.declared.instance.Place.{Place}
use Rattle.sched_book.specs.declared.instance.Status.{Status}
use Rattle.sched_book.specs.declared.instance.UnitBook.{UnitBook}
use Rattle.sched_book.specs.declared.rows.Account.{Account as AccountRow}
use Rattle.sched_book.specs.declared.rows.Agreement.{Agreement}
use Rattle.sched_book.specs.declared.rows.App.{App as AppRow}
use Rattle.sched_book.specs.declared.rows.ClassRule.{ClassRule}
use Rattle.sched_book.specs.declared.rows.Rows.{Rows}
use Rattle.sched_book.specs.declared.rows.Rows.TheVariants as kinds
use Rattle.sched_book.specs.declared.rows.Version.{Version as VersionRow}
use Rattle.sched_book.specs.declared.rows.Workunit.{Workunit}
use Rattle.sched_book.specs.declared.world.World.{World}
use Rattle.sched_book.proofs.PlacesOf.{nth-push, nth-front}
use Rattle.table_meaning.specs.Worlds.{account_row, app_row, version_row, class_row, unit_row, mark_row, host_row, instance_row, app_place}
use Rattle.table_meaning.specs.declared.rows.StoredRow.{StoredRow}
use Rattle.table_meaning.specs.declared.rows.StoredRow.TheVariants as stored
use Rattle.table_meaning.specs.Codes.{status_code}
use Rattle.table_worlds.proofs.ByPlace.{all_nth}
use Rattle.table_worlds.proofs.StaysReadable.{rows_stay_readable}
use Rattle.sched_book.proofs.PlaceLists.{places_counted}
use Rattle.table_worlds.specs.Changes.{IsChange, AreChanges}
use Rattle.table_worlds.specs.Keys.{row_in}
use Rattle.table_worlds.specs.Readable.{IsReadable}
use Rattle.table_worlds.specs.declared.keys.WorldKey.{WorldKey}
use Rattle.table_worlds.specs.declared.keys.WorldKey.TheVariants.{Account, App, Version, Class, Unit as UnitKey, Mark, Host, Instance}
use Rattle.table_changes.specs.Added.{is_put, is_instance_among, AreAdded}
use Rattle.table_changes.specs.Imported.{AreImported, HaveImported}
use Rattle.table_changes.proofs.Adding.{IsSettled, KeepsRows, puts_own, put_of_neither, changes_then, no_changes}
use Rattle.table_changes.proofs.CallStateRows.{after_is_change}
use Rattle.table_changes.proofs.AppsFound.{place_stays, agreement_stays, still_stands}

-- ---- lists with one more

nth_new : {X : Type 0} (xs : List X) (x : X) (n : ℕ) → n ≡ length xs + 1 → nth (xs ++ x ∷ []) n ≡ Some x
nth_new xs x n is = nth-push xs x n ∙ ap (λ b. cond b (Some x) (nth xs n)) (eq-eqb (length xs + 1) n (sym is))

kept_by : {X : Type 0} (f : X → StoredRow) (xs ys : List X) (n : ℕ) (r : StoredRow) → option_map f (nth xs n) ≡ Some r → option_map f (nth (xs ++ ys) n) ≡ Some r
kept_by f xs ys n r is = cases (nth xs n) refl is
  where
    cases : (o : Option _) → nth xs n ≡ o → option_map f o ≡ Some r → option_map f (nth (xs ++ ys) n) ≡ Some r
    cases None at is = absurd (none-some r is)
    cases (Some y) at is = ap (option_map f) (nth-front xs ys n y at) ∙ is

-- a row of a table with one row more is the new one, or as before
pushed : {X : Type 0} (f : X → StoredRow) (xs : List X) (x : X) (n : ℕ) (P : Type 0) → (n ≡ length xs + 1 → P)
    → P ⊎ (option_map f (nth xs n) ≡ option_map f (nth (xs ++ x ∷ []) n))
pushed f xs x n P new = cases (eqb (length xs + 1) n) refl
  where
    cases : (b : Bool) → eqb (length xs + 1) n ≡ b → P ⊎ (option_map f (nth xs n) ≡ option_map f (nth (xs ++ x ∷ []) n))
    cases true is = inl (new (sym (eqb-true (length xs + 1) n is)))
    cases false is = inr (sym (ap (option_map f) (nth-push xs x n ∙ ap (λ b. cond b (Some x) (nth xs n)) is)))

long : {X : Type 0} (xs : List X) (x : X) (count n : ℕ) → n ≡ count + 1 → count ≡ length xs → n ≡ length (xs ++ x ∷ [])
long xs x count n is counted = is ∙ ap (λ k. k + 1) counted ∙ sym (length-append xs (x ∷ []))

place : {X : Type 0} (xs : List X) (count n : ℕ) → n ≡ count + 1 → count ≡ length xs → n ≡ length xs + 1
place xs count n is counted = is ∙ ap (λ k. k + 1) counted

-- the new row is at its number
own_row : {X : Type 0} (f : ℕ → X → StoredRow) (xs : List X) (x : X) (n : ℕ) (row : StoredRow) → n ≡ length xs + 1 → row ≡ f n x → (id : ℕ) → id ≡ length xs + 1 → option_map (f id) (nth (xs ++ x ∷ []) id) ≡ Some row
own_row f xs x n row at_end is id last = ap (option_map (f id)) (nth_new xs x id last) ∙ ap (λ m. Some (f m x)) (last ∙ sym at_end) ∙ ap Some (sym is)

-- and the others of its table are as before
others_stay : {X : Type 0} (u : World) (k : WorldKey) (f : X → StoredRow) (xs : List X) (x : X) (id : ℕ) (row : StoredRow) (more : List StoredRow) → (id ≡ length xs + 1 → row_in u k ≡ Some row)
    → is_put (row ∷ more) k ≡ false → (row_in u k ≡ None) ⊎ (option_map f (nth xs id) ≡ option_map f (nth (xs ++ x ∷ []) id))
others_stay u k f xs x id row more own not_put =
    elim (pushed f xs x id (is_put (row ∷ more) k ≡ true) (λ last. puts_own u k row more (own last))) [ inl put ↦ absurd (true≢false (sym put ∙ not_put)) | inr same ↦ inr same ]

-- ---- one account more

module _ (w v : World) (count : Counts) (rows new : List StoredRow) (n : ℕ) (row : StoredRow) (so_far : AreImported w v count rows) (behind : new ≡ rows ++ row ∷ []) where
  pub account_added : (a : AccountRow) → n ≡ count.accounts + 1 → row ≡ stored.Account (account_row n a)
      → AreImported w (with_rows v (kinds.Accounts (a ∷ []))) (record count { accounts = n }) new
  account_added a next is = record {
    counted =
        ap (λ (c : Counts). record c { accounts = n }) so_far.counted
        ∙ ap (λ k. record (counts v) { accounts = k }) (long v.accounts a count.accounts n next (ap (λ (c : Counts). c.accounts) so_far.counted));
    apps = so_far.apps;
    readable = rows_stay_readable v (kinds.Accounts (a ∷ [])) so_far.readable refl;
    changes = changes_then w v u rows (row ∷ []) new keeps behind step so_far.changes;
  }
    where
      u : World
      u = with_rows v (kinds.Accounts (a ∷ []))

      at_end : n ≡ length v.accounts + 1
      at_end = place v.accounts count.accounts n next (ap (λ (c : Counts). c.accounts) so_far.counted)

      own : (id : ℕ) → id ≡ length v.accounts + 1 → row_in u (Account id) ≡ Some row
      own = own_row (λ m (b : AccountRow). stored.Account (account_row m b)) v.accounts a n row at_end is

      keeps : KeepsRows v u
      keeps (Account id) r at = kept_by (λ (b : AccountRow). stored.Account (account_row id b)) v.accounts (a ∷ []) id r at
      keeps _ r at = at

      settled : (k : WorldKey) → is_put (row ∷ []) k ≡ false → IsSettled v u k
      settled (Account id) not_put = others_stay u (Account id) (λ (b : AccountRow). stored.Account (account_row id b)) v.accounts a id row [] (own id) not_put
      settled _ not_put = inr refl

      step : AreChanges v u (row ∷ [])
      step = record { each = ((Account n, own n at_end), tt); others = settled }

-- ---- one version more, with its class

module _ (w v : World) (count : Counts) (rows mid new : List StoredRow) (n app : ℕ) (row class : StoredRow) (so_far : AreImported w v count rows)
    (behind : mid ≡ rows ++ row ∷ []) (further : new ≡ mid ++ class ∷ []) where
  pub version_added : (b : VersionRow) → n ≡ count.versions + 1 → app ≡ app_place w b.app → has_app w.apps b.app ≡ true
      → ((x : World) → app ≡ app_place x b.app → row ≡ stored.Version (version_row x n b)) → class ≡ stored.VersionClass (class_row n b)
      → AreImported w (with_rows v (kinds.Versions (b ∷ []))) (record count { versions = n }) new
  version_added b next at_place stands told classed = record {
    counted =
        ap (λ (c : Counts). record c { versions = n }) so_far.counted
        ∙ ap (λ k. record (counts v) { versions = k }) (long v.versions b count.versions n next (ap (λ (c : Counts). c.versions) so_far.counted));
    apps = so_far.apps;
    readable = rows_stay_readable v (kinds.Versions (b ∷ [])) so_far.readable (ap (λ t. t && true) (still_stands w v so_far.apps.0 b.app so_far.apps.1 stands));
    changes = changes_then w v u rows (row ∷ class ∷ []) new keeps
        (further ∙ ap (λ l. l ++ class ∷ []) behind ∙ append_assoc rows (row ∷ []) (class ∷ [])) step so_far.changes;
  }
    where
      u : World
      u = with_rows v (kinds.Versions (b ∷ []))

      at_end : n ≡ length v.versions + 1
      at_end = place v.versions count.versions n next (ap (λ (c : Counts). c.versions) so_far.counted)

      is : row ≡ stored.Version (version_row v n b)
      is = told v (at_place ∙ sym (place_stays w v so_far.apps.0 b.app so_far.apps.1 stands))

      own : (id : ℕ) → id ≡ length v.versions + 1 → row_in u (Version id) ≡ Some row
      own = own_row (λ m (x : VersionRow). stored.Version (version_row v m x)) v.versions b n row at_end is

      own_class : (id : ℕ) → id ≡ length v.versions + 1 → row_in u (Class id) ≡ Some class
      own_class = own_row (λ m (x : VersionRow). stored.VersionClass (class_row m x)) v.versions b n class at_end classed

      keeps : KeepsRows v u
      keeps (Version id) r at = kept_by (λ (x : VersionRow). stored.Version (version_row v id x)) v.versions (b ∷ []) id r at
      keeps (Class id) r at = kept_by (λ (x : VersionRow). stored.VersionClass (class_row id x)) v.versions (b ∷ []) id r at
      keeps _ r at = at

      settled : (k : WorldKey) → is_put (row ∷ class ∷ []) k ≡ false → IsSettled v u k
      settled (Version id) not_put = others_stay u (Version id) (λ (x : VersionRow). stored.Version (version_row v id x)) v.versions b id row (class ∷ []) (own id) not_put
      settled (Class id) not_put =
          others_stay u (Class id) (λ (x : VersionRow). stored.VersionClass (class_row id x)) v.versions b id class [] (own_class id) (put_of_neither (row ∷ []) (class ∷ []) (Class id) not_put).1
      settled _ not_put = inr refl

      step : AreChanges v u (row ∷ class ∷ [])
      step = record { each = ((Version n, own n at_end), ((Class n, own_class n at_end), tt)); others = settled }

-- ---- one application more

-- two functions that agree on each item that passes give the same row at each place, if all items pass
told_alike : {X : Type 0} (P : X → Type 0) (f g : X → StoredRow) → ((x : X) → P x → f x ≡ g x) → (xs : List X) (n : ℕ) → All P xs → option_map f (nth xs n) ≡ option_map g (nth xs n)
told_alike P f g same xs n all = cases (nth xs n) refl
  where
    cases : (o : Option _) → nth xs n ≡ o → option_map f o ≡ option_map g o
    cases None at = refl
    cases (Some x) at = ap Some (same x (all_nth P xs n x at all))

sum_alike : {X : Type 0} (P : X → Type 0) (f g : X → ℕ) → ((x : X) → P x → f x ≡ g x) → (xs : List X) → All P xs → sum_by f xs ≡ sum_by g xs
sum_alike P f g same [] all = refl
sum_alike P f g same (x ∷ xs) all =
    sum_by-cons f x xs
    ∙ ap (λ n. n + sum_by f xs) (same x (All-head P x xs all))
    ∙ ap (λ n. g x + n) (sum_alike P f g same xs (All-tail P x xs all))
    ∙ sym (sum_by-cons g x xs)

module _ (v : World) (a : AppRow) (readable : IsReadable v) where
  abbrev with_app : World
  with_app = with_rows v (kinds.Apps (a ∷ []))

  abbrev NamesApp : VersionRow → Type 0
  NamesApp x = has_app v.apps x.app ≡ true

  abbrev IsOfApp : UnitBook → Type 0
  IsOfApp b = has_app v.apps b.unit.app ≡ true

  agrees : (b : UnitBook) → IsOfApp b → agreement_by v.apps b.unit.app ≡ agreement_by with_app.apps b.unit.app
  agrees b has = sym (agreement_stays v with_app (a ∷ []) b.unit.app refl has)

  places : (name : List ℕ) → has_app v.apps name ≡ true → app_place v name ≡ app_place with_app name
  places name has = sym (place_stays v with_app (a ∷ []) name refl has)

  version_stays : (id : ℕ) → row_in v (Version id) ≡ row_in with_app (Version id)
  version_stays id =
      told_alike NamesApp (λ x. stored.Version (version_row v id x)) (λ x. stored.Version (version_row with_app id x))
      (λ x has. ap (λ m. stored.Version (record (version_row v id x) { app_id = m })) (places x.app has)) v.versions id readable.versions

  unit_stays : (id : ℕ) → row_in v (UnitKey id) ≡ row_in with_app (UnitKey id)
  unit_stays id =
      told_alike IsOfApp (λ b. stored.Unit (unit_row v id b)) (λ b. stored.Unit (unit_row with_app id b))
      (λ b has.
      ap (λ m. stored.Unit (record (unit_row v id b) { app_id = m })) (places b.unit.app has)
      ∙ ap (λ g. stored.Unit (record (unit_row v id b) { app_id = app_place with_app b.unit.app; status = status_code (status g b.unit b.instances) })) (agrees b has))
      v.units id readable.units

  host_stays : (id : ℕ) → row_in v (Host id) ≡ row_in with_app (Host id)
  host_stays id =
      ap (λ n. option_map (λ h. stored.Host (host_row (length (held_by v id)) n id h)) (host_at v id))
      (sum_alike IsOfApp (credit_in v.apps id) (credit_in with_app.apps id)
      (λ b has. ap (λ g. b.unit.credit * count_by (λ x. is_owned_by id x && is_valid (verdict g b.unit b.instances x)) b.instances) (agrees b has)) v.units readable.units)

  instance_stays : (p : Place) → row_in v (Instance p) ≡ row_in with_app (Instance p)
  instance_stays p = cases (unit_at v p.unit) refl
    where
      of_book : World → UnitBook → Option StoredRow
      of_book w b = option_map (λ x. stored.Instance (instance_row w b p.unit p.number x)) (slice_get b.instances p.number)

      of_job : (b : UnitBook) (o : Option Job) → IsOfApp b
          → option_map (λ x. stored.Instance (instance_row v b p.unit p.number x)) o ≡ option_map (λ x. stored.Instance (instance_row with_app b p.unit p.number x)) o
      of_job b None has = refl
      of_job b (Some x) has =
          ap (λ g. Some (stored.Instance (record (instance_row v b p.unit p.number x) { queued = is_none x.owner && eqb (status_code (status g b.unit b.instances)) 0 }))) (agrees b has)

      cases : (o : Option UnitBook) → unit_at v p.unit ≡ o → option_and_then (of_book v) o ≡ option_and_then (of_book with_app) o
      cases None at = refl
      cases (Some b) at = of_job b (slice_get b.instances p.number) (all_nth IsOfApp v.units p.unit b at readable.units)

pub app_added : (w v : World) (count : Counts) (rows new : List StoredRow) (n : ℕ) (row : StoredRow) → AreImported w v count rows → new ≡ rows ++ row ∷ []
    → (a : AppRow) → n ≡ count.apps + 1 → row ≡ stored.App (app_row n a) → AreImported w (with_rows v (kinds.Apps (a ∷ []))) (record count { apps = n }) new
app_added w v count rows new n row so_far behind a next is = record {
  counted =
      ap (λ (c : Counts). record c { apps = n }) so_far.counted
      ∙ ap (λ k. record (counts v) { apps = k }) (long v.apps a count.apps n next (ap (λ (c : Counts). c.apps) so_far.counted));
  apps = (so_far.apps.0 ++ a ∷ [], ap (λ l. l ++ a ∷ []) so_far.apps.1 ∙ append_assoc w.apps so_far.apps.0 (a ∷ []));
  readable = rows_stay_readable v (kinds.Apps (a ∷ [])) so_far.readable refl;
  changes = changes_then w v u rows (row ∷ []) new keeps behind step so_far.changes;
}
  where
    u : World
    u = with_rows v (kinds.Apps (a ∷ []))

    at_end : n ≡ length v.apps + 1
    at_end = place v.apps count.apps n next (ap (λ (c : Counts). c.apps) so_far.counted)

    own : (id : ℕ) → id ≡ length v.apps + 1 → row_in u (App id) ≡ Some row
    own = own_row (λ m (b : AppRow). stored.App (app_row m b)) v.apps a n row at_end is

    keeps : KeepsRows v u
    keeps (App id) r at = kept_by (λ (b : AppRow). stored.App (app_row id b)) v.apps (a ∷ []) id r at
    keeps (Version id) r at = sym (version_stays v a so_far.readable id) ∙ at
    keeps (UnitKey id) r at = sym (unit_stays v a so_far.readable id) ∙ at
    keeps (Host id) r at = sym (host_stays v a so_far.readable id) ∙ at
    keeps (Instance p) r at = sym (instance_stays v a so_far.readable p) ∙ at
    keeps _ r at = at

    settled : (k : WorldKey) → is_put (row ∷ []) k ≡ false → IsSettled v u k
    settled (App id) not_put = others_stay u (App id) (λ (b : AppRow). stored.App (app_row id b)) v.apps a id row [] (own id) not_put
    settled (Version id) not_put = inr (version_stays v a so_far.readable id)
    settled (UnitKey id) not_put = inr (unit_stays v a so_far.readable id)
    settled (Host id) not_put = inr (host_stays v a so_far.readable id)
    settled (Instance p) not_put = inr (instance_stays v a so_far.readable p)
    settled _ not_put = inr refl

    step : AreChanges v u (row ∷ [])
    step = record { each = ((App n, own n at_end), tt); others = settled }

-- ---- one workunit more, with its mark

-- a test that a fresh instance fails counts none of them
none_of_fresh : (p : Job → Bool) (n : ℕ) → p fresh ≡ false → count_by p (replicate n fresh) ≡ 0
none_of_fresh p zero fails = refl
none_of_fresh p (suc n) fails =
    sum_by-cons (λ x. cond {A = ℕ} (p x) 1 0) fresh (replicate n fresh)
    ∙ ap (λ b. cond {A = ℕ} b 1 0 + count_by p (replicate n fresh)) fails
    ∙ ap (λ k. 0 + k) (none_of_fresh p n fails)

sum_stays : (f : UnitBook → ℕ) (bs : List UnitBook) (b : UnitBook) → f b ≡ 0 → sum_by f (bs ++ b ∷ []) ≡ sum_by f bs
sum_stays f bs b none =
    let all : sum_by f (bs ++ b ∷ []) ≡ sum_by f bs + sum_by f (b ∷ []) = sum_by-append f bs (b ∷ []) in
    let last : sum_by f (b ∷ []) ≡ f b + 0 = sum_by-cons f b [] in
    omega (arith, all, last, none)

module _ (w v : World) (count : Counts) (rows one mid new : List StoredRow) (n app : ℕ) (s : Status) (row mark : StoredRow) (u : Workunit) (so_far : AreImported w v count rows)
    (next : n ≡ count.workunits + 1) (at_app : app ≡ app_place w u.app) (stands : has_app w.apps u.app ≡ true) where
  abbrev with_unit : World
  with_unit = with_rows v (kinds.Workunits (u ∷ []))

  at_end : n ≡ length v.units + 1
  at_end = place v.units count.workunits n next (ap (λ (c : Counts). c.workunits) so_far.counted)

  pub new_book : unit_at with_unit n ≡ Some (new_unit u)
  new_book = nth_new v.units (new_unit u) n at_end

  unit_own : ((x : World) (b : UnitBook) (rule : ClassRule) → b.unit ≡ record u { class_rule = rule } → app ≡ app_place x u.app → s ≡ status_of x b → row ≡ stored.Unit (unit_row x n b))
      → s ≡ status_of v (new_unit u) → (id : ℕ) → id ≡ length v.units + 1 → row_in with_unit (UnitKey id) ≡ Some row
  unit_own told first =
      own_row (λ m b. stored.Unit (unit_row v m b)) v.units (new_unit u) n row at_end (told v (new_unit u) u.class_rule refl (at_app ∙ sym (place_stays w v so_far.apps.0 u.app so_far.apps.1 stands)) first)

  mark_own : ((b : UnitBook) → b.unit.class_rule ≡ u.class_rule → mark ≡ stored.UnitMark (mark_row n b)) → (id : ℕ) → id ≡ length v.units + 1 → row_in with_unit (Mark id) ≡ Some mark
  mark_own told = own_row (λ m b. stored.UnitMark (mark_row m b)) v.units (new_unit u) n mark at_end (told (new_unit u) refl)

  abbrev of_book : Place → UnitBook → Option StoredRow
  of_book p b = option_map (λ x. stored.Instance (instance_row v b p.unit p.number x)) (slice_get b.instances p.number)

  host_same : (id : ℕ) → row_in v (Host id) ≡ row_in with_unit (Host id)
  host_same id =
      let before = places_counted (is_held_by id) 1 v.units in
      let after = places_counted (is_held_by id) 1 (v.units ++ new_unit u ∷ []) in
      let held : length (held_by v id) ≡ length (held_by with_unit id) =
      before ∙ sym (after ∙ sum_stays (λ (b : UnitBook). count_by (is_held_by id) b.instances) v.units (new_unit u) (none_of_fresh (is_held_by id) u.target_nresults refl)) in
      let none : credit_in v.apps id (new_unit u) ≡ 0 =
      ap (λ k. u.credit * k) (none_of_fresh (λ x. is_owned_by id x && is_valid (book_verdict v.apps (new_unit u) x)) u.target_nresults refl)
      ∙ (let nothing : u.credit * 0 ≡ 0 = omega arith in nothing) in
      ap (λ k. option_map (λ h. stored.Host (host_row k (host_credit v id) id h)) (host_at v id)) held
      ∙ ap (λ k. option_map (λ h. stored.Host (host_row (length (held_by with_unit id)) k id h)) (host_at v id))
      (sym (sum_stays (credit_in v.apps id) v.units (new_unit u) none))

  unit_keeps : KeepsRows v with_unit
  unit_keeps (UnitKey id) r at = kept_by (λ b. stored.Unit (unit_row v id b)) v.units (new_unit u ∷ []) id r at
  unit_keeps (Mark id) r at = kept_by (λ b. stored.UnitMark (mark_row id b)) v.units (new_unit u ∷ []) id r at
  unit_keeps (Host id) r at = sym (host_same id) ∙ at
  unit_keeps (Instance p) r at = cases (unit_at v p.unit) refl at
    where
      cases : (o : Option UnitBook) → unit_at v p.unit ≡ o → option_and_then (of_book p) o ≡ Some r → option_and_then (of_book p) (unit_at with_unit p.unit) ≡ Some r
      cases None stood is = absurd (none-some r is)
      cases (Some b) stood is = ap (option_and_then (of_book p)) (nth-front v.units (new_unit u ∷ []) p.unit b stood) ∙ is
  unit_keeps _ r at = at

  module _ (fresh_rows : AreAdded (is_instance_among (n ∷ [])) v with_unit mid new) (own : (id : ℕ) → id ≡ length v.units + 1 → row_in with_unit (UnitKey id) ≡ Some row)
      (own_mark : (id : ℕ) → id ≡ length v.units + 1 → row_in with_unit (Mark id) ≡ Some mark) where
    abbrev more : List StoredRow
    more = row ∷ mark ∷ fresh_rows.more

    unit_settled : (k : WorldKey) → is_put more k ≡ false → IsSettled v with_unit k
    unit_settled (UnitKey id) not_put = others_stay with_unit (UnitKey id) (λ b. stored.Unit (unit_row v id b)) v.units (new_unit u) id row (mark ∷ fresh_rows.more) (own id) not_put
    unit_settled (Mark id) not_put =
        others_stay with_unit (Mark id) (λ b. stored.UnitMark (mark_row id b)) v.units (new_unit u) id mark fresh_rows.more (own_mark id) (put_of_neither (row ∷ []) (mark ∷ fresh_rows.more) (Mark id) not_put).1
    unit_settled (Host id) not_put = inr (host_same id)
    unit_settled (Instance p) not_put = cases (eqb (length v.units + 1) p.unit) refl
      where
        cases : (b : Bool) → eqb (length v.units + 1) p.unit ≡ b → IsSettled v with_unit (Instance p)
        cases true is =
            fresh_rows.changes.others (Instance p)
            (ap (λ b. b || false) (eq-eqb n p.unit (at_end ∙ eqb-true (length v.units + 1) p.unit is)))
            (put_of_neither (row ∷ mark ∷ []) fresh_rows.more (Instance p) not_put).1
        cases false is =
            inr (sym (ap (option_and_then (of_book p)) (nth-push v.units (new_unit u) p.unit ∙ ap (λ b. cond b (Some (new_unit u)) (nth v.units p.unit)) is)))
    unit_settled _ not_put = inr refl

    unit_step : AreChanges v with_unit more
    unit_step = record { each = ((UnitKey n, own n at_end), ((Mark n, own_mark n at_end), fresh_rows.changes.each)); others = unit_settled }

  pub unit_added : ((x : World) (b : UnitBook) (rule : ClassRule) → b.unit ≡ record u { class_rule = rule } → app ≡ app_place x u.app → s ≡ status_of x b → row ≡ stored.Unit (unit_row x n b))
      → ((b : UnitBook) → b.unit.class_rule ≡ u.class_rule → mark ≡ stored.UnitMark (mark_row n b))
      → s ≡ status_of v (new_unit u) → one ≡ rows ++ row ∷ [] → mid ≡ one ++ mark ∷ [] → AreAdded (is_instance_among (n ∷ [])) v with_unit mid new
      → AreImported w with_unit (record count { workunits = n }) new
  unit_added told marked first behind further fresh_rows = record {
    counted =
        ap (λ (c : Counts). record c { workunits = n }) so_far.counted
        ∙ ap (λ k. record (counts v) { workunits = k }) (long v.units (new_unit u) count.workunits n next (ap (λ (c : Counts). c.workunits) so_far.counted));
    apps = so_far.apps;
    readable = rows_stay_readable v (kinds.Workunits (u ∷ [])) so_far.readable (ap (λ t. t && true) (still_stands w v so_far.apps.0 u.app so_far.apps.1 stands));
    changes = changes_then w v with_unit rows (row ∷ mark ∷ fresh_rows.more) new unit_keeps
        (fresh_rows.behind ∙ ap (λ l. l ++ fresh_rows.more) (further ∙ ap (λ l. l ++ mark ∷ []) behind ∙ append_assoc rows (row ∷ []) (mark ∷ []))
        ∙ append_assoc rows (row ∷ mark ∷ []) fresh_rows.more)
        (unit_step fresh_rows (unit_own told first) (mark_own marked)) so_far.changes;
  }

-- the status of a new workunit in the present world
pub first_status : (w v : World) (more : List AppRow) (a : Agreement) (s : Status) (u : Workunit) → v.apps ≡ w.apps ++ more → has_app w.apps u.app ≡ true
    → a ≡ agreement_by w.apps u.app → s ≡ status a u (replicate u.target_nresults fresh) → s ≡ status_of v (new_unit u)
first_status w v more a s u apps stands agrees is =
    is ∙ ap (λ g. status g u (replicate u.target_nresults fresh)) (agrees ∙ sym (agreement_stays w v more u.app apps stands))

-- ---- an import as a whole

none_imported : (w v : World) (count : Counts) (rows : List StoredRow) → v ≡ w → IsReadable w → count ≡ counts v → rows ≡ [] → AreImported w w count rows
none_imported w v count rows same readable counted none = record {
  counted = counted ∙ ap counts same;
  apps = ([], sym (append-nil w.apps));
  readable = readable;
  changes = subst (AreChanges w w) (sym none) (no_changes w);
}

-- each instance of a new workunit is fresh, and there is none past the end
of_fresh : (n i : ℕ) → i < n → slice_get (replicate n fresh) i ≡ Some fresh
of_fresh zero i within = absurd (omega (arith, within))
of_fresh (suc n) zero within = refl
of_fresh (suc n) (suc i) within = of_fresh n i (omega (arith, within))

past_fresh : (n i : ℕ) → n ≤ i → slice_get (replicate n fresh) i ≡ None
past_fresh zero i past = refl
past_fresh (suc n) zero past = absurd (omega (arith, past))
past_fresh (suc n) (suc i) past = past_fresh n i (omega (arith, past))

in_book : (v : World) (b : UnitBook) (unit i : ℕ) → unit_at v unit ≡ Some b
    → row_in v (Instance (record { unit = unit; number = i })) ≡ option_map (λ x. stored.Instance (instance_row v b unit i x)) (slice_get b.instances i)
in_book v b unit i stands =
    ap (option_and_then (λ (c : UnitBook). option_map (λ x. stored.Instance (instance_row v c unit i x)) (slice_get c.instances i))) stands

-- the row of an instance of a new workunit
pub fresh_change : (w v : World) (b : UnitBook) (unit count i : ℕ) (s : Status) (x : Job) (row : StoredRow) → unit_at v unit ≡ Some b → b.instances ≡ replicate count fresh
    → i < count → s ≡ status_of v b → x ≡ fresh
    → ((y : World) (c : UnitBook) → s ≡ status_of y c → row ≡ stored.Instance (instance_row y c unit i x))
    → IsChange (row_in w (Instance (record { unit = unit; number = i }))) (row_in v (Instance (record { unit = unit; number = i }))) (Some row)
fresh_change w v b unit count i s x row stands begins within told one is =
    after_is_change _ _ (Some row)
    (ap Some (is v b told ∙ ap (λ y. stored.Instance (instance_row v b unit i y)) one)
    ∙ sym (in_book v b unit i stands
    ∙ ap (λ xs. option_map (λ y. stored.Instance (instance_row v b unit i y)) (slice_get xs i)) begins
    ∙ ap (option_map (λ y. stored.Instance (instance_row v b unit i y))) (of_fresh count i within)))

pub fresh_gone : (v : World) (b : UnitBook) (unit count n : ℕ) → unit_at v unit ≡ Some b → b.instances ≡ replicate count fresh → count ≤ n
    → (i : ℕ) → n ≤ i → row_in v (Instance (record { unit = unit; number = i })) ≡ None
fresh_gone v b unit count n stands begins all i past =
    in_book v b unit i stands
    ∙ ap (λ xs. option_map (λ y. stored.Instance (instance_row v b unit i y)) (slice_get xs i)) begins
    ∙ ap (option_map (λ y. stored.Instance (instance_row v b unit i y))) (past_fresh count i (omega (arith, all, past)))

-- ---- row by row

-- a list with one more of these elements after its own
one_more : {X : Type 0} (front xs : List X) (i : ℕ) (x : X) → i < length xs → get_or xs i x ≡ x → front ++ take (i + 1) xs ≡ (front ++ take i xs) ++ x ∷ []
one_more front xs i x within at =
    ap (λ ys. front ++ ys) (take_more xs i x within ∙ ap (λ y. take i xs ++ y ∷ []) at) ∙ sym (append_assoc front (take i xs) (x ∷ []))

-- the same for new workunits
one_book_more : (front : List UnitBook) (us : List Workunit) (i : ℕ) (u : Workunit) → i < length us → get_or us i u ≡ u
    → front ++ map new_unit (take (i + 1) us) ≡ (front ++ map new_unit (take i us)) ++ new_unit u ∷ []
one_book_more front us i u within at =
    ap (λ ys. front ++ map new_unit ys) (take_more us i u within ∙ ap (λ y. take i us ++ y ∷ []) at)
    ∙ ap (λ bs. front ++ bs) (map_push new_unit (take i us) u)
    ∙ sym (append_assoc front (map new_unit (take i us)) (new_unit u ∷ []))

module _ (w v : World) (i : ℕ) (count counted : Counts) (rows new : List StoredRow) where
  abbrev Grows : Rows → Rows → Type 0
  Grows before one = AreImported w (with_rows v before) count rows → AreImported w (with_rows (with_rows v before) one) counted new

  pub account_next : (xs : List AccountRow) (x : AccountRow) → i < length xs → get_or xs i x ≡ x → Grows (kinds.Accounts (take i xs)) (kinds.Accounts (x ∷ []))
      → AreImported w (with_rows v (kinds.Accounts (take i xs))) count rows → AreImported w (with_rows v (kinds.Accounts (take (i + 1) xs))) counted new
  account_next xs x within at next so_far =
      subst (λ (all : List AccountRow). AreImported w (record v { accounts = all }) counted new) (sym (one_more v.accounts xs i x within at)) (next so_far)

  pub app_next : (xs : List AppRow) (x : AppRow) → i < length xs → get_or xs i x ≡ x → Grows (kinds.Apps (take i xs)) (kinds.Apps (x ∷ []))
      → AreImported w (with_rows v (kinds.Apps (take i xs))) count rows → AreImported w (with_rows v (kinds.Apps (take (i + 1) xs))) counted new
  app_next xs x within at next so_far =
      subst (λ (all : List AppRow). AreImported w (record v { apps = all }) counted new) (sym (one_more v.apps xs i x within at)) (next so_far)

  pub version_next : (xs : List VersionRow) (x : VersionRow) → i < length xs → get_or xs i x ≡ x → Grows (kinds.Versions (take i xs)) (kinds.Versions (x ∷ []))
      → AreImported w (with_rows v (kinds.Versions (take i xs))) count rows → AreImported w (with_rows v (kinds.Versions (take (i + 1) xs))) counted new
  version_next xs x within at next so_far =
      subst (λ (all : List VersionRow). AreImported w (record v { versions = all }) counted new) (sym (one_more v.versions xs i x within at)) (next so_far)

  pub unit_next : (us : List Workunit) (u : Workunit) → i < length us → get_or us i u ≡ u → Grows (kinds.Workunits (take i us)) (kinds.Workunits (u ∷ []))
      → AreImported w (with_rows v (kinds.Workunits (take i us))) count rows → AreImported w (with_rows v (kinds.Workunits (take (i + 1) us))) counted new
  unit_next us u within at next so_far =
      subst (λ (all : List UnitBook). AreImported w (record v { units = all }) counted new) (sym (one_book_more v.units us i u within at)) (next so_far)

-- no row yet
pub no_account : (w v : World) (count : Counts) (rows : List StoredRow) → AreImported w v count rows → AreImported w (with_rows v (kinds.Accounts [])) count rows
no_account w v count rows so_far = subst (λ (all : List AccountRow). AreImported w (record v { accounts = all }) count rows) (sym (append-nil v.accounts)) so_far

pub no_app : (w v : World) (count : Counts) (rows : List StoredRow) → AreImported w v count rows → AreImported w (with_rows v (kinds.Apps [])) count rows
no_app w v count rows so_far = subst (λ (all : List AppRow). AreImported w (record v { apps = all }) count rows) (sym (append-nil v.apps)) so_far

pub no_version : (w v : World) (count : Counts) (rows : List StoredRow) → AreImported w v count rows → AreImported w (with_rows v (kinds.Versions [])) count rows
no_version w v count rows so_far = subst (λ (all : List VersionRow). AreImported w (record v { versions = all }) count rows) (sym (append-nil v.versions)) so_far

pub no_unit : (w v : World) (count : Counts) (rows : List StoredRow) → AreImported w v count rows → AreImported w (with_rows v (kinds.Workunits [])) count rows
no_unit w v count rows so_far = subst (λ (all : List UnitBook). AreImported w (record v { units = all }) count rows) (sym (append-nil v.units)) so_far

-- the count is that of the present world
pub counted_now : (w v : World) (count : Counts) (rows : List StoredRow) → AreImported w v count rows → HaveImported w v rows
counted_now w v count rows done = subst (λ c. AreImported w v c rows) done.counted done

-- the rows of the whole import
pub imported_all : (w u : World) (count : Counts) (none rows : List StoredRow) (new : Rows) → u ≡ w → IsReadable w → count ≡ counts w → none ≡ []
    → ((v : World) → AreImported u v count none → HaveImported u (with_rows v new) rows) → HaveImported w (with_rows w new) rows
imported_all w u count none rows new same readable counted empty next =
    subst (λ (x : World). (v : World) → AreImported x v count none → HaveImported x (with_rows v new) rows) same next w
    (none_imported w w count none refl readable counted empty)
