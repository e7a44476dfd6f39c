-- The rows of a call state's world, compared with those of the world at the start of the call.
use Rattle.std.proofs.Common.{◌≡◌, ℕ, ◌+◌, ◌*◌, ◌≤◌, Bool, true, false, eqb, ◌&&◌, List, [], ◌∷◌, length, Option, Some, None, option_map, option_and_then, refl, sym, ap, subst, ◌∙◌, inl, inr, arith, true≢false}
use Rattle.std.specs.Prelude.{◌||◌, ◌==◌, count_by, sum_by, slice_get, unwrap_or, is_some, is_none}
use Rattle.std.proofs.lemmas.Bool.{eqb-true, or_cases, or_parts}
use Rattle.std.proofs.lemmas.Option.{slice_get_past}
use Rattle.std.specs.BTreeMap.{get}
use Rattle.std.specs.Ordering.{nat_cmp}
use Rattle.sched_book.specs.Count.{status, is_open, verdict, is_valid}
use Rattle.sched_book.specs.Delta.{edited}
use Rattle.sched_book.specs.Places.{unit_at, host_at, agreement_by, status_of, held_by, host_credit, is_held_by, is_owned_by, credit_in}
use Rattle.sched_book.specs.declared.instance.Instance.{Instance as Job}
use Rattle.sched_book.specs.declared.instance.Status.{Status}
use Rattle.sched_book.specs.declared.instance.Status.TheVariants.{Open, Done, FailedErrors, FailedSuccess, FailedTotal}
use Rattle.sched_book.specs.declared.instance.UnitBook.{UnitBook}
use Rattle.sched_book.specs.declared.rows.Agreement.{Agreement}
use Rattle.sched_book.specs.declared.rows.App.{App}
use Rattle.sched_book.specs.declared.rows.ClassRule.{ClassRule}
use Rattle.sched_book.specs.declared.rows.HostRow.{HostRow}
use Rattle.sched_book.specs.declared.world.World.{World}
use Rattle.call_working_set.specs.UnitState.{UnitState}
use Rattle.call_working_set.specs.declared.call_state.CallState.{CallState}
use Rattle.call_working_set.specs.WorkingSets.{book_before, book_now, IsUnitStateOf, IsUnitStateAt, IsHostAt, IsCallStateOf, AreAllOf, is_among}
use Rattle.table_meaning.specs.Worlds.{unit_row, mark_row, host_row, instance_row, app_place}
use Rattle.table_meaning.specs.declared.rows.StoredRow.{StoredRow}
use Rattle.table_meaning.specs.declared.rows.StoredRow.TheVariants as stored
use Rattle.table_meaning.specs.Codes.{status_code}
use Rattle.sched_book.proofs.PlaceLists.{places_counted}
use Rattle.table_worlds.specs.Changes.{IsChange, AreChanges}
use Rattle.table_worlds.specs.Keys.{row_in}
use Rattle.table_worlds.specs.Totals.{total_of}
use Rattle.table_worlds.specs.declared.totals.Total.{Total}
use Rattle.table_worlds.specs.declared.keys.WorldKey.{WorldKey}
use Rattle.table_worlds.specs.declared.keys.WorldKey.TheVariants.{Unit as UnitKey, Mark, Host, Instance}
use Rattle.table_changes.specs.Added.{is_unit_among, is_mark_among, is_host_among, is_instance_among, AreAdded}
use Rattle.table_changes.specs.Tallies.{no_total, tally, held_on, credit_on, total_on, ReplacesShare}
use Rattle.table_changes.specs.Touching.{AreTouched}
use Rattle.table_changes.specs.declared.touched.Touched.{Touched}
use Rattle.table_changes.proofs.Adding.{IsSettled, added_then, all_added}
use Rattle.table_changes.proofs.Differences.{at_place, sums_differ, same_among}

-- if the row is that of the world after, it is the change
pub after_is_change : (before after row : Option StoredRow) → row ≡ after → IsChange before after row
after_is_change before None row is = inl (is, inl refl)
after_is_change before (Some r) row is = inr (r, refl, is)

pub same_is_change : (before after : Option StoredRow) → before ≡ after → IsChange before after None
same_is_change before after same = inl (refl, inr same)

-- ---- workunits

-- if two worlds have a workunit with the same status, and the same applications, they have the same row of it
unit_rows_same : (w v : World) (id : ℕ) (k : UnitState) → v.apps ≡ w.apps → IsUnitStateOf w v id k
    → status k.agreement k.unit k.present ≡ status k.agreement k.unit k.before → row_in w (UnitKey id) ≡ row_in v (UnitKey id)
unit_rows_same w v id k apps unit_state same =
    ap (option_map (λ b. stored.Unit (unit_row w id b))) unit_state.before
    ∙ ap (λ s. Some (stored.Unit (record (unit_row w id (book_now k)) { status = status_code s }))) status_before
    ∙ ap (λ s. Some (stored.Unit (record (unit_row w id (book_now k)) { status = status_code s }))) (sym same ∙ sym status_now)
    ∙ ap (λ (apps : List App). Some (stored.Unit (unit_row (record w { apps = apps }) id (book_now k)))) (sym apps)
    ∙ sym (ap (option_map (λ b. stored.Unit (unit_row v id b))) unit_state.here)
  where
    status_before : status_of w (book_before k) ≡ status k.agreement k.unit k.before
    status_before = ap (λ a. status a k.unit k.before) unit_state.agreement

    status_now : status_of w (book_now k) ≡ status k.agreement k.unit k.present
    status_now = ap (λ a. status a k.unit k.present) unit_state.agreement

-- the row of a workunit with its new status and the place of its application
pub unit_changed : (w v : World) (id app : ℕ) (k : UnitState) (s : Status) (row : StoredRow) → v.apps ≡ w.apps → IsUnitStateOf w v id k → app ≡ app_place w k.unit.app
    → s ≡ status k.agreement k.unit k.present
    → ((u : World) (b : UnitBook) (rule : ClassRule) → b.unit ≡ record k.unit { class_rule = rule } → app ≡ app_place u k.unit.app → s ≡ status_of u b → row ≡ stored.Unit (unit_row u id b))
    → IsChange (row_in w (UnitKey id)) (row_in v (UnitKey id)) (Some row)
unit_changed w v id app k s row apps unit_state place told is =
    let here : app_place w k.unit.app ≡ app_place v k.unit.app = ap (λ (apps : List App). app_place (record w { apps = apps }) k.unit.app) (sym apps) in
    let now : status_of v (book_now k) ≡ status k.agreement k.unit k.present =
    ap (λ (apps : List App). status (agreement_by apps k.unit.app) k.unit k.present) apps ∙ ap (λ a. status a k.unit k.present) unit_state.agreement in
    after_is_change (row_in w (UnitKey id)) (row_in v (UnitKey id)) (Some row)
    (ap Some (is v (book_now k) k.rule refl (place ∙ here) (told ∙ sym now)) ∙ sym (ap (option_map (λ b. stored.Unit (unit_row v id b))) unit_state.here))

-- a workunit whose status is unchanged
pub unit_stays : (w v : World) (id : ℕ) (k : UnitState) (s t : Status) → v.apps ≡ w.apps → IsUnitStateOf w v id k → s ≡ status k.agreement k.unit k.present
    → t ≡ status k.agreement k.unit k.before → s ≡ t → IsChange (row_in w (UnitKey id)) (row_in v (UnitKey id)) None
unit_stays w v id k s t apps unit_state now before same =
    same_is_change (row_in w (UnitKey id)) (row_in v (UnitKey id)) (unit_rows_same w v id k apps unit_state (sym now ∙ same ∙ before))

-- the row of the workunit at a place depends only on that workunit and on the applications
unit_same : (w v : World) (id : ℕ) → v.apps ≡ w.apps → unit_at v id ≡ unit_at w id → row_in w (UnitKey id) ≡ row_in v (UnitKey id)
unit_same w v id apps here =
    ap (λ (apps : List App). option_map (λ b. stored.Unit (unit_row (record w { apps = apps }) id b)) (unit_at w id)) (sym apps)
    ∙ ap (option_map (λ b. stored.Unit (unit_row v id b))) (sym here)

pub unit_unread : (w v : World) (id : ℕ) → v.apps ≡ w.apps → IsUnitStateAt w v id None → IsChange (row_in w (UnitKey id)) (row_in v (UnitKey id)) None
unit_unread w v id apps here = same_is_change (row_in w (UnitKey id)) (row_in v (UnitKey id)) (unit_same w v id apps here)

-- ---- marks

-- the row of the mark of the workunit at a place depends only on that workunit
abbrev mark_in : ℕ → UnitBook → StoredRow
mark_in id b = stored.UnitMark (mark_row id b)

mark_same : (w v : World) (id : ℕ) → unit_at v id ≡ unit_at w id → row_in w (Mark id) ≡ row_in v (Mark id)
mark_same w v id here = ap (option_map (mark_in id)) (sym here)

pub mark_unread : (w v : World) (id : ℕ) → IsUnitStateAt w v id None → IsChange (row_in w (Mark id)) (row_in v (Mark id)) None
mark_unread w v id here = same_is_change (row_in w (Mark id)) (row_in v (Mark id)) (mark_same w v id here)

-- a workunit whose rule is unchanged
pub mark_stays : (w v : World) (id : ℕ) (k : UnitState) → IsUnitStateOf w v id k → k.unit.class_rule ≡ k.rule → IsChange (row_in w (Mark id)) (row_in v (Mark id)) None
mark_stays w v id k unit_state same =
    same_is_change (row_in w (Mark id)) (row_in v (Mark id))
    (ap (option_map (mark_in id)) unit_state.before
    ∙ ap (λ rule. Some (mark_in id (record { unit = record k.unit { class_rule = rule }; instances = k.present }))) same
    ∙ sym (ap (option_map (mark_in id)) unit_state.here))

-- the row of a mark with its new rule
pub mark_changed : (w v : World) (id : ℕ) (k : UnitState) (row : StoredRow) → IsUnitStateOf w v id k → ((b : UnitBook) → b.unit.class_rule ≡ k.rule → row ≡ stored.UnitMark (mark_row id b))
    → IsChange (row_in w (Mark id)) (row_in v (Mark id)) (Some row)
mark_changed w v id k row unit_state is =
    after_is_change (row_in w (Mark id)) (row_in v (Mark id)) (Some row) (ap Some (is (book_now k) refl) ∙ sym (ap (option_map (mark_in id)) unit_state.here))

-- ---- instances

abbrev instance_in : World → UnitBook → ℕ → ℕ → Job → StoredRow
instance_in w b unit number x = stored.Instance (instance_row w b unit number x)

abbrev of_book : World → ℕ → ℕ → UnitBook → Option StoredRow
of_book w unit number b = option_map (instance_in w b unit number) (slice_get b.instances number)

module _ (w v : World) (unit number : ℕ) (k : UnitState) (apps : v.apps ≡ w.apps) (unit_state : IsUnitStateOf w v unit k) where
  before_is : row_in w (Instance (record { unit = unit; number = number })) ≡ of_book w unit number (book_before k)
  before_is = ap (option_and_then (of_book w unit number)) unit_state.before

  now_is : row_in v (Instance (record { unit = unit; number = number })) ≡ of_book v unit number (book_now k)
  now_is = ap (option_and_then (of_book v unit number)) unit_state.here

  status_then : status_of w (book_before k) ≡ status k.agreement k.unit k.before
  status_then = ap (λ a. status a k.unit k.before) unit_state.agreement

  status_now : status_of v (book_now k) ≡ status k.agreement k.unit k.present
  status_now = ap (λ (apps : List App). status (agreement_by apps k.unit.app) k.unit k.present) apps ∙ ap (λ a. status a k.unit k.present) unit_state.agreement

  none_now : slice_get k.present number ≡ None → row_in v (Instance (record { unit = unit; number = number })) ≡ None
  none_now none = now_is ∙ ap (option_map (instance_in v (book_now k) unit number)) none

  row_now : (y : Job) (t : Status) (row : StoredRow) → slice_get k.present number ≡ Some y → t ≡ status k.agreement k.unit k.present
      → ((u : World) (b : UnitBook) → t ≡ status_of u b → row ≡ stored.Instance (instance_row u b unit number y))
      → Some row ≡ row_in v (Instance (record { unit = unit; number = number }))
  row_now y t row stands new is =
      ap Some (is v (book_now k) (new ∙ sym status_now)) ∙ sym (now_is ∙ ap (option_map (instance_in v (book_now k) unit number)) stands)

pub instance_gone : (w v : World) (unit number : ℕ) (k : UnitState) → v.apps ≡ w.apps → IsUnitStateOf w v unit k → slice_get k.present number ≡ None
    → row_in v (Instance (record { unit = unit; number = number })) ≡ None
instance_gone = none_now

pub none_is_change : (before after : Option StoredRow) → after ≡ None → IsChange before after None
none_is_change before after none = inl (refl, inl none)

-- a workunit is open by the code of its status
open_by_code : (q : Status) → is_open q ≡ (status_code q == 0)
open_by_code Open = refl
open_by_code Done = refl
open_by_code FailedErrors = refl
open_by_code FailedSuccess = refl
open_by_code FailedTotal = refl

-- an instance that is as before, and is queued if it was
pub instance_stays : (w v : World) (unit number : ℕ) (k : UnitState) (x y : Job) (s t : Status) → v.apps ≡ w.apps → IsUnitStateOf w v unit k
    → slice_get k.before number ≡ Some x → slice_get k.present number ≡ Some y → s ≡ status k.agreement k.unit k.before → t ≡ status k.agreement k.unit k.present
    → x ≡ y → (is_none y.owner && is_open s) ≡ (is_none y.owner && is_open t)
    → IsChange (row_in w (Instance (record { unit = unit; number = number }))) (row_in v (Instance (record { unit = unit; number = number }))) None
instance_stays w v unit number k x y s t apps unit_state stood stands old new same queued =
    same_is_change _ _
    (before_is w v unit number k apps unit_state
    ∙ ap (option_map (instance_in w (book_before k) unit number)) (stood ∙ ap Some same)
    ∙ ap (λ q. Some (row_queued q))
    (by_code (status_of w (book_before k)) s (status_then w v unit number k apps unit_state ∙ sym old)
    ∙ queued
    ∙ sym (by_code (status_of v (book_now k)) t (status_now w v unit number k apps unit_state ∙ sym new)))
    ∙ sym (now_is w v unit number k apps unit_state ∙ ap (option_map (instance_in v (book_now k) unit number)) stands))
  where
    row_queued : Bool → StoredRow
    row_queued q = stored.Instance (record (instance_row w (book_before k) unit number y) { queued = q })

    by_code : (p q : Status) → p ≡ q → (is_none y.owner && (status_code p == 0)) ≡ (is_none y.owner && is_open q)
    by_code p q same = ap (λ r. is_none y.owner && (status_code r == 0)) same ∙ ap (λ b. is_none y.owner && b) (sym (open_by_code q))

pub instance_changed : (w v : World) (unit number : ℕ) (k : UnitState) (y : Job) (t : Status) (row : StoredRow) → v.apps ≡ w.apps → IsUnitStateOf w v unit k
    → slice_get k.present number ≡ Some y → t ≡ status k.agreement k.unit k.present
    → ((u : World) (b : UnitBook) → t ≡ status_of u b → row ≡ stored.Instance (instance_row u b unit number y))
    → IsChange (row_in w (Instance (record { unit = unit; number = number }))) (row_in v (Instance (record { unit = unit; number = number }))) (Some row)
instance_changed w v unit number k y t row apps unit_state stands new is =
    after_is_change _ _ (Some row) (row_now w v unit number k apps unit_state y t row stands new is)

instance_same : (w v : World) (unit number : ℕ) → v.apps ≡ w.apps → unit_at v unit ≡ unit_at w unit
    → row_in w (Instance (record { unit = unit; number = number })) ≡ row_in v (Instance (record { unit = unit; number = number }))
instance_same w v unit number apps here =
    ap (λ (apps : List App). option_and_then (of_book (record w { apps = apps }) unit number) (unit_at w unit)) (sym apps)
    ∙ ap (option_and_then (of_book v unit number)) (sym here)

-- ---- hosts

abbrev pub host_in : ℕ → ℕ → ℕ → HostRow → StoredRow
host_in held credit id h = stored.Host (host_row held credit id h)

pub host_changed : (w v : World) (id : ℕ) (t : Total) (o : Option HostRow) (row : Option StoredRow) → o ≡ host_at v id → t ≡ total_of v id
    → row ≡ option_map (host_in t.held t.credit id) o → IsChange (row_in w (Host id)) (row_in v (Host id)) row
host_changed w v id t o row stands counted is =
    after_is_change (row_in w (Host id)) (row_in v (Host id)) row
    (is ∙ ap (λ (u : Total). option_map (host_in u.held u.credit id) o) counted ∙ ap (option_map (host_in (length (held_by v id)) (host_credit v id) id)) stands)

host_same : (w v : World) (id : ℕ) (share other : Total) → host_at v id ≡ host_at w id → ReplacesShare w v id share other → share.held ≡ other.held → share.credit ≡ other.credit
    → row_in w (Host id) ≡ row_in v (Host id)
host_same w v id share other stands goes held credit =
    let holds : length (held_by w id) ≡ length (held_by v id) = let both = goes.held in omega (arith, both, held) in
    let earns : host_credit w id ≡ host_credit v id = let both = goes.credit in omega (arith, both, credit) in
    ap (λ n. option_map (host_in n (host_credit w id) id) (host_at w id)) holds
    ∙ ap (λ n. option_map (host_in (length (held_by v id)) n id) (host_at w id)) earns
    ∙ ap (option_map (host_in (length (held_by v id)) (host_credit v id) id)) (sym stands)

pub host_stays : (w v : World) (id : ℕ) (share other : Total) → IsHostAt w v id None → ReplacesShare w v id share other → share.held ≡ other.held → share.credit ≡ other.credit
    → IsChange (row_in w (Host id)) (row_in v (Host id)) None
host_stays w v id share other here goes held credit = same_is_change _ _ (host_same w v id share other here goes held credit)

-- ---- held instances, and credit

module _ (w v : World) (kept : ℕ → Option UnitState) (units : List ℕ) (host : ℕ) (apps : v.apps ≡ w.apps) (all : AreAllOf kept units)
    (unit_states : (unit : ℕ) → IsUnitStateAt w v unit (kept unit)) where
  abbrev held_in : UnitBook → ℕ
  held_in b = count_by (is_held_by host) b.instances

  untouched : (unit : ℕ) → is_among units unit ≡ false → unit_at w unit ≡ unit_at v unit
  untouched unit among = cases (kept unit) (unit_states unit) (all.all unit ∙ among)
    where
      cases : (o : Option UnitState) → IsUnitStateAt w v unit o → is_some o ≡ false → unit_at w unit ≡ unit_at v unit
      cases None unit_state none = sym unit_state
      cases (Some k) unit_state none = absurd (true≢false none)

  -- what holds for each unit state holds for each workunit that was read
  by_unit_state : (unit : ℕ) (P : Option UnitState → Type 0) → ((k : UnitState) → IsUnitStateAt w v unit (Some k) → P (Some k)) → is_among units unit ≡ true → P (kept unit)
  by_unit_state unit P told among = cases (kept unit) (unit_states unit) (all.all unit ∙ among)
    where
      cases : (o : Option UnitState) → IsUnitStateAt w v unit o → is_some o ≡ true → P o
      cases None unit_state some = absurd (true≢false (sym some))
      cases (Some k) unit_state some = told k unit_state

  held_then : (unit : ℕ) → is_among units unit ≡ true → at_place held_in w.units unit ≡ held_on book_before host (kept unit)
  held_then unit = by_unit_state unit (λ o. at_place held_in w.units unit ≡ held_on book_before host o) (λ k unit_state. ap (λ o. unwrap_or (option_map held_in o) 0) unit_state.before)

  held_now : (unit : ℕ) → is_among units unit ≡ true → at_place held_in v.units unit ≡ held_on book_now host (kept unit)
  held_now unit = by_unit_state unit (λ o. at_place held_in v.units unit ≡ held_on book_now host o) (λ k unit_state. ap (λ o. unwrap_or (option_map held_in o) 0) unit_state.here)

  abbrev credit_with : UnitState → List Job → Agreement → ℕ
  credit_with k xs a = k.unit.credit * count_by (λ x. is_owned_by host x && is_valid (verdict a k.unit xs x)) xs

  credit_then : (unit : ℕ) → is_among units unit ≡ true → at_place (credit_in w.apps host) w.units unit ≡ credit_on book_before host (kept unit)
  credit_then unit = by_unit_state unit (λ o. at_place (credit_in w.apps host) w.units unit ≡ credit_on book_before host o)
      (λ k unit_state. ap (λ o. unwrap_or (option_map (credit_in w.apps host) o) 0) unit_state.before ∙ ap (credit_with k k.before) unit_state.agreement)

  credit_now : (unit : ℕ) → is_among units unit ≡ true → at_place (credit_in w.apps host) v.units unit ≡ credit_on book_now host (kept unit)
  credit_now unit = by_unit_state unit (λ o. at_place (credit_in w.apps host) v.units unit ≡ credit_on book_now host o)
      (λ k unit_state. ap (λ o. unwrap_or (option_map (credit_in w.apps host) o) 0) unit_state.here ∙ ap (credit_with k k.present) unit_state.agreement)

  goes_on : ReplacesShare w v host (total_on book_before kept units host) (total_on book_now kept units host)
  goes_on = record {
    held =
        let before = places_counted (is_held_by host) 1 w.units in
        let after = places_counted (is_held_by host) 1 v.units in
        let sums = sums_differ held_in w.units v.units units all.rising untouched in
        let old = same_among (at_place held_in w.units) (λ unit. held_on book_before host (kept unit)) units held_then in
        let new = same_among (at_place held_in v.units) (λ unit. held_on book_now host (kept unit)) units held_now in
        ap (λ n. n + sum_by (λ unit. held_on book_now host (kept unit)) units) before
        ∙ ap (λ n. sum_by held_in w.units + n) (sym new)
        ∙ sums
        ∙ ap (λ n. sum_by held_in v.units + n) old
        ∙ ap (λ n. n + sum_by (λ unit. held_on book_before host (kept unit)) units) (sym after);
    credit =
        let sums = sums_differ (credit_in w.apps host) w.units v.units units all.rising untouched in
        let old = same_among (at_place (credit_in w.apps host) w.units) (λ unit. credit_on book_before host (kept unit)) units credit_then in
        let new = same_among (at_place (credit_in w.apps host) v.units) (λ unit. credit_on book_now host (kept unit)) units credit_now in
        ap (λ n. host_credit w host + n) (sym new)
        ∙ sums
        ∙ ap (λ n. sum_by (credit_in w.apps host) v.units + n) old
        ∙ ap (λ (apps : List App). sum_by (credit_in apps host) v.units + sum_by (λ unit. credit_on book_before host (kept unit)) units) (sym apps);
  }

-- ---- a call state

pub apps_stay : (w : World) (p : CallState) → IsCallStateOf w p → (edited w p.edits).apps ≡ w.apps
apps_stay w p call_state = ap (λ u. u.apps) call_state.rest

pub goes_from : (w : World) (p : CallState) (t : Touched) (host : ℕ) (share other : Total) → IsCallStateOf w p → AreTouched p t
    → share ≡ tally t.tallies.before host → other ≡ tally t.tallies.present host → ReplacesShare w (edited w p.edits) host share other
goes_from w p t host share other call_state touched before after =
    let goes = goes_on w (edited w p.edits) (get nat_cmp p.unit_states) t.units host (apps_stay w p call_state) touched.units call_state.unit_states in
    let first = before ∙ touched.tallies.before host in
    let second = after ∙ touched.tallies.present host in
    subst (λ (s : Total). ReplacesShare w (edited w p.edits) host s other) (sym first)
    (subst (λ (o : Total). ReplacesShare w (edited w p.edits) host (total_on book_before (get nat_cmp p.unit_states) t.units host) o) (sym second) goes)

-- the keys that the call state touches
abbrev pub is_touched : Touched → WorldKey → Bool
is_touched t key = ((is_unit_among t.units key || is_mark_among t.units key) || is_host_among t.hosts key) || is_instance_among t.units key

pub settled_elsewhere : (w : World) (p : CallState) (t : Touched) → IsCallStateOf w p → AreTouched p t → (k : WorldKey) → is_touched t k ≡ false → IsSettled w (edited w p.edits) k
settled_elsewhere w p t call_state touched (UnitKey id) none =
    let among : is_among t.units id ≡ false = (or_parts _ _ (or_parts _ _ (or_parts _ _ none).0).0).0 in
    inr (unit_same w (edited w p.edits) id (apps_stay w p call_state)
    (sym (untouched w (edited w p.edits) (get nat_cmp p.unit_states) t.units 0 (apps_stay w p call_state) touched.units call_state.unit_states id among)))
settled_elsewhere w p t call_state touched (Mark id) none =
    let among : is_among t.units id ≡ false = (or_parts _ _ (or_parts _ _ none).0).0 in
    inr (mark_same w (edited w p.edits) id (sym (untouched w (edited w p.edits) (get nat_cmp p.unit_states) t.units 0 (apps_stay w p call_state) touched.units call_state.unit_states id among)))
settled_elsewhere w p t call_state touched (Host id) none =
    let among : is_among t.hosts id ≡ false = (or_parts _ _ none).0 in
    let unread = touched.hosts id among in
    let goes = goes_from w p t id no_total no_total call_state touched (sym (ap (λ o. unwrap_or o no_total) unread.1)) (sym (ap (λ o. unwrap_or o no_total) unread.2)) in
    inr (host_same w (edited w p.edits) id no_total no_total (subst (IsHostAt w (edited w p.edits) id) unread.0 (call_state.hosts id)) goes refl refl)
settled_elsewhere w p t call_state touched (Instance q) none =
    inr (instance_same w (edited w p.edits) q.unit q.number (apps_stay w p call_state)
    (sym (untouched w (edited w p.edits) (get nat_cmp p.unit_states) t.units 0 (apps_stay w p call_state) touched.units call_state.unit_states q.unit none)))
settled_elsewhere w p t call_state touched key none = inr (sym (ap (λ u. row_in u key) call_state.rest))

-- ---- what a desk returned that still represents the world

pub unit_told : (w u : World) (p : CallState) (unit : ℕ) (o : Option UnitState) (row : Option StoredRow) → u ≡ w → o ≡ get nat_cmp p.unit_states unit → IsCallStateOf w p
    → ((after : World) → after.apps ≡ u.apps → IsUnitStateAt u after unit o → IsChange (row_in u (UnitKey unit)) (row_in after (UnitKey unit)) row)
    → IsChange (row_in w (UnitKey unit)) (row_in (edited w p.edits) (UnitKey unit)) row
unit_told w u p unit o row same found call_state told =
    subst (λ (x : World). (after : World) → after.apps ≡ x.apps → IsUnitStateAt x after unit o → IsChange (row_in x (UnitKey unit)) (row_in after (UnitKey unit)) row) same told
    (edited w p.edits) (apps_stay w p call_state) (subst (IsUnitStateAt w (edited w p.edits) unit) (sym found) (call_state.unit_states unit))

pub host_told : (w u : World) (p : CallState) (t : Touched) (host : ℕ) (share other : Total) (row : Option StoredRow) → u ≡ w → IsCallStateOf w p → AreTouched p t
    → share ≡ tally t.tallies.before host → other ≡ tally t.tallies.present host
    → (IsCallStateOf u p → ReplacesShare u (edited u p.edits) host share other → IsChange (row_in u (Host host)) (row_in (edited u p.edits) (Host host)) row)
    → IsChange (row_in w (Host host)) (row_in (edited w p.edits) (Host host)) row
host_told w u p t host share other row same call_state touched before after told =
    subst (λ (x : World). IsCallStateOf x p → ReplacesShare x (edited x p.edits) host share other → IsChange (row_in x (Host host)) (row_in (edited x p.edits) (Host host)) row) same told
    call_state (goes_from w p t host share other call_state touched before after)

-- the unit state at a place of a call state
pub unit_state_at : (w : World) (p : CallState) (unit : ℕ) (o : Option UnitState) → IsCallStateOf w p → o ≡ get nat_cmp p.unit_states unit → IsUnitStateAt w (edited w p.edits) unit o
unit_state_at w p unit o call_state found = subst (IsUnitStateAt w (edited w p.edits) unit) (sym found) (call_state.unit_states unit)

-- the instances of a workunit that was not read are as before
pub unread_settled : (w v : World) (unit : ℕ) → v.apps ≡ w.apps → IsUnitStateAt w v unit None → (k : WorldKey) → is_instance_among (unit ∷ []) k ≡ true → IsSettled w v k
unread_settled w v unit apps stays (Instance q) is =
    let here : unit ≡ q.unit = eqb-true unit q.unit (first_of (eqb unit q.unit) is) in
    inr (instance_same w v q.unit q.number apps (subst (λ u. unit_at v u ≡ unit_at w u) here stays))
  where
    first_of : (a : Bool) → (a || false) ≡ true → a ≡ true
    first_of true some = refl
    first_of false some = absurd (true≢false (sym some))
unread_settled w v unit apps stays _ is = absurd (true≢false (sym is))

-- keys of either kind
abbrev either : (WorldKey → Bool) → (WorldKey → Bool) → WorldKey → Bool
either first second key = first key || second key

-- the rows that a call state touches come in four parts, one after the other: workunits, marks, hosts and instances
pub all_parts : (w u : World) (p : CallState) (t : Touched) (old one two three new : List StoredRow) → u ≡ w → IsCallStateOf w p → AreTouched p t → old ≡ []
    → AreAdded (is_unit_among t.units) w (edited w p.edits) old one
    → AreAdded (is_mark_among t.units) w (edited w p.edits) one two
    → (IsCallStateOf u p → AreTouched p t → AreAdded (is_host_among t.hosts) u (edited u p.edits) two three)
    → AreAdded (is_instance_among t.units) w (edited w p.edits) three new
    → AreChanges w (edited w p.edits) new
all_parts w u p t old one two three new same call_state touched none units marks hosts instances =
    all_added (is_touched t) w after old new (settled_elsewhere w p t call_state touched) none
    (added_then (either (either of_units of_marks) of_hosts) of_instances (is_touched t) w after old three new (λ k. or_cases (either (either of_units of_marks) of_hosts k) (of_instances k))
    (added_then (either of_units of_marks) of_hosts (either (either of_units of_marks) of_hosts) w after old two three (λ k. or_cases (either of_units of_marks k) (of_hosts k))
    (added_then of_units of_marks (either of_units of_marks) w after old one two (λ k. or_cases (of_units k) (of_marks k)) units marks)
    (subst (λ (x : World). IsCallStateOf x p → AreTouched p t → AreAdded of_hosts x (edited x p.edits) two three) same hosts call_state touched))
    instances)
  where
    after : World
    after = edited w p.edits

    of_units : WorldKey → Bool
    of_units = is_unit_among t.units

    of_marks : WorldKey → Bool
    of_marks = is_mark_among t.units

    of_hosts : WorldKey → Bool
    of_hosts = is_host_among t.hosts

    of_instances : WorldKey → Bool
    of_instances = is_instance_among t.units

-- there is no instance from their count on
pub instances_gone : (w v : World) (unit n : ℕ) (k : UnitState) → v.apps ≡ w.apps → IsUnitStateOf w v unit k → length k.present ≤ n
    → (number : ℕ) → n ≤ number → row_in v (Instance (record { unit = unit; number = number })) ≡ None
instances_gone w v unit n k apps unit_state all number beyond = instance_gone w v unit number k apps unit_state (slice_get_past k.present number (omega (arith, all, beyond)))
