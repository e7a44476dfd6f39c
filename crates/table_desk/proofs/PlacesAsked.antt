-- The places that statements list are those of the world that the tables hold.
use Rattle.std.proofs.Common.{◌≡◌, ℕ, ◌+◌, pos, Bool, true, false, ◌&&◌, [], length, slice_get, Option, Some, None, option_map, refl, ap, ap₂, ◌∙◌, arith}
use Rattle.std.specs.Prelude.{◌==◌, ◌*◌, ◌/◌, if◌then◌else◌, nat_le, nat_lt, int_le, int_lt, option_and_then, is_none, is_some}
use Rattle.std.proofs.lemmas.Int.{ints}
use Rattle.std.proofs.lemmas.Bool.Decides.{nat_tests}
use Rattle.sqlite_value.specs.declared.value.Value.TheVariants.{Int}
use Rattle.sqlite_value.specs.Order.{Row}
use Rattle.sqlite_sql.specs.declared.ops.CompareOp.TheVariants.{Eq, Ge}
use Rattle.sqlite_sql.specs.Ops.{is_null, binary}
use Rattle.sqlite.specs.Values.{or_null}
use Rattle.sqlite.specs.Effect.{Database}
use Rattle.sched_book.specs.Count.{is_held}
use Rattle.sched_book.specs.Places.{option_any, nth, is_owned_by, is_held_by, was_sent, is_overdue, held_by, owned_by, overdue, sent_on_day, places, places_where}
use Rattle.sched_book.specs.declared.instance.Instance.{Instance as Job}
use Rattle.sched_book.specs.declared.instance.Lapse.{Lapse}
use Rattle.sched_book.specs.declared.instance.Lapse.TheVariants.{Late, Dropped}
use Rattle.sched_book.specs.declared.instance.Outcome.{Outcome}
use Rattle.sched_book.specs.declared.instance.Owner.{Owner}
use Rattle.sched_book.specs.declared.instance.UnitBook.{UnitBook}
use Rattle.sched_book.specs.declared.world.World.{World}
use Rattle.table_meaning.specs.declared.rows.StoredRow.TheVariants as stored
use Rattle.table_meaning.specs.Codes.{lapse_code}
use Rattle.table_meaning.specs.Holding.{Contents}
use Rattle.table_meaning.specs.Places as table
use Rattle.table_meaning.specs.Places.{instance_row_at, shows_passing, compares, lies_between, is_of_host, is_running, is_sent_between, is_due}
use Rattle.table_meaning.specs.Rows.{columns_of, whole}
use Rattle.table_meaning.specs.Worlds.{contents_of, instance_row}
use Rattle.table_meaning.proofs.PlacesTests.{equal_numbers, not_below_number, optional_equals, optional_lies_between}
use Rattle.sched_book.proofs.PlaceLists.{places_counted}
use Rattle.table_desk.specs.Asked.{Tell}
use Rattle.table_desk.proofs.PlacesNone.{same_among}
use Rattle.table_desk.proofs.AllPlaces.{places_kept}

-- ---- tests of an instance's columns

no_lapse : (l : Option Lapse) → compares Eq (whole (lapse_code l)) (whole 0) ≡ is_none l
no_lapse None = equal_numbers 0 0
no_lapse (Some Late) = equal_numbers 1 0
no_lapse (Some Dropped) = equal_numbers 2 0

no_report : (r : Option Outcome) → is_null (or_null whole (option_map (λ (r : Outcome). if r.success then 1 else 3) r)) ≡ is_none r
no_report None = refl
no_report (Some r) = refl

-- the deadline
abbrev ends_between : ℕ → ℕ → Owner → Bool
ends_between from now o = nat_le from o.deadline && nat_lt o.deadline now

due_of : (from now : ℕ) (o : Option Owner) → lies_between (pos from) (pos now) (or_null Int (option_map (λ (o : Owner). pos o.deadline) o)) ≡ option_any (ends_between from now) o
due_of from now o = optional_lies_between (pos from) (pos now) (option_map (λ (o : Owner). pos o.deadline) o) ∙ cases o
  where
    between : (n : ℕ) → (int_le (pos from) (pos n) && int_lt (pos n) (pos now)) ≡ (nat_le from n && nat_lt n now)
    between n = grind (arith, ints, nat_tests)

    cases : (o : Option Owner) → option_any (λ z. int_le (pos from) z && int_lt z (pos now)) (option_map (λ (o : Owner). pos o.deadline) o) ≡ option_any (ends_between from now) o
    cases None = refl
    cases (Some o) = between o.deadline

-- An instance with an owner was sent at a moment not before 1970.
was_sent_once : (o : Option Owner) → compares Ge (or_null Int (option_map (λ (o : Owner). pos o.sent) o)) (whole 0) ≡ is_some o
unfolding binary
was_sent_once None = refl
was_sent_once (Some o) = not_below_number o.sent 0 ∙ natural o.sent
  where
    natural : (n : ℕ) → nat_le 0 n ≡ true
    natural n = grind (arith, nat_tests)

-- the moment of sending, within a day
on_day : (sent day : ℕ) → (int_le (pos (day * 86400)) (pos sent) && int_lt (pos sent) (pos (day * 86400 + 86400))) ≡ (sent / 86400 == day)
on_day sent day = grind (arith, ints, nat_tests)

sent_of : (host day : ℕ) (o : Option Owner)
    → (compares Eq (or_null whole (option_map (λ (o : Owner). o.host) o)) (whole host) && lies_between (pos (day * 86400)) (pos (day * 86400 + 86400)) (or_null Int (option_map (λ (o : Owner). pos o.sent) o)))
    ≡ option_any (λ (o : Owner). (o.host == host) && (o.sent / 86400 == day)) o
sent_of host day o =
    ap₂ (λ a c. a && c) (optional_equals (option_map (λ (o : Owner). o.host) o) host) (optional_lies_between (pos (day * 86400)) (pos (day * 86400 + 86400)) (option_map (λ (o : Owner). pos o.sent) o)) ∙ cases o
  where
    cases : (o : Option Owner)
        → (option_any (λ n. n == host) (option_map (λ (o : Owner). o.host) o) && option_any (λ z. int_le (pos (day * 86400)) z && int_lt z (pos (day * 86400 + 86400))) (option_map (λ (o : Owner). pos o.sent) o))
        ≡ option_any (λ (o : Owner). (o.host == host) && (o.sent / 86400 == day)) o
    cases None = refl
    cases (Some o) = ap (λ c. (o.host == host) && c) (on_day o.sent day)

-- it is held, and its deadline is between the two moments
abbrev is_due_between : ℕ → ℕ → Job → Bool
is_due_between from now x = is_held x && option_any (ends_between from now) x.owner

-- If it is not overdue at the first moment, it is due between the two exactly if it is overdue at the second.
due_later : (from now : ℕ) (x : Job) → is_overdue from x ≡ false → is_due_between from now x ≡ is_overdue now x
due_later from now x = cases (is_held x) x.owner
  where
    no_sooner : (n : ℕ) → nat_lt n from ≡ false → (nat_le from n && nat_lt n now) ≡ nat_lt n now
    no_sooner n later = grind (arith, nat_tests)

    cases : (held : Bool) (o : Option Owner) → (held && option_any (λ (o : Owner). nat_lt o.deadline from) o) ≡ false
        → (held && option_any (ends_between from now) o) ≡ (held && option_any (λ (o : Owner). nat_lt o.deadline now) o)
    cases false o later = refl
    cases true None later = refl
    cases true (Some o) later = no_sooner o.deadline later

in_turn : (a l r : Bool) → (a && (l && r)) ≡ (a && (true && r && l))
in_turn true true true = refl
in_turn true true false = refl
in_turn true false true = refl
in_turn true false false = refl
in_turn false l r = refl

module _ (w : World) (b : UnitBook) (unit number : ℕ) (x : Job) where
  abbrev columns : Row
  columns = columns_of (stored.Instance (instance_row w b unit number x))

  running : is_running columns ≡ (is_none x.lapse && is_none x.report)
  running = ap₂ (λ l r. l && r) (no_lapse x.lapse) (no_report x.report)

  owned_is : (host : ℕ) → is_of_host host columns ≡ is_owned_by host x
  owned_is host = optional_equals (option_map (λ (o : Owner). o.host) x.owner) host

  held_is : (host : ℕ) → table.is_row_held_by host columns ≡ is_held_by host x
  held_is host = ap₂ (λ a c. a && c) (owned_is host) (ap₂ (λ a c. a && c) (was_sent_once x.owner) running) ∙ cases x.owner
    where
      cases : (o : Option Owner) → (option_any (λ n. n == host) (option_map (λ (o : Owner). o.host) o) && (is_some o && (is_none x.lapse && is_none x.report)))
          ≡ (option_any (λ n. n == host) (option_map (λ (o : Owner). o.host) o) && (is_some o && is_none x.report && is_none x.lapse))
      cases None = refl
      cases (Some o) = in_turn (o.host == host) (is_none x.lapse) (is_none x.report)

  due_is : (from now : ℕ) → is_due (pos from) (pos now) columns ≡ is_due_between from now x
  due_is from now = ap₂ (λ a c. a && c) (due_of from now x.owner) running ∙ cases x.owner
    where
      turned : (a l r : Bool) → (a && (l && r)) ≡ ((true && r && l) && a)
      turned true true true = refl
      turned true true false = refl
      turned true false true = refl
      turned true false false = refl
      turned false true true = refl
      turned false true false = refl
      turned false false true = refl
      turned false false false = refl

      cases : (o : Option Owner) → (option_any (ends_between from now) o && (is_none x.lapse && is_none x.report))
          ≡ ((is_some o && is_none x.report && is_none x.lapse) && option_any (ends_between from now) o)
      cases None = refl
      cases (Some o) = turned (ends_between from now o) (is_none x.lapse) (is_none x.report)

  sent_is : (host day : ℕ) → is_sent_between host (pos (day * 86400)) (pos (day * 86400 + 86400)) columns ≡ was_sent host day x
  sent_is host day = sent_of host day x.owner

-- ---- places of the world

module _ (db : Database) (w : World) (tell : Tell db w) where
  abbrev contents : Contents
  contents = contents_of w tell.calls tell.batches

  -- if a test of columns agrees with a test of instances, both give the same places
  module _ (test : Row → Bool) (p : UnitBook → Job → Bool) (tells : (b : UnitBook) (unit number : ℕ) (x : Job) → test (columns_of (stored.Instance (instance_row w b unit number x))) ≡ p b x) where
    pub places_agree : table.places_with_row contents test (places w) ≡ places_where w p
    places_agree = places_kept w (λ place. shows_passing test (instance_row_at contents place)) p here
      where
        here : (u n : ℕ) (b : UnitBook) (x : Job) → nth w.units u ≡ Some b → slice_get b.instances n ≡ Some x → shows_passing test (instance_row_at contents (record { unit = u; number = n })) ≡ p b x
        here u n b x stands is =
            ap (shows_passing test) (ap (option_and_then (λ (b : UnitBook). option_map (λ x. stored.Instance (instance_row w b u n x)) (slice_get b.instances n))) stands ∙ ap (option_map (λ x. stored.Instance (instance_row w b u n x))) is) ∙ tells b u n x

  pub held_told : (host : ℕ) → table.places_with_row contents (table.is_row_held_by host) (places w) ≡ held_by w host
  held_told host = places_agree (table.is_row_held_by host) (λ b x. is_held_by host x) (λ b unit number x. held_is w b unit number x host)

  pub owned_told : (host : ℕ) → table.places_with_row contents (is_of_host host) (places w) ≡ owned_by w host
  owned_told host = places_agree (is_of_host host) (λ b x. is_owned_by host x) (λ b unit number x. owned_is w b unit number x host)

  pub due_told : (from now : ℕ) → overdue w from ≡ [] → table.places_with_row contents (is_due (pos from) (pos now)) (places w) ≡ overdue w now
  due_told from now none =
      places_agree (is_due (pos from) (pos now)) (λ b x. is_due_between from now x) (λ b unit number x. due_is w b unit number x from now)
      ∙ same_among (λ b x. is_overdue from x) (λ b x. is_due_between from now x) (λ b x. is_overdue now x) (λ b x. due_later from now x) 1 w.units none

  -- how many were sent on a day
  pub sent_told : (host day : ℕ) → length (table.places_with_row contents (is_sent_between host (pos (day * 86400)) (pos (day * 86400 + 86400))) (places w)) ≡ sent_on_day w host day
  sent_told host day = ap length (places_agree (is_sent_between host (pos (day * 86400)) (pos (day * 86400 + 86400))) (λ b x. was_sent host day x) (λ b unit number x. sent_is w b unit number x host day)) ∙ places_counted (was_sent host day) 1 w.units
