-- The counted columns say what is counted in the world that the tables hold.
use Rattle.std.proofs.Common.{◌≡◌, ◌<◌, ℕ, ◌+◌, ◌*◌, Bool, true, false, ◌&&◌, cond, List, [], ◌∷◌, filter, length, Option, Some, None, option_map, refl, sym, ap, ap₂, ◌∙◌, arith}
use Rattle.std.specs.Prelude.{count_by, sum_by}
use Rattle.std.proofs.lemmas.List.Sums.{sum_by-cons, length-filter}
use Rattle.std.proofs.lemmas.Option.{none-some, same_Some}
use Rattle.sqlite_value.specs.declared.value.Value.{Value}
use Rattle.sqlite.specs.Effect.{Database}
use Rattle.sched_book.specs.Desk.{unit_status}
use Rattle.sched_book.specs.Count.{is_valid}
use Rattle.sched_book.specs.Places.{unit_at, is_owned_by, owned_by, places_in, places_among, book_verdict, credit_in, host_credit, status_of}
use Rattle.sched_book.specs.declared.instance.Instance.{Instance as Job}
use Rattle.sched_book.specs.declared.rows.App.{App}
use Rattle.sched_book.specs.declared.instance.Status.{Status}
use Rattle.sched_book.specs.declared.instance.UnitBook.{UnitBook}
use Rattle.sched_book.specs.declared.world.World.{World}
use Rattle.table_meaning.specs.ByKey.{status_in}
use Rattle.table_meaning.specs.Codes.{status_of_code}
use Rattle.table_meaning.specs.Kept.{number_of}
use Rattle.table_meaning.specs.declared.rows.StoredRow.TheVariants as stored
use Rattle.table_meaning.specs.Rows.{whole, unit_key, columns_of, look_up}
use Rattle.table_meaning.specs.Worlds.{unit_row}
use Rattle.table_meaning.proofs.CodesBack.{status_back}
use Rattle.table_desk.specs.Asked.{Tell}
use Rattle.table_desk.proofs.PlacesNone.{append_none, cons-nil}

pub no_items : {X : Type 0} (xs : List X) → ¬ (0 < length xs) → xs ≡ []
no_items [] none = refl
no_items (x ∷ xs) none = absurd (none (omega arith))

-- ---- a host that was given no instance

-- a workunit of which the host has no instance gives it no credit
nothing_in : (host unit number : ℕ) (valid : Job → Bool) (xs : List Job) → places_in unit number (is_owned_by host) xs ≡ [] → filter (λ x. is_owned_by host x && valid x) xs ≡ []
nothing_in host unit number valid [] none = refl
nothing_in host unit number valid (x ∷ xs) none = turn (is_owned_by host x) none (nothing_in host unit (number + 1) valid xs)
  where
    turn : (b : Bool) → cond b (record { unit = unit; number = number } ∷ places_in unit (number + 1) (is_owned_by host) xs) (places_in unit (number + 1) (is_owned_by host) xs) ≡ []
        → (places_in unit (number + 1) (is_owned_by host) xs ≡ [] → filter (λ x. is_owned_by host x && valid x) xs ≡ [])
        → cond (b && valid x) (x ∷ filter (λ x. is_owned_by host x && valid x) xs) (filter (λ x. is_owned_by host x && valid x) xs) ≡ []
    turn true none later = absurd (cons-nil none)
    turn false none later = later none

nothing_among : (apps : List App) (host from : ℕ) (bs : List UnitBook) → places_among from (λ b x. is_owned_by host x) bs ≡ [] → sum_by (credit_in apps host) bs ≡ 0
nothing_among apps host from [] none = refl
nothing_among apps host from (b ∷ bs) none =
    let parts = append_none (places_in from 0 (is_owned_by host) b.instances) (places_among (from + 1) (λ b x. is_owned_by host x) bs) none in
    let valid = λ (x : Job). is_valid (book_verdict apps b x) in
    let count : count_by (λ x. is_owned_by host x && valid x) b.instances ≡ 0 = sym (length-filter (λ x. is_owned_by host x && valid x) b.instances) ∙ ap length (nothing_in host from 0 valid b.instances parts.0) in
    sum_by-cons (credit_in apps host) b bs ∙ ap₂ (λ m n. b.unit.credit * m + n) count (nothing_among apps host (from + 1) bs parts.1) ∙ (let zero : b.unit.credit * 0 + 0 ≡ 0 = omega arith in zero)

-- such a host has no credit
pub no_credit : (w : World) (host : ℕ) → owned_by w host ≡ [] → 0 ≡ host_credit w host
no_credit w host none = sym (nothing_among w.apps host 1 w.units none)

-- ---- columns

module _ (db : Database) (w : World) (tell : Tell db w) where
  -- the status in a workunit's row
  pub status_is : (unit n : ℕ) (status : Status) → Some (whole n) ≡ option_map status_in (look_up db.trees (unit_key unit)) → Some status ≡ status_of_code n → Some status ≡ unit_status w unit
  status_is unit n status read told = cases (unit_at w unit) (read ∙ ap (option_map status_in) (tell.holds.rows (unit_key unit)))
    where
      cases : (o : Option UnitBook) → Some (whole n) ≡ option_map status_in (option_map columns_of (option_map (λ (b : UnitBook). stored.Unit (unit_row w unit b)) o)) → Some status ≡ option_map (status_of w) o
      cases None same = absurd (none-some _ (sym same))
      cases (Some b) same = told ∙ ap (λ (v : Value). status_of_code (number_of v)) (same_Some _ _ same) ∙ status_back (status_of w b)

  pub no_status : (unit : ℕ) → None ≡ option_map status_in (look_up db.trees (unit_key unit)) → None ≡ unit_status w unit
  no_status unit read = cases (unit_at w unit) (read ∙ ap (option_map status_in) (tell.holds.rows (unit_key unit)))
    where
      cases : (o : Option UnitBook) → None ≡ option_map status_in (option_map columns_of (option_map (λ (b : UnitBook). stored.Unit (unit_row w unit b)) o)) → None ≡ option_map (status_of w) o
      cases None same = refl
      cases (Some b) same = absurd (none-some _ same)
