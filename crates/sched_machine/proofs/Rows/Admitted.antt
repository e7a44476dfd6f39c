-- The place of the row that a desk finds by its key.
use Rattle.std.proofs.Common.{◌≡◌, ℕ, List, [], Bool, Option, Some, None, option_map, option_and_then, unwrap_or, bytes_eq, refl, ap, ◌∙◌}
use Rattle.rpc_records.specs.declared.request.Request.{Request}
use Rattle.sched_book.specs.Places.{nth, place_where, account_place}
use Rattle.sched_book.specs.Desk.{placed_at, placed_where, account_by_key}
use Rattle.sched_book.specs.Step.{user_name}
use Rattle.sched_book.specs.declared.desk.Placed.{Placed}
use Rattle.sched_book.specs.declared.machine.Caller.{Caller}
use Rattle.sched_book.specs.declared.rows.Account.{Account}
use Rattle.sched_book.specs.declared.world.World.{World}
use Rattle.sched_machine.proofs.Rows.Listed.{place_found}

placed-place : {X : Type 0} (p : X → Bool) (xs : List X) → option_map (λ (r : Placed X). r.place) (placed_where p xs) ≡ place_where p xs
placed-place {X} p xs = cases (place_where p xs) refl
  where
    cases : (o : Option ℕ) → place_where p xs ≡ o → option_map (λ (r : Placed X). r.place) (option_and_then (placed_at xs) o) ≡ o
    cases None is = refl
    cases (Some n) is =
        ap (λ q. option_map (λ (r : Placed X). r.place) (option_map (λ x. record { place = n; row = x }) q)) (place_found p xs n is).1

-- the place of what was found
pub account_is : (w : World) (authenticator : List ℕ) (found : Option (Placed Account)) → found ≡ account_by_key w authenticator
    → option_map (λ (r : Placed Account). r.place) found ≡ account_place w authenticator
account_is w authenticator found is =
    ap (option_map (λ (r : Placed Account). r.place)) is ∙ placed-place (λ (a : Account). bytes_eq a.authenticator authenticator) w.accounts

-- the name of the account that a desk found is that of the account at the caller's place
pub name_is : (w : World) (c : Caller) (r : Request) → account_place w r.authenticator ≡ Some c.account
    → unwrap_or (option_map (λ (account : Placed Account). account.row.name) (account_by_key w r.authenticator)) [] ≡ user_name w c.account
name_is w c r stands = ap named stands ∙ cases (nth w.accounts c.account)
  where
    named : Option ℕ → List ℕ
    named o = unwrap_or (option_map (λ (account : Placed Account). account.row.name) (option_and_then (placed_at w.accounts) o)) []

    cases : (o : Option Account)
        → unwrap_or (option_map (λ (account : Placed Account). account.row.name) (option_map (λ (x : Account). record { place = c.account; row = x }) o)) []
        ≡ unwrap_or (option_map (λ (a : Account). a.name) o) []
    cases None = refl
    cases (Some a) = refl
