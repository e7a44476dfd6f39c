-- A user had an instance of a workunit exactly if one of its jobs was given to a host of the user.
use Rattle.std.proofs.Common.{◌≡◌, ℕ, Bool, true, false, true≢false, [], length, slice_get, Option, Some, None, option_map, refl, sym, ap, ◌∙◌}
use Rattle.std.specs.Prelude.{◌==◌, IsTrue, option_and_then, unwrap_or}
use Rattle.std.proofs.lemmas.Bool.{eqb-true, eq-eqb}
use Rattle.std.proofs.lemmas.List.Folds.{Any-from_list_any, list_any_at}
use Rattle.std.proofs.lemmas.Option.{none-some, same_Some, get_or_from_slice_get, slice_get_read, slice_get_within}
use Rattle.sched_book.specs.Places.{option_any, account_at, held_by, host_at, host_credit, is_before, is_of_user, unit_at, user_had}
use Rattle.sched_book.specs.declared.instance.Instance.{Instance}
use Rattle.sched_book.specs.declared.instance.Owner.{Owner}
use Rattle.sched_book.specs.declared.instance.Place.{Place}
use Rattle.sched_book.specs.declared.instance.UnitBook.{UnitBook}
use Rattle.sched_book.specs.declared.rows.HostRow.{HostRow}
use Rattle.sched_book.specs.declared.world.World.{World}
use Rattle.table_desk.specs.Columns.{counted_host_at}
use Rattle.table_desk.specs.declared.hosts.CountedHost.{CountedHost}
use Rattle.table_cache.specs.Covering.{jobs_of, WasGiven}
use Rattle.table_desk.specs.WaitingWindow.{waiting_of}
use Rattle.sched_book.specs.Skipping.{user_had_at, HadAllBefore}

module _ (w : World) (account : ℕ) where
  -- a job of this workunit was given to a host of the user
  abbrev Given : ℕ → Type 0
  Given unit = WasGiven (jobs_of w) (counted_host_at w) account unit

  -- the host of a row, with what is counted of it
  abbrev counted : ℕ → HostRow → CountedHost
  counted number h = record { row = h; held = length (held_by w number); credit = host_credit w number }

  module _ (unit : ℕ) where
    of_host : (number : ℕ) (x : Instance) (o : Owner) → jobs_of w unit number ≡ Some x → x.owner ≡ Some o
        → (h : Option HostRow) → host_at w o.host ≡ h → option_any (λ n. n == account) (option_map (λ (h : HostRow). h.account) h) ≡ true → Given unit
    of_host number x o is owner None stands had = absurd (true≢false (sym had))
    of_host number x o is owner (Some h) stands had = record {
      number = number;
      job = x;
      owner = o;
      host = counted o.host h;
      is_job = is;
      is_owner = owner;
      is_host = ap (option_map (counted o.host)) stands;
      is_account = eqb-true h.account account had;
    }

    of_owner : (number : ℕ) (x : Instance) → jobs_of w unit number ≡ Some x
        → (o : Option Owner) → x.owner ≡ o → option_any (λ n. n == account) (option_and_then (account_at w.hosts) (option_map (λ (o : Owner). o.host) o)) ≡ true → Given unit
    of_owner number x is None owner had = absurd (true≢false (sym had))
    of_owner number x is (Some o) owner had = of_host number x o is owner (host_at w o.host) refl had

    of_unit : (o : Option UnitBook) → unit_at w unit ≡ o → option_any (user_had w account) o ≡ true → Given unit
    of_unit None stands had = absurd (true≢false (sym had))
    of_unit (Some b) stands had =
        let found = Any-from_list_any (is_of_user w.hosts account) b.instances had in
        let x : Instance = found.1 in
        let at : slice_get b.instances found.0 ≡ Some x = slice_get_read b.instances (length b.instances) found.0 x refl found.2 (sym found.3) in
        of_owner found.0 x (ap (λ (o : Option UnitBook). slice_get (unwrap_or (option_map (λ (b : UnitBook). b.instances) o) []) found.0) stands ∙ at) x.owner refl found.4

    -- the user had an instance of it, so a job of it was given
    pub given_if_had : IsTrue (user_had_at w account unit) → WasGiven (jobs_of w) (counted_host_at w) account unit
    given_if_had had = of_unit (unit_at w unit) refl had

    -- a job of it was given, so the user had an instance of it
    pub had_if_given : WasGiven (jobs_of w) (counted_host_at w) account unit → IsTrue (user_had_at w account unit)
    had_if_given given = in_unit (unit_at w unit) given.is_job
      where
        account_of : (h : Option HostRow) → option_map (counted given.owner.host) h ≡ Some given.host → option_any (λ n. n == account) (option_map (λ (h : HostRow). h.account) h) ≡ true
        account_of None is = absurd (none-some _ is)
        account_of (Some h) is = eq-eqb h.account account (ap (λ (c : CountedHost). c.row.account) (same_Some (counted given.owner.host h) given.host is) ∙ given.is_account)

        of_user : is_of_user w.hosts account given.job ≡ true
        of_user =
            ap (λ (o : Option Owner). option_any (λ n. n == account) (option_and_then (account_at w.hosts) (option_map (λ (o : Owner). o.host) o))) given.is_owner
            ∙ account_of (host_at w given.owner.host) given.is_host

        in_unit : (o : Option UnitBook) → slice_get (unwrap_or (option_map (λ (b : UnitBook). b.instances) o) []) given.number ≡ Some given.job → option_any (user_had w account) o ≡ true
        in_unit None is = absurd (none-some _ is)
        in_unit (Some b) is =
            list_any_at (is_of_user w.hosts account) b.instances given.number given.job (slice_get_within b.instances given.number given.job is)
            (ap (is_of_user w.hosts account) (get_or_from_slice_get b.instances given.number given.job given.job is) ∙ of_user)

  -- If this is a skip of the user, each instance that waits before it is of a workunit that the user had a job of.
  pub given_before : (skip : Place) → HadAllBefore w account skip → (unit number : ℕ) → waiting_of w unit number ≡ Some true
      → IsTrue (is_before (record { unit = unit; number = number }) skip) → WasGiven (jobs_of w) (counted_host_at w) account unit
  given_before skip is unit number waits before = given_if_had unit (is (record { unit = unit; number = number }) (ap (λ (o : Option Bool). unwrap_or o false) waits) before)
