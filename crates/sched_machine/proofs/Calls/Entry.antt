-- The row of a call's host, put before any other change of the call.
use Rattle.std.proofs.Common.{◌≡◌, ℕ, ◌+◌, ◌-◌, ◌<◌, ◌≤◌, Bool, true, false, cond, eqb, ltb, List, [], ◌∷◌, ◌++◌, length, Option, Some, None, sym, refl, ap, ◌∙◌, subst, arith, set}
use Rattle.std.specs.Prelude.{IsSome, IsTrue, bytes_eq, is_some, option_map, unwrap_or}
use Rattle.std.proofs.lemmas.Bool.{eqb-true}
use Rattle.rpc_records.specs.Ranges.{IsInRange}
use Rattle.rpc_records.specs.declared.request.Request.{Request}
use Rattle.sched_book.specs.Places.{nth, host_at, is_host_of, known_host}
use Rattle.sched_book.specs.Delta.{set_at, set_nth, edited_one, EditFits, EditsFit}
use Rattle.sched_book.specs.Reports.{modify_nth}
use Rattle.sched_book.specs.Sound.{IsSoundHost, Sound}
use Rattle.sched_book.specs.Step.{IsCaller, HasRoom, host_number, quota_of, row_of_call, hosts_at_entry}
use Rattle.sched_book.specs.declared.delta.Edit.{Edit}
use Rattle.sched_book.specs.declared.delta.Edit.TheVariants as edit
use Rattle.sched_book.specs.declared.machine.Caller.{Caller}
use Rattle.sched_book.specs.declared.rows.Account.{Account}
use Rattle.sched_book.specs.declared.rows.HostRow.{HostRow}
use Rattle.sched_book.specs.declared.world.World.{World}
use Rattle.sched_book.proofs.PlacesOf.{nth-modify_nth}
use Rattle.quorum_credit.specs.Tallies.{number_got}
use Rattle.sched_book.proofs.ByPlace.{same_by_place, all_nth}
use Rattle.quorum_credit.proofs.Numbered.{number_within}
use Rattle.call_working_set.proofs.SetRows.{nth-set_nth}
use Rattle.sched_machine.specs.Calling.{IsAdmitted, IsCalling, IsEntered}
use Rattle.sched_machine.specs.declared.caller.Calling.{Calling}
use Rattle.sched_machine.proofs.Rows.Entry.{entry_is_sound}
use Rattle.sched_machine.proofs.Rows.Listed.{place_found}

-- a row put at the number of an existing one is that row changed
put_changed : {X : Type 0} (f : X → X) (xs : List X) (n : ℕ) (x : X) → nth xs n ≡ Some x → set_nth xs n (f x) ≡ modify_nth f xs n
put_changed {X} f xs n x stands =
    same_by_place (set_nth xs n (f x)) (modify_nth f xs n) (λ m. before m ∙ cases m (eqb n m) refl ∙ sym (nth-modify_nth f xs n m))
  where
    before : (m : ℕ) → nth (set_nth xs n (f x)) m ≡ cond (eqb n m) (Some (f x)) (nth xs m)
    before m =
        let within = number_within xs n x stands in
        let got : number_got (length xs) n ≡ n = omega arith in
        nth-set_nth xs n (f x) m
        ∙ ap (λ (b : Bool). cond b (nth xs m) (cond (eqb (number_got (length xs) n) m) (Some (f x)) (nth xs m))) (let some : eqb n 0 ≡ false = grind arith in some)
        ∙ ap (λ k. cond (eqb k m) (Some (f x)) (nth xs m)) got

    cases : (m : ℕ) (b : Bool) → eqb n m ≡ b → cond b (Some (f x)) (nth xs m) ≡ cond b (option_map f (nth xs m)) (nth xs m)
    cases m true is = sym (ap (option_map f) (ap (nth xs) (sym (eqb-true n m is)) ∙ stands))
    cases m false is = refl

-- a row put at the next number comes after the others
put_next : {X : Type 0} (xs : List X) (x : X) → set_nth xs (length xs + 1) x ≡ xs ++ x ∷ []
put_next xs x =
    ap (λ (b : Bool). cond b xs (set_at xs (length xs + 1 - 1) x)) (let some : eqb (length xs + 1) 0 ≡ false = grind arith in some)
    ∙ ap (λ k. set_at xs k x) (let same : length xs + 1 - 1 ≡ length xs = omega arith in same)
    ∙ ap (λ (b : Bool). cond b (set xs (length xs) x) (xs ++ x ∷ [])) (let past : ltb (length xs) (length xs) ≡ false = grind arith in past)

-- the caller's row put at its number
module _ (w : World) (c : Caller) (r : Request) (caller : IsCaller w c r) where
  -- a known host has its own quota
  quota_at : (host : ℕ) (h : HostRow) → host_at w host ≡ Some h → quota_of w (Some host) ≡ h.quota
  quota_at host h stands = ap (λ o. unwrap_or (option_map (λ (k : HostRow). k.quota) o) w.settings.daily_result_quota) stands

  -- a caller with a host has one in the world
  pub caller_stands : (host : ℕ) → c.host ≡ Some host → IsSome (host_at w host)
  caller_stands host is = ap is_some (place_found (is_host_of c.account r.host.host_cpid) w.hosts host (caller.host ∙ is)).1

  puts_row_of_call : set_nth w.hosts (host_number w c) (row_of_call c r (quota_of w c.host)) ≡ hosts_at_entry w c r c.host
  puts_row_of_call = cases c.host caller.host
    where
      cases : (o : Option ℕ) → known_host w c.account r.host.host_cpid ≡ o
          → set_nth w.hosts (unwrap_or o (length w.hosts + 1)) (row_of_call c r (quota_of w o)) ≡ hosts_at_entry w c r o
      cases None is = put_next w.hosts (row_of_call c r w.settings.daily_result_quota)
      cases (Some host) is =
          let found = place_found (is_host_of c.account r.host.host_cpid) w.hosts host is in
          ap (λ quota. set_nth w.hosts host (row_of_call c r quota)) (quota_at host found.0 found.1)
          ∙ put_changed (λ (h : HostRow). row_of_call c r h.quota) w.hosts host found.0 found.1

-- the row fits, with its number
module _ (w : World) (c : Caller) (r : Request) (sound : Sound w) (caller : IsCaller w c r) (limits : IsInRange r) where
  account_stands : IsTrue (is_some (nth w.accounts c.account))
  account_stands = ap is_some (place_found (λ (a : Account). bytes_eq a.authenticator r.authenticator) w.accounts c.account caller.account).1

  entry_fits : HasRoom w c → EditFits w (edit.Host (host_number w c) (row_of_call c r (quota_of w c.host)))
  entry_fits room = cases c.host caller.host room
    where
      cases : (o : Option ℕ) → known_host w c.account r.host.host_cpid ≡ o → (o ≡ None → length w.hosts < w.settings.max_hosts)
          → EditFits w (edit.Host (unwrap_or o (length w.hosts + 1)) (row_of_call c r (quota_of w o)))
      cases None is left =
          let few : length w.hosts < w.settings.max_hosts = left refl in
          let same : w.settings.daily_result_quota ≤ w.settings.daily_result_quota = omega arith in
          (omega arith, omega arith, omega arith, account_stands, (entry_is_sound w c r sound caller limits w.settings.daily_result_quota (sound.rows.settings.quota.0, same)).limits)
      cases (Some host) is left =
          let found = place_found (is_host_of c.account r.host.host_cpid) w.hosts host is in
          let within = number_within w.hosts host found.0 found.1 in
          let few : length w.hosts ≤ w.settings.max_hosts = sound.rows.host_count in
          let quota : quota_of w (Some host) ≡ found.0.quota = quota_at w c r caller host found.0 found.1 in
          let before = (all_nth (IsSoundHost (length w.accounts) w.settings.daily_result_quota) w.hosts host found.0 sound.rows.hosts found.1).limits.quota in (
            within.0,
            omega arith,
            omega arith,
            account_stands,
            (entry_is_sound w c r sound caller limits (quota_of w (Some host)) (subst (λ q. (1 ≤ q) × (q ≤ w.settings.daily_result_quota)) (sym quota) before)).limits,
          )

-- the call of a caller whose host exists and has this row
pub renews : (w : World) (c : Caller) (r : Request) (number : ℕ) (before row : HostRow) → Sound w → IsAdmitted w c r → c.host ≡ Some number
    → host_at w number ≡ Some before → row ≡ row_of_call c r before.quota → IsCalling w r (record { caller = c; number = number; host = row })
renews w c r number before row sound admitted known stands is = record {
  sound = sound;
  admitted = admitted;
  room = λ none. absurd (let never : Some number ≡ None = sym known ∙ none in cc);
  number = sym (ap (λ o. unwrap_or o (length w.hosts + 1)) known);
  host = is ∙ ap (row_of_call c r) (sym (ap (quota_of w) known ∙ quota_at w c r admitted.caller number before stands));
}

-- the call of a caller whose host is new
pub makes : (w : World) (c : Caller) (r : Request) (number most quota : ℕ) (row : HostRow) → Sound w → IsAdmitted w c r → c.host ≡ None
    → number ≡ length w.hosts + 1 → number ≤ most → most ≡ w.settings.max_hosts → quota ≡ w.settings.daily_result_quota
    → row ≡ row_of_call c r quota → IsCalling w r (record { caller = c; number = number; host = row })
makes w c r number most quota row sound admitted new next low limit given is = record {
  sound = sound;
  admitted = admitted;
  room = λ none. (let few : length w.hosts < w.settings.max_hosts = omega arith in few);
  number = next ∙ sym (ap (λ o. unwrap_or o (length w.hosts + 1)) new);
  host = is ∙ ap (row_of_call c r) (given ∙ sym (ap (quota_of w) new));
}

-- what is left after the row of a call's host was put, before any other change
pub enters : (w v : World) (r : Request) (k : Calling) (changes : List Edit) → IsCalling w r k → v ≡ edited_one w (edit.Host k.number k.host)
    → changes ≡ edit.Host k.number k.host ∷ [] → IsEntered w r k v changes
enters w v r k changes calling put are = record {
  calling = calling;
  left = put ∙ ap (edited_one w) (sym row_is) ∙ ap (λ hosts. record w { hosts = hosts }) (puts_row_of_call w k.caller r calling.admitted.caller);
  fits = subst (EditsFit w) (sym are)
      (subst (EditFits w) row_is (entry_fits w k.caller r calling.sound calling.admitted.caller calling.admitted.limits calling.room), tt);
}
  where
    row_is : edit.Host (host_number w k.caller) (row_of_call k.caller r (quota_of w k.caller.host)) ≡ edit.Host k.number k.host
    row_is = ap (edit.Host (host_number w k.caller)) (sym calling.host) ∙ ap (λ n. edit.Host n k.host) (sym calling.number)
