-- A world after settlement grants the call's host the same as the world before the call.
use Rattle.std.proofs.Common.{◌≡◌, ℕ, suc, ◌/◌, inl, inr, Bool, true, false, not, List, get_or, Option, Some, None, sym, refl, ap, ◌∙◌, subst}
use Rattle.std.proofs.Math.Bool.{and-false}
use Rattle.std.proofs.lemmas.Option.{slice_get-get_or}
use Rattle.std.specs.Prelude.{◌&&◌, All, count_by, is_none, is_some, option_map, option_and_then, unwrap_or, slice_get}
use Rattle.rpc_records.specs.declared.request.Request.{Request}
use Rattle.sched_book.specs.Count.{is_open}
use Rattle.sched_book.specs.Fits.{estimate, unit_fits, is_for}
use Rattle.sched_book.specs.Grant.{Asking}
use Rattle.sched_book.specs.Places.{nth, status_of, user_had, account_at, was_sent}
use Rattle.sched_book.specs.Settle.{grown, with_grown, settled}
use Rattle.sched_book.specs.Sound.{IsSoundUnit, Sound}
use Rattle.sched_book.specs.Step.{IsCaller, host_number, at_entry, host_at_entry, after_lost, asking_of}
use Rattle.sched_book.specs.declared.instance.Instance.{Instance}
use Rattle.sched_book.specs.declared.instance.UnitBook.{UnitBook}
use Rattle.sched_book.specs.declared.machine.Caller.{Caller}
use Rattle.sched_book.specs.declared.rows.HostRow.{HostRow}
use Rattle.sched_book.specs.declared.world.World.{World}
use Rattle.job_choice.specs.Alike.{IsLike}
use Rattle.sched_book.proofs.PlacesOf.{nth-suc}
use Rattle.quorum_credit.proofs.Grown.{grown_sound}
use Rattle.sched_machine.specs.Alike.{SettledIsLike}
use Rattle.sched_machine.proofs.Alike.Lists.{Along, along_map, along_nth, along_sum}
use Rattle.sched_machine.proofs.Alike.Units.{IsKept, HasOne, row_grown, sent_grown, has_grown, IsFrom, before_settlement}
use Rattle.sched_machine.proofs.Alike.Hosts.{account_at_entry, account_stays, account_settled, host_settled, same_user, user_has_one}

-- a workunit that is sound, and needs nothing
abbrev IsWhole : World → UnitBook → Type 0
IsWhole w b = IsSoundUnit w.hosts w.apps b × (grown w.apps b ≡ b)

all_whole : (w : World) → Sound w → All (IsWhole w) w.units
all_whole w sound k d within =
    (sound.units k d within, grown_sound w (suc k) (get_or w.units k d) sound (nth-suc w.units k ∙ slice_get-get_or w.units k d within))

-- the workunit has an instance of this number without owner, and is for the host
abbrev may_get : Bool → ℕ → UnitBook → Bool
may_get is number b = unwrap_or (option_map (λ (x : Instance). is_none x.owner && is) (slice_get b.instances number)) false

none_may : (is : Bool) (number : ℕ) (b : UnitBook) → is ≡ false → may_get is number b ≡ false
none_may is number b never = ap (λ t. may_get t number b) never ∙ cases (slice_get b.instances number)
  where
    cases : (o : Option Instance) → unwrap_or (option_map (λ (x : Instance). is_none x.owner && false) o) false ≡ false
    cases None = refl
    cases (Some x) = and-false (is_none x.owner)

-- two workunits lead to the same grants
record IsAlike (w v : World) (q : Asking) (b d : UnitBook) : Type 0 where
  row : d.unit ≡ b.unit
  sent : (day : ℕ) → count_by (was_sent q.number day) d.instances ≡ count_by (was_sent q.number day) b.instances
  for : (number : ℕ) → may_get (is_for v q.host d) number d ≡ may_get (is_for w q.host b) number b

-- worlds that differ only in their hosts and workunits
abbrev with_both : World → List HostRow → List UnitBook → World
with_both w hosts units = record w { hosts = hosts; units = units }

module _ (w : World) (hosts : List HostRow) (units : List UnitBook) (q : Asking) where
  abbrev after : World
  after = with_both w hosts units

  not_for : (v : World) (b : UnitBook) → user_had v q.host.account b ≡ true → is_for v q.host b ≡ false
  not_for v b had =
      ap (λ t. is_open (status_of v b) && unit_fits v q.host b && not t) had
      ∙ and-false (is_open (status_of v b) && unit_fits v q.host b)

  -- after settlement, workunits like these are alike
  module _ (same : (n : ℕ) → is_some (nth w.hosts n) ≡ true → account_at hosts n ≡ account_at w.hosts n)
      (account : account_at hosts q.number ≡ Some q.host.account) where
    alike_unit : (b d : UnitBook) → IsWhole w b → IsKept q.number b d → IsAlike w after q b (grown w.apps d)
    alike_unit b d whole kept = record {
      row = row_grown w.apps d ∙ kept.row;
      sent = λ day. sent_grown q.number day w.apps d ∙ kept.sent day;
      for = λ number. elim kept.held [ inl is ↦ unchanged number is | inr both ↦ changed number both.0 both.1 ];
    }
      where
        users : user_had after q.host.account b ≡ user_had w q.host.account b
        users = same_user w.hosts hosts q.host.account b.instances same whole.0.well.owners

        unchanged : (number : ℕ) → d ≡ b → may_get (is_for after q.host (grown w.apps d)) number (grown w.apps d) ≡ may_get (is_for w q.host b) number b
        unchanged number is =
            ap (λ c. may_get (is_for after q.host c) number c) (ap (grown w.apps) is ∙ whole.1)
            ∙ ap (λ t. may_get (is_open (status_of w b) && unit_fits w q.host b && not t) number b) users

        changed : (number : ℕ) → HasOne q.number b → HasOne q.number d
            → may_get (is_for after q.host (grown w.apps d)) number (grown w.apps d) ≡ may_get (is_for w q.host b) number b
        changed number before now =
            none_may (is_for after q.host (grown w.apps d)) number (grown w.apps d)
            (not_for after (grown w.apps d) (user_has_one hosts q.number q.host.account (grown w.apps d) account (has_grown q.number w.apps d now)))
            ∙ sym (none_may (is_for w q.host b) number b (not_for w b (sym users ∙ user_has_one hosts q.number q.host.account b account before)))

  like_by : Along (IsAlike w after q) w.units units → IsLike w after q
  like_by along = record {
    eligible = λ p.
        along_nth (IsAlike w after q)
        (λ o. unwrap_or (option_and_then (λ (b : UnitBook). option_map (λ (x : Instance). is_none x.owner && is_for w q.host b) (slice_get b.instances p.number)) o) false)
        (λ o. unwrap_or (option_and_then (λ (b : UnitBook). option_map (λ (x : Instance). is_none x.owner && is_for after q.host b) (slice_get b.instances p.number)) o) false)
        refl (λ b d alike. alike.for p.number) w.units units p.unit along;
    seconds = λ p.
        along_nth (IsAlike w after q)
        (λ o. unwrap_or (option_map (λ (b : UnitBook). estimate b.unit.rsc_fpops_est q.host.p_fpops) o) 0)
        (λ o. unwrap_or (option_map (λ (b : UnitBook). estimate b.unit.rsc_fpops_est q.host.p_fpops) o) 0)
        refl (λ b d alike. ap (λ u. estimate u.rsc_fpops_est q.host.p_fpops) alike.row) w.units units p.unit along;
    sent = along_sum (IsAlike w after q) (λ b. count_by (was_sent q.number (q.now / 86400)) b.instances) (λ b d alike. alike.sent (q.now / 86400))
        w.units units along;
    to_send = refl;
    in_progress = refl;
  }

-- the law
module _ (w : World) (c : Caller) (r : Request) (now : ℕ) (sound : Sound w) (caller : IsCaller w c r) where
  abbrev entry : World
  entry = at_entry w c r

  abbrev left : World
  left = after_lost w c r now

  -- the world that is left, with everything except workunits as at entry
  abbrev changed : World
  changed = record entry { units = left.units }

  abbrev number : ℕ
  number = host_number w c

  abbrev asking : Asking
  asking = asking_of w c r now

  from : IsFrom number entry left
  from = before_settlement w c r now

  account_asking : asking.host.account ≡ c.account
  account_asking = ap (λ o. (unwrap_or o (host_at_entry w c r)).account) (host_settled w c r caller now)

  abbrev hosts_after : List HostRow
  hosts_after = (settled entry changed).hosts

  abbrev units_after : List UnitBook
  units_after = (settled entry changed).units

  changed_like : IsLike w (settled entry changed) asking
  changed_like =
      like_by w hosts_after units_after asking
      (along_map (IsWhole w) (IsKept number) (IsAlike w (with_both w hosts_after units_after) asking) (grown w.apps)
      (alike_unit w hosts_after units_after asking
      (λ n stands. account_settled entry (with_grown changed) entry.hosts n ∙ account_stays w c r caller n stands)
      (account_settled entry (with_grown changed) entry.hosts number ∙ account_at_entry w c r caller ∙ ap Some (sym account_asking)))
      w.units left.units (all_whole w sound) from.units)

pub the_settled_world_is_like_the_first : SettledIsLike
the_settled_world_is_like_the_first w c r now sound caller room =
    subst (λ v. IsLike w (settled (at_entry w c r) v) (asking_of w c r now)) (sym (from w c r now sound caller).rest)
    (changed_like w c r now sound caller)
