-- Each step keeps a sound world sound: its parts in turn.
use Rattle.std.proofs.Common.{◌≡◌, ℕ, ◌≤◌, [], ◌∷◌, Some, sym, ap, ◌∙◌, subst, arith}
use Rattle.std.proofs.lemmas.List.Elements.{All-nil}
use Rattle.std.specs.Prelude.{◌≢◌, IsTrue, unwrap_or}
use Rattle.rpc_records.specs.Ranges.{IsInRange}
use Rattle.rpc_records.specs.declared.request.Request.{Request}
use Rattle.rpc_records.specs.declared.reply.Reply.{Reply}
use Rattle.sched_book.specs.Calls.{IsCallInLimits}
use Rattle.sched_book.specs.Imports.{same_version}
use Rattle.sched_book.specs.Limits.{last_moment, IsAccountInLimits, IsAppInLimits}
use Rattle.sched_book.specs.Places.{host_at}
use Rattle.sched_book.specs.Sound.{IsSoundUnit, IsSoundHost, IsSoundVersion, HaveOtherKeys, Sound, IsSettled, IsWell}
use Rattle.sched_book.specs.Step.{IsCaller, HasRoom, RpcStep, TickStep, at_entry, after_reports, after_lost, after_settlement, granted, host_number, host_at_entry, asking_of, lapsed}
use Rattle.sched_book.specs.declared.instance.UnitBook.{UnitBook}
use Rattle.sched_book.specs.declared.machine.Answered.TheVariants as answered
use Rattle.sched_book.specs.declared.machine.Call.TheVariants as call
use Rattle.sched_book.specs.declared.machine.Caller.{Caller}
use Rattle.sched_book.specs.declared.rows.Account.{Account}
use Rattle.sched_book.specs.declared.rows.App.{App}
use Rattle.sched_book.specs.declared.rows.Version.{Version}
use Rattle.sched_book.specs.declared.world.World.{World}
use Rattle.sched_book.proofs.PlaceChanges.{lapses_are_by_place}
use Rattle.sched_book.proofs.Rising.{pairs_nil}
use Rattle.sched_machine.specs.Laws.{StepKeepsSound, RunsKeepSound, EmptyIsSound}
use Rattle.sched_machine.proofs.Alike.Hosts.{host_settled}
use Rattle.sched_machine.proofs.Classes.Sound.{settled_is_sound, settlement_not_too_soon, step_is_sound}
use Rattle.sched_machine.proofs.Classes.Left.{classed_settled}
use Rattle.sched_machine.proofs.Rows.Entry.{entry_keeps_sound}
use Rattle.sched_machine.proofs.Rows.Grant.{grant_keeps_settled}
use Rattle.sched_machine.proofs.Rows.Import.{import_keeps_sound}
use Rattle.sched_machine.proofs.Moves.Cases.{by_call}
use Rattle.sched_machine.proofs.Moves.Moves.{left_alone}
use Rattle.sched_machine.proofs.Units.Lapsed.{lapses_keep_well}
use Rattle.sched_machine.proofs.Units.Lost.{lost_jobs_keep_well}
use Rattle.sched_machine.proofs.Units.Reported.{reports_keep_well}
use Rattle.sched_machine.proofs.Units.Settled.{settlement_settles}

-- a sound world is well
pub sound_is_well : (w : World) → Sound w → IsWell w
sound_is_well w sound = record { rows = sound.rows; units = λ k d within. (sound.units k d within).well }

module _ (w : World) (c : Caller) (r : Request) (now : ℕ) (sound : Sound w) (caller : IsCaller w c r)
    (room : HasRoom w c) (limits : IsInRange r) (early : now ≤ last_moment) where
  entered : Sound (at_entry w c r)
  entered = entry_keeps_sound w c r sound caller room limits

  pub reported : IsWell (after_reports w c r)
  reported = reports_keep_well (at_entry w c r) (host_number w c) r.results limits.results (sound_is_well (at_entry w c r) entered)

  left_well : IsWell (after_lost w c r now)
  left_well =
      lost_jobs_keep_well (at_entry w c r) (after_reports w c r) (host_at_entry w c r) now (host_number w c) r.other_results
      (sound_is_well (at_entry w c r) entered) early reported

  all_settled : IsSettled (after_settlement w c r now)
  all_settled = settlement_settles (at_entry w c r) (after_lost w c r now) (sym (left_alone w c r now).settings) left_well

  pub settled_sound : Sound (after_settlement w c r now)
  settled_sound = settled_is_sound (after_settlement w c r now) all_settled (settlement_not_too_soon w c r now sound)

  pub host_stands : host_at (after_settlement w c r now) (host_number w c) ≡ Some (asking_of w c r now).host
  host_stands =
      host_settled w c r caller now ∙ ap (λ o. Some (unwrap_or o (host_at_entry w c r))) (sym (host_settled w c r caller now))

  call_keeps_sound : (after : World) (reply : Reply) → RpcStep w c r now after reply → Sound after
  call_keeps_sound after reply step =
      step_is_sound w after (call.Rpc c r) now (answered.Rpc reply) sound step
      (subst IsSettled (sym step.left)
      (classed_settled w (host_at_entry w c r) sound step.jobs (granted (after_settlement w c r now) (host_number w c) now step.jobs)
      (grant_keeps_settled (after_settlement w c r now) (asking_of w c r now) step.jobs all_settled host_stands early step.grant)))

pub tick_keeps_sound : (w after : World) (now count : ℕ) → Sound w → TickStep w now after count → Sound after
tick_keeps_sound w after now count sound step =
    step_is_sound w after call.Tick now (answered.Lapsed count) sound step
    (subst IsSettled (sym step.left)
    (settlement_settles w (lapsed w now) (sym (lapses_are_by_place w now).rest.settings) (lapses_keep_well w now (sound_is_well w sound))))

pub step_keeps_sound : StepKeepsSound
step_keeps_sound w after c now answer sound limits early step =
    by_call w after now (λ c answer. IsCallInLimits c → Sound after)
    (λ c r reply step limits. call_keeps_sound w c r now sound step.caller step.room limits early after reply step)
    (λ new count step limits. import_keeps_sound w after new count sound step)
    (λ count step limits. tick_keeps_sound w after now count sound step)
    c answer step limits

pub runs_keep_sound : RunsKeepSound
runs_keep_sound w [] [] sound limits trace = tt
runs_keep_sound w [] (t ∷ ts) sound limits trace = absurd trace
runs_keep_sound w (e ∷ es) [] sound limits trace = absurd trace
runs_keep_sound w (e ∷ es) (t ∷ ts) sound limits trace =
    let next : Sound t.1 = step_keeps_sound w t.1 e.0 e.1 t.0 sound limits.0 limits.1 trace.0 in
    (next, runs_keep_sound t.1 es ts next limits.2 trace.1)

pub the_empty_world_is_sound : EmptyIsSound
the_empty_world_is_sound settings limits = record {
  rows = record {
    settings = limits;
    accounts = All-nil IsAccountInLimits;
    apps = All-nil IsAppInLimits;
    versions = All-nil (IsSoundVersion []);
    hosts = All-nil (IsSoundHost 0 settings.daily_result_quota);
    account_names = pairs_nil (λ (a b : Account). a.authenticator ≢ b.authenticator);
    app_names = pairs_nil (λ (a b : App). a.name ≢ b.name);
    version_names = pairs_nil (λ (a b : Version). IsTrue (same_version a b) → ⊥);
    unit_names = pairs_nil (λ (a b : UnitBook). a.unit.name ≢ b.unit.name);
    host_keys = pairs_nil HaveOtherKeys;
    account_count = omega arith;
    app_count = omega arith;
    version_count = omega arith;
    unit_count = omega arith;
    host_count = omega arith;
  };
  units = All-nil (IsSoundUnit [] []);
}
