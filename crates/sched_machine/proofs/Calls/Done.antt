-- A call is a step of the machine, by what its parts say.
use Rattle.std.proofs.Common.{◌≡◌, ℕ, ◌+◌, ◌≤◌, ◌++◌, true, false, List, [], map, is_some, sym, ap, ap₂, ◌∙◌, subst}
use Rattle.std.specs.Prelude.{IsTrue, filter_map}
use Rattle.rpc_records.specs.declared.reply.EndWord.{EndWord}
use Rattle.rpc_records.specs.declared.reply.Job.{Job}
use Rattle.rpc_records.specs.declared.reply.Reply.{Reply}
use Rattle.rpc_records.specs.declared.request.Report.{Report}
use Rattle.rpc_records.specs.declared.request.Request.{Request}
use Rattle.sched_book.specs.Delta.{edited}
use Rattle.sched_book.specs.Grant.{IsGrant, end_word}
use Rattle.sched_book.specs.Limits.{last_moment}
use Rattle.sched_book.specs.Lost.{aborts}
use Rattle.sched_book.specs.Places.{host_at, host_credit, user_credit}
use Rattle.sched_book.specs.Reports.{first_reports}
use Rattle.sched_book.specs.Sound.{Sound}
use Rattle.sched_book.specs.Step.{RpcStep, host_number, host_at_entry, after_settlement, asking_of, granted, classed, after_grant, resent_of, job_at, user_name}
use Rattle.sched_book.specs.declared.delta.Edit.{Edit}
use Rattle.sched_book.specs.declared.instance.Place.{Place}
use Rattle.sched_book.specs.declared.machine.Caller.{Caller}
use Rattle.sched_book.specs.declared.rows.HostRow.{HostRow}
use Rattle.sched_book.specs.declared.world.World.{World}
use Rattle.sched_book.proofs.PlaceChanges.{grants_are_by_place}
use Rattle.job_choice.specs.Chosen.{places_of}
use Rattle.job_choice.specs.declared.granted.Granted.{Granted}
use Rattle.quorum_credit.specs.Limited.{IsLimited}
use Rattle.quorum_credit.specs.Scores.{credits_in}
use Rattle.quorum_credit.specs.Settling.{AreScores}
use Rattle.quorum_credit.proofs.FitReports.{limited_from_sound}
use Rattle.quorum_credit.proofs.SettledAll.{units_in_limits}
use Rattle.sched_machine.specs.Classes.{ChangesClassesAlone}
use Rattle.sched_machine.specs.Granting.{with_classes, AreRunBy, CanTake, FitWithHost}
use Rattle.sched_machine.specs.Prepared.{IsReady}
use Rattle.sched_machine.specs.Replying.{AreReplyParts, IsGranted, reply_of}
use Rattle.sched_machine.specs.Totals.{user_credits_in}
use Rattle.sched_machine.specs.declared.preparing.Ready.{Ready}
use Rattle.sched_machine.specs.declared.reply.Told.{Told}
use Rattle.sched_machine.proofs.Classes.Left.{classed_like, credits_same, user_same}
use Rattle.sched_machine.proofs.Calls.Taken.{can_take, taken_is}
use Rattle.sched_machine.proofs.Credit.Scored.{totals_known}
use Rattle.sched_machine.proofs.Moves.Sound.{settled_sound, host_stands}

-- A call that is ready for its grant.
module _ (w v : World) (r : Request) (now : ℕ) (ready : Ready) (changes : List Edit) (is : IsReady w r now ready v changes) (soon : now ≤ last_moment) where
  -- the world before the grant is sound, and has the call's host
  ready_sound : Sound v
  ready_sound =
      subst Sound (sym is.settled.left)
      (settled_sound w ready.call.caller r now is.calling.sound is.calling.admitted.caller is.calling.room is.calling.admitted.limits soon)

  ready_has_host : IsTrue (is_some (host_at v ready.call.number))
  ready_has_host =
      ap₂ (λ (z : World) n. is_some (host_at z n)) is.settled.left is.calling.number
      ∙ ap is_some (host_stands w ready.call.caller r now is.calling.sound is.calling.admitted.caller is.calling.room is.calling.admitted.limits soon)

  -- the grant, and what the reply says of it
  pub granted_is : (u : World) (after : List Edit) (chosen : List Granted) (jobs : List Place) (told : Told) (word : EndWord)
      → AreRunBy w ready.call.host chosen → places_of chosen ≡ jobs
      → IsGrant (after_settlement w ready.call.caller r now) (asking_of w ready.call.caller r now) jobs
      → word ≡ end_word (after_settlement w ready.call.caller r now) (asking_of w ready.call.caller r now) jobs
      → u ≡ with_classes (granted v ready.call.number now (places_of chosen)) chosen
      → v ≡ edited w changes → (CanTake w chosen → FitWithHost w ready.call.number changes → FitWithHost w ready.call.number after)
      → AreReplyParts w u ready jobs told
      → IsGranted w r now ready u after told word
  granted_is u after chosen jobs told word runs places grant ends given here fits said = record {
    jobs = jobs;
    grant = grant;
    ends = ends;
    left =
        given
        ∙ taken_is w ready.call.host chosen (granted v ready.call.number now (places_of chosen)) runs
        ∙ ap (λ (h : HostRow). classed w h (granted v ready.call.number now (places_of chosen)) (places_of chosen)) is.calling.host
        ∙ ap₂ (λ (z : World) n. classed w (host_at_entry w ready.call.caller r) (granted z n now (places_of chosen)) (places_of chosen)) is.settled.left is.calling.number
        ∙ ap (after_grant w ready.call.caller r now) places;
    fits = (fits (can_take w ready.call.host chosen is.calling.sound runs) (record {
      units = units_in_limits w [] is.calling.sound;
      within = record { fits = is.settled.fits; limited = subst IsLimited here (limited_from_sound v ready_sound) };
      stands = subst (λ z. IsTrue (is_some (host_at z ready.call.number))) here ready_has_host;
    })).within.fits;
    tells = said;
  }

  -- so the call is a step of the machine
  module _ (u : World) (after : List Edit) (told : Told) (word : EndWord) (done : IsGranted w r now ready u after told word) where
    abbrev caller : Caller
    caller = ready.call.caller

    abbrev number : ℕ
    number = host_number w caller

    -- the classes that are taken change neither credit nor hosts
    abbrev given : World
    given = granted (after_settlement w caller r now) number now done.jobs

    like : ChangesClassesAlone given (after_grant w caller r now done.jobs)
    like = classed_like w (host_at_entry w caller r) done.jobs given

    totals : ((n : ℕ) → host_credit (granted (after_settlement w caller r now) number now done.jobs) n ≡ host_credit w n + credits_in ready.settled.scores n)
        × ((account : ℕ) → user_credit (granted (after_settlement w caller r now) number now done.jobs) account
        ≡ user_credit w account + user_credits_in (after_settlement w caller r now).hosts account ready.settled.scores)
    totals =
        totals_known w caller r now ready.settled.scores done.jobs is.calling.sound is.calling.admitted.caller is.calling.room is.calling.admitted.limits soon
        (subst (λ z. AreScores w z ready.settled.scores) is.settled.left is.settled.scores) done.grant

    host_total : told.host_credit ≡ host_credit u number
    host_total =
        done.tells.host_credit
        ∙ ap (λ n. host_credit w n + credits_in ready.settled.scores n) is.calling.number
        ∙ sym (totals.0 number)
        ∙ sym (ap (λ (f : ℕ → ℕ). f number) (credits_same given (after_grant w caller r now done.jobs) like))
        ∙ ap (λ (z : World). host_credit z number) (sym done.left)

    user_total : told.user_credit ≡ user_credit u caller.account
    user_total =
        done.tells.user_credit
        ∙ ap (λ (z : World). user_credit w caller.account + user_credits_in z.hosts caller.account ready.settled.scores) (done.left ∙ like.rest)
        ∙ ap (λ hosts. user_credit w caller.account + user_credits_in hosts caller.account ready.settled.scores)
        (grants_are_by_place (after_settlement w caller r now) number now done.jobs).rest.hosts
        ∙ sym (totals.1 caller.account)
        ∙ sym (user_same given (after_grant w caller r now done.jobs) like caller.account)
        ∙ ap (λ (z : World). user_credit z caller.account) (sym done.left)

    abbrev said : HostRow → List Place → List Job
    said host resent = filter_map (job_at u host true) resent ++ filter_map (job_at u host false) done.jobs

    results_are : told.results ≡ said (host_at_entry w caller r) (resent_of w caller r)
    results_are = done.tells.results ∙ ap₂ said is.calling.host is.settled.resent

    aborted_are : ready.aborted ≡ aborts (after_settlement w caller r now) number r.other_results
    aborted_are =
        is.aborted
        ∙ ap₂ (λ (z : World) n. aborts z n r.other_results) is.settled.left is.calling.number

    -- the reply, part by part
    parts_are : (delay : ℕ) → delay ≡ w.settings.request_delay → reply_of ready told word r delay ≡ record {
      end_word = end_word (after_settlement w caller r now) (asking_of w caller r now) done.jobs;
      host_total_credit = host_credit u number;
      hostid = number;
      request_delay = w.settings.request_delay;
      result_abort = aborts (after_settlement w caller r now) number r.other_results;
      result_ack = map (λ (x : Report). x.name) (first_reports r.results);
      results = said (host_at_entry w caller r) (resent_of w caller r);
      rpc_seqno = r.rpc_seqno;
      user_name = user_name w caller.account;
      user_total_credit = user_credit u caller.account;
    }
    parts_are delay delay_is = λ i. record {
      end_word = done.ends i;
      host_total_credit = host_total i;
      hostid = is.calling.number i;
      request_delay = delay_is i;
      result_abort = aborted_are i;
      result_ack = is.settled.acked i;
      results = results_are i;
      rpc_seqno = r.rpc_seqno;
      user_name = done.tells.user_name i;
      user_total_credit = user_total i;
    }

    pub call_is_step : (reply : Reply) (delay : ℕ) → delay ≡ w.settings.request_delay → reply ≡ reply_of ready told word r delay → RpcStep w caller r now u reply
    call_is_step reply delay delay_is reply_is = record {
      caller = is.calling.admitted.caller;
      room = is.calling.room;
      jobs = done.jobs;
      grant = done.grant;
      left = done.left;
      answer = reply_is ∙ parts_are delay delay_is;
    }
