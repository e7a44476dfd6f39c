use Rattle.std.proofs.Common.{ℕ, ◌∷◌, [], ◌++◌, List, length, ◌∙◌, ap}
use Rattle.std.proofs.lemmas.Result.{err_from_is_err_and}
use Rattle.stores.specs.Acting.{parts_of}
use Rattle.sched_server.specs.Arrivals.{Came, StoreStandsFor, HandledInTurn}
use Rattle.sched_server.specs.Views.{store_of, operator_key_of}
use Rattle.sched_server.proofs.Followed.{one_more, holds_next, holds_so_far, handled_as, stands_on}
use Rattle.sched_server.proofs.service.Service.run.Goals as goal

pub loop-arrival-preserved : goal.loop-arrival-preserved
loop-arrival-preserved g c =
    let kept = c.loop-arrival.invariant in
    let first = c.args.self.now in
    let after = c.handle.new.self in
    let acts = c.handle.ensures.acts in
    let P : List ℕ → List Came → Type 0 = λ points came. StoreStandsFor (parts_of g.S.Units g.S.Store.holds g.S.Store.clean g.S.Store.lasting g.S.Store.may_leave g.S.Store.reopens) (operator_key_of first) points came (store_of after) in
    let Q : List Came → Type 0 = λ came. HandledInTurn (operator_key_of first) came (g.S.Store.holds (store_of first)) (g.S.Store.holds (store_of after)) in (
      λ honest. kept.0 (acts.was_honest honest),
      λ honest well. acts.stays_kept honest (kept.1 (acts.was_honest honest) well),
      c.handle.ensures.key ∙ kept.2,
      ap length c.in_ok-push.ensures.items ∙ one_more _ _ _ kept.3,
      λ clean. kept.4 (acts.was_clean clean),
      λ lasting honest. acts.lasts lasting (kept.5 lasting honest),
      λ points before st clean. holds_next (P points) before _ _ _ _ _ _ c.loop-arrival-test.true c.arrival-item.is kept.3 c.in_ok-push.ensures.items (stands_on (parts_of g.S.Units g.S.Store.holds g.S.Store.clean g.S.Store.lasting g.S.Store.may_leave g.S.Store.reopens) (operator_key_of first) _ _ _ _ _ _ _ kept.2 c.as_slice.ensures c.handle.ensures.stands points _
          (kept.6 points before st (acts.was_clean clean)) clean),
      λ honest well.
          holds_next Q [] _ _ _ _ _ _ c.loop-arrival-test.true c.arrival-item.is kept.3 c.in_ok-push.ensures.items
          (_, kept.7 (acts.was_honest honest) well, handled_as (operator_key_of first) _ _ _ _ _ _ _ kept.2 c.as_slice.ensures (c.handle.ensures.exact honest (kept.1 (acts.was_honest honest) well))),
      λ well reopens. c.handle.ensures.reopens (λ honest. kept.1 honest (well (kept.0 honest))) (kept.8 well reopens),
    )

-- the last arrival acted, and there was no room for its answer
pub returns-in_err-push-clause-acts : goal.returns-in_err-push-clause-acts
returns-in_err-push-clause-acts g c =
    let kept = c.loop-arrival.invariant in
    let first = c.args.self.now in
    let after = c.handle.new.self in
    let acts = c.handle.ensures.acts in
    let P : List ℕ → List Came → Type 0 = λ points came. StoreStandsFor (parts_of g.S.Units g.S.Store.holds g.S.Store.clean g.S.Store.lasting g.S.Store.may_leave g.S.Store.reopens) (operator_key_of first) points came (store_of after) in
    let Q : List Came → Type 0 = λ came. HandledInTurn (operator_key_of first) came (g.S.Store.holds (store_of first)) (g.S.Store.holds (store_of after)) in
    let error = err_from_is_err_and c.from_residual.result c.from_residual.ensures.1 in
    record {
      answers = c.loop-arrival.answers.items ++ c.handle.result ∷ [];
      given = rw error.1 tt;
      handled = λ honest well.
          holds_so_far Q [] _ _ _ _ _ c.loop-arrival-test.true c.arrival-item.is kept.3 (_, kept.7 (acts.was_honest honest) well, handled_as (operator_key_of first) _ _ _ _ _ _ _ kept.2 c.as_slice.ensures (c.handle.ensures.exact honest (kept.1 (acts.was_honest honest) well)));
      stands = λ points before st clean. holds_so_far (P points) before _ _ _ _ _ c.loop-arrival-test.true c.arrival-item.is kept.3 (stands_on (parts_of g.S.Units g.S.Store.holds g.S.Store.clean g.S.Store.lasting g.S.Store.may_leave g.S.Store.reopens) (operator_key_of first) _ _ _ _ _ _ _ kept.2 c.as_slice.ensures c.handle.ensures.stands points _
          (kept.6 points before st (acts.was_clean clean)) clean);
    }
