use Rattle.std.proofs.Common.{ℕ, sym, ◌∙◌, ap}
use Rattle.std.specs.Prelude.{Some, is_ok}
use Rattle.stores.specs.Acting.{parts_of}
use Rattle.stores.proofs.ReadsAct.{reads_act}
use Rattle.pasts.specs.Messages.{Read, heard_now}
use Rattle.message_engine.specs.Stores.{ServesIn}
use Rattle.sched_server.specs.Statements.{statement_told, told_of_host}
use Rattle.message_engine.proofs.EntriesKept.{told_serves}
use Rattle.stores.proofs.Results.{only}
use Rattle.sched_server.proofs.statements.statement.Goals as goal

pub returns-clause-exact : goal.returns-clause-exact
returns-clause-exact g c = λ honest kept.
    let reads = g.met.S.Units.reads_on _ _ _ c.host_statement.ensures.reads c.confirmed.ensures.reads in
    let old = c.args.store.now in
    let new = c.confirmed.new.store in
    let honest_1 = g.met.S.Units.stays_honest _ _ c.confirmed.ensures.reads honest in
    only c.confirmed.result c.tell.result (λ a. (now : ℕ) → ServesIn (heard_now now (Read (told_of_host c.args.host))) a (g.S.Store.holds old) (g.S.Store.holds new)) c.confirmed.ensures.answer
    (λ now. told_serves (heard_now now (Read (told_of_host c.args.host))) c.tell.result (g.S.Store.holds old) (g.S.Store.holds new)
    (ap (λ w. Some (told_of_host c.args.host w)) (g.met.S.Store.world_held old)
    ∙ ap Some (ap statement_told (sym (c.in_ok-statement.ensures.answer honest_1 kept)) ∙ sym c.tell.ensures))
    (g.met.S.Store.stays_held _ _ reads honest kept))

pub returns-clause-acts : goal.returns-clause-acts
returns-clause-acts g c =
    let reads = g.met.S.Units.reads_on _ _ _ c.host_statement.ensures.reads c.confirmed.ensures.reads in
    reads_act (parts_of g.S.Units g.S.Store.holds g.S.Store.clean g.S.Store.lasting g.S.Store.may_leave g.S.Store.reopens) c.args.store.now c.confirmed.new.store
    (g.met.S.Store.stays_clean _ _ reads) (g.met.S.Units.stays_honest _ _ reads) (g.met.S.Units.stays_kept _ _ reads)
    (λ lasting honest. g.met.S.Store.stays_open _ _ lasting reads honest) (g.met.S.Store.stays_held _ _ reads) (g.met.S.Store.stays_left _ _ reads) (g.met.S.Store.stays_reopened _ _ reads)
    (is_ok c.confirmed.result) _ c.confirmed.ensures.open
