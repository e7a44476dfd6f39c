use Rattle.sched_book.specs.Offers.{unsent}
use Rattle.sched_tables.specs.Views.{world_of}
use Rattle.sched_tables.proofs.Leads.{each_ok, all_err}
use Rattle.sched_tables.proofs.Offered.{none_skipped_all, none_skipped_some}
use Rattle.sched_tables.proofs.desk.TablesDesk.unsent_from.Goals as goal

pub returns-clause-all : goal.returns-clause-all
returns-clause-all g c = λ honest kept.
    let w = world_of g.S.Store c.args.self.now in
    each_ok c.offer_and_note.result _ _ (c.offer_and_note.ensures.all honest kept)
    (none_skipped_all g.T.Taker.takes w c.args.taker.now (unsent w c.args.from) c.offer_and_note.new.taker)

pub returns-clause-some : goal.returns-clause-some
returns-clause-some g c = λ honest kept.
    let w = world_of g.S.Store c.args.self.now in
    all_err c.offer_and_note.result _ _ (c.offer_and_note.ensures.some honest kept)
    (none_skipped_some g.T.Taker.takes w c.args.taker.now (unsent w c.args.from) c.offer_and_note.new.taker)
