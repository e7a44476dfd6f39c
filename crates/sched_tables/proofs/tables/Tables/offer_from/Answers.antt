use Rattle.std.proofs.Common.{List, rules, subst, ◌∙◌}
use Rattle.std.specs.Prelude.{All}
use Rattle.sched_book.specs.Offers.{OffersAll, OffersSome, unsent}
use Rattle.sched_book.specs.Offers.{OrSkips}
use Rattle.sched_tables.specs.Offering.{MaySkip}
use Rattle.table_cache.specs.Remembering.{IsUnitOf}
use Rattle.sched_tables.specs.Views.{world_of}
use Rattle.table_cache.specs.declared.cache.UnitRead.{UnitRead}
use Rattle.sched_tables.proofs.Leads.{each_ok, all_err, either_way}
use Rattle.sched_tables.proofs.Offered.{passed_on_all, passed_on_some}
use Rattle.sched_tables.proofs.Told.{told}
use Rattle.sched_tables.proofs.tables.Tables.offer_from.Goals as goal

pub returns-clause-reads : goal.returns-clause-reads
returns-clause-reads g c = (
  search rules,
  search rules,
  search rules,
  λ honest kept.
      let taken = c.take_window-window.ensures _ _ kept.1.rows_are in
      c.remember_window.ensures _ _ taken.0 (told g.S.Store c.args.self.now c.unsent_from-offered.new.conn _ c.unsent_from-offered.ensures.window honest kept taken.1),
  λ honest kept. kept.1.due_from_is,
)

pub returns-clause-all : goal.returns-clause-all
returns-clause-all g c = λ honest kept.
    let w = world_of g.S.Store c.args.self.now in
    let taken = c.take_window-window.ensures _ _ kept.1.rows_are in
    let skip = c.skip_of.ensures _ _ taken.0 in
    each_ok c.unsent_from-offered.result _ _ (told g.S.Store c.args.self.now c.unsent_from-offered.new.conn _ c.unsent_from-offered.ensures.all honest kept (c.as_slice.ensures ∙ kept.1.apps_are) taken.0.units taken.1)
    (λ offered.
    let on = passed_on_all g.T.Taker.takes w c.args.account c.skip_of.result.now skip c.args.from _ _ offered in
    let names = on.1.1 in
    subst (λ t. OffersAll (OrSkips (MaySkip w c.args.account) g.T.Taker.takes) c.args.taker.now (unsent w c.args.from) t) (search (rules, names)) on.0)

pub returns-clause-some : goal.returns-clause-some
returns-clause-some g c = λ honest kept.
    let w = world_of g.S.Store c.args.self.now in
    let taken = c.take_window-window.ensures _ _ kept.1.rows_are in
    let skip = c.skip_of.ensures _ _ taken.0 in
    all_err c.unsent_from-offered.result _ _ (told g.S.Store c.args.self.now c.unsent_from-offered.new.conn _ c.unsent_from-offered.ensures.some honest kept (c.as_slice.ensures ∙ kept.1.apps_are) taken.0.units taken.1)
    (λ offered.
    let on = passed_on_some g.T.Taker.takes w c.args.account c.skip_of.result.now skip c.args.from _ _ offered in
    let names = on.1.1 in
    subst (λ t. OffersSome (OrSkips (MaySkip w c.args.account) g.T.Taker.takes) c.args.taker.now (unsent w c.args.from) t) (search (rules, names)) on.0)

pub returns-clause-noted : goal.returns-clause-noted
returns-clause-noted g c = λ honest kept before.
    let w = world_of g.S.Store c.args.self.now in
    let taken = c.take_window-window.ensures _ _ kept.1.rows_are in
    let skip = c.skip_of.ensures _ _ taken.0 in
    either_way c.unsent_from-offered.result _ _ _
    (told g.S.Store c.args.self.now c.unsent_from-offered.new.conn _ c.unsent_from-offered.ensures.all honest kept (c.as_slice.ensures ∙ kept.1.apps_are) taken.0.units taken.1)
    (told g.S.Store c.args.self.now c.unsent_from-offered.new.conn _ c.unsent_from-offered.ensures.some honest kept (c.as_slice.ensures ∙ kept.1.apps_are) taken.0.units taken.1)
    (λ offered.
    let on = passed_on_all g.T.Taker.takes w c.args.account c.skip_of.result.now skip c.args.from _ _ offered in
    let names = on.1.2 in
    subst (λ (us : List UnitRead). All (IsUnitOf w) us) (search (rules, names)) (on.1.0 before))
    (λ offered.
    let on = passed_on_some g.T.Taker.takes w c.args.account c.skip_of.result.now skip c.args.from _ _ offered in
    let names = on.1.2 in
    subst (λ (us : List UnitRead). All (IsUnitOf w) us) (search (rules, names)) (on.1.0 before))
