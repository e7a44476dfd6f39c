use Rattle.std.proofs.Common.{◌≡◌, [], ap, sym, subst, ◌∙◌}
use Rattle.std.proofs.lemmas.Result.{IfOk-weaker}
use Rattle.sched_book.specs.Offers.{unsent, Offered, OffersSome, Leads}
use Rattle.sched_book.specs.declared.desk.Flow.{Flow}
use Rattle.table_meaning.specs.declared.tables.QueuePage.TheVariants.{Further}
use Rattle.table_desk.specs.Skips.{IsCovered}
use Rattle.sched_book.specs.Offers.{OrSkips}
use Rattle.table_desk.specs.Pages.{candidates_at, next_page, unsent_on}
use Rattle.table_desk.proofs.AskedOn.{asked_before, asked_after}
use Rattle.table_desk.proofs.Jumps.{jumped}
use Rattle.table_desk.proofs.PagesOffered.{on_any, none_offered, leads_on, page_passed, page_stopped, page_ended}
use Rattle.table_desk.proofs.Waiting.{further_page_read}
use Rattle.table_desk.proofs.offers.Offering.offer_page.Goals as goal

pub returns-in_err-queued-clause-some : goal.returns-in_err-queued-clause-some
returns-in_err-queued-clause-some g c = λ clean is_open rests w tell same known.
    on_any c.from_residual.result (none_offered (OrSkips (IsCovered c.args.self.now.skip.now) g.T.Taker.takes) c.args.taker.now (unsent w c.args.from))

pub returns-in_err-offer_each-clause-some : goal.returns-in_err-offer_each-clause-some
returns-in_err-offer_each-clause-some g c = λ clean is_open rests w tell same known.
    let store = g.S.Store in
    let first = c.args.conn.now in
    let mid = c.queued_from.new.conn in
    let last = c.offer_each.new.conn in
    let read = c.offer_each.ensures.reads in
    let takes = OrSkips (IsCovered c.args.self.now.skip.now) g.T.Taker.takes in
    let old = c.args.taker.now in
    let new = c.offer_each.new.taker in
    let next = c.next.result in
    let places = c.as_slice.result.now in
    let page = asked_before store first mid last read (further_page_read store first mid next c.in_ok-queued.queued c.in_ok-queued.ensures.queued places c.as_slice.ensures) clean is_open rests w tell in
    let offered = asked_after store first mid last c.queued_from.ensures.reads read c.in_err-offer_each.ensures.some clean is_open rests w tell same known in
    let ended = page_ended takes old new (candidates_at w places) (unsent_on w (next_page Further places)) (unsent w next) page offered in
    on_any {P = OffersSome takes old (unsent w c.args.from) new} c.from_residual-in_err-offer_each.result
    ((jumped g.T.Taker.takes c.args.self.now.skip.now c.args.from next c.next.ensures.no_earlier c.next.ensures.covered w old).to_some new ended)

pub returns-in-Stop-clause-all : goal.returns-in-Stop-clause-all
returns-in-Stop-clause-all g c = λ clean is_open rests w tell same known.
    let store = g.S.Store in
    let first = c.args.conn.now in
    let mid = c.queued_from.new.conn in
    let last = c.offer_each.new.conn in
    let read = c.offer_each.ensures.reads in
    let takes = OrSkips (IsCovered c.args.self.now.skip.now) g.T.Taker.takes in
    let old = c.args.taker.now in
    let new = c.offer_each.new.taker in
    let next = c.next.result in
    let places = c.as_slice.result.now in
    let page = asked_before store first mid last read (further_page_read store first mid next c.in_ok-queued.queued c.in_ok-queued.ensures.queued places c.as_slice.ensures) clean is_open rests w tell in
    let offered = asked_after store first mid last c.queued_from.ensures.reads read c.in_ok-offer_each.ensures.all clean is_open rests w tell same known in
    let stopped = page_stopped takes old new (candidates_at w places) (unsent_on w (next_page Further places)) (unsent w next) page
    (subst (λ (flow : Flow). Offered takes old (candidates_at w places) new flow) c.in-Stop.is offered) in
    leads_on takes old old new (unsent w c.args.from) (unsent w next) [] (jumped g.T.Taker.takes c.args.self.now.skip.now c.args.from next c.next.ensures.no_earlier c.next.ensures.covered w old) stopped

pub returns-clause-all : goal.returns-clause-all
returns-clause-all g c = λ clean is_open rests w tell same known.
    let store = g.S.Store in
    let first = c.args.conn.now in
    let mid = c.queued_from.new.conn in
    let last = c.offer_each.new.conn in
    let read = c.offer_each.ensures.reads in
    let takes = OrSkips (IsCovered c.args.self.now.skip.now) g.T.Taker.takes in
    let old = c.args.taker.now in
    let new = c.offer_each.new.taker in
    let next = c.next.result in
    let places = c.as_slice.result.now in
    let left = unsent_on w (next_page Further places) in
    let page = asked_before store first mid last read (further_page_read store first mid next c.in_ok-queued.queued c.in_ok-queued.ensures.queued places c.as_slice.ensures) clean is_open rests w tell in
    let offered = asked_after store first mid last c.queued_from.ensures.reads read c.in_ok-offer_each.ensures.all clean is_open rests w tell same known in
    let passed = page_passed takes old new (candidates_at w places) left (unsent w next) page
    (subst (λ (flow : Flow). Offered takes old (candidates_at w places) new flow) c.in-GoOn.is offered) in
    let leads = leads_on takes old old new (unsent w c.args.from) (unsent w next) left (jumped g.T.Taker.takes c.args.self.now.skip.now c.args.from next c.next.ensures.no_earlier c.next.ensures.covered w old) passed in
    let again = c.as_slice-in-GoOn.ensures ∙ sym c.as_slice.ensures in
    IfOk-weaker c.next_page.result (λ next. next ≡ next_page Further c.as_slice-in-GoOn.result.now) _
    (λ next is. subst (λ n. Leads takes old (unsent w c.args.from) new (unsent_on w n)) (sym (is ∙ ap (next_page Further) again)) leads) c.next_page.ensures

pub returns-clause-some : goal.returns-clause-some
returns-clause-some g c = λ clean is_open rests w tell same known.
    let store = g.S.Store in
    let first = c.args.conn.now in
    let mid = c.queued_from.new.conn in
    let last = c.offer_each.new.conn in
    let read = c.offer_each.ensures.reads in
    let takes = OrSkips (IsCovered c.args.self.now.skip.now) g.T.Taker.takes in
    let old = c.args.taker.now in
    let new = c.offer_each.new.taker in
    let next = c.next.result in
    let places = c.as_slice.result.now in
    let left = unsent_on w (next_page Further places) in
    let page = asked_before store first mid last read (further_page_read store first mid next c.in_ok-queued.queued c.in_ok-queued.ensures.queued places c.as_slice.ensures) clean is_open rests w tell in
    let offered = asked_after store first mid last c.queued_from.ensures.reads read c.in_ok-offer_each.ensures.all clean is_open rests w tell same known in
    let passed = page_passed takes old new (candidates_at w places) left (unsent w next) page
    (subst (λ (flow : Flow). Offered takes old (candidates_at w places) new flow) c.in-GoOn.is offered) in
    on_any {P = OffersSome takes old (unsent w c.args.from) new} c.next_page.result
    ((jumped g.T.Taker.takes c.args.self.now.skip.now c.args.from next c.next.ensures.no_earlier c.next.ensures.covered w old).to_some new (passed.to_some new (none_offered takes new left)))
