use Rattle.std.proofs.Common.{◌++◌, ap, subst}
use Rattle.sched_book.specs.Offers.{Offered}
use Rattle.sched_book.specs.declared.desk.Flow.{Flow}
use Rattle.table_desk.specs.Skips.{IsCovered}
use Rattle.sched_book.specs.Offers.{OrSkips}
use Rattle.table_desk.specs.Pages.{candidates_at, unsent_after, unsent_on}
use Rattle.table_desk.proofs.AskedOn.{asked_before, asked_after}
use Rattle.table_desk.proofs.PagesOffered.{then_all, then_some}
use Rattle.table_desk.proofs.offers.Offering.offer_on.Goals as goal

pub returns-in-GoOn-clause-all : goal.returns-in-GoOn-clause-all
returns-in-GoOn-clause-all g c = λ clean is_open rests w tell same known.
    let store = g.S.Store in
    let first = c.args.conn.now in
    let mid = c.offer_each.new.conn in
    let last = c.offer_pages.new.conn in
    let read = c.offer_pages.ensures.reads in
    let takes = OrSkips (IsCovered c.args.self.now.skip.now) g.T.Taker.takes in
    let old = c.args.taker.now in
    let now = c.offer_each.new.taker in
    let these = candidates_at w c.args.places.now in
    let more = unsent_after w c.args.window.now in
    let first_ones = asked_before store first mid last read c.in_ok-offer_each.ensures.all clean is_open rests w tell same known in
    let offered = subst (λ (flow : Flow). Offered takes old these now flow) c.in-GoOn.is first_ones in
    let others = asked_after store first mid last c.offer_each.ensures.reads read c.offer_pages.ensures.all clean is_open rests w tell same known in
    then_all takes old now c.offer_pages.new.taker (these ++ more) more (unsent_on w c.next.result) (offered more) (ap (unsent_on w) c.next.ensures) c.offer_pages.result others

pub returns-in-GoOn-clause-some : goal.returns-in-GoOn-clause-some
returns-in-GoOn-clause-some g c = λ clean is_open rests w tell same known.
    let store = g.S.Store in
    let first = c.args.conn.now in
    let mid = c.offer_each.new.conn in
    let last = c.offer_pages.new.conn in
    let read = c.offer_pages.ensures.reads in
    let takes = OrSkips (IsCovered c.args.self.now.skip.now) g.T.Taker.takes in
    let old = c.args.taker.now in
    let now = c.offer_each.new.taker in
    let these = candidates_at w c.args.places.now in
    let more = unsent_after w c.args.window.now in
    let first_ones = asked_before store first mid last read c.in_ok-offer_each.ensures.all clean is_open rests w tell same known in
    let offered = subst (λ (flow : Flow). Offered takes old these now flow) c.in-GoOn.is first_ones in
    let others = asked_after store first mid last c.offer_each.ensures.reads read c.offer_pages.ensures.some clean is_open rests w tell same known in
    then_some takes old now c.offer_pages.new.taker (these ++ more) more (unsent_on w c.next.result) (offered more) (ap (unsent_on w) c.next.ensures) c.offer_pages.result others
