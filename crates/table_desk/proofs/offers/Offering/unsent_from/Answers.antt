use Rattle.std.proofs.Common.{◌++◌, sym, subst}
use Rattle.std.specs.Prelude.{IfSome, Option}
use Rattle.sched_book.specs.Offers.{unsent}
use Rattle.table_desk.specs.Skips.{IsCovered}
use Rattle.sched_book.specs.Offers.{OrSkips}
use Rattle.table_desk.specs.Pages.{candidates_at, unsent_after}
use Rattle.table_desk.specs.WaitingWindow.{IsWindowOf}
use Rattle.table_desk.specs.declared.window.QueueWindow.{QueueWindow}
use Rattle.table_desk.proofs.AskedOn.{asked_before, asked_after}
use Rattle.table_desk.proofs.Jumps.{jumped}
use Rattle.table_desk.proofs.WindowsKept.{all_unsent}
use Rattle.table_desk.proofs.PagesOffered.{on_any, none_offered, then_all, then_some}
use Rattle.table_desk.proofs.offers.Offering.unsent_from.Goals as goal

pub returns-in-Some-places_from-clause-all : goal.returns-in-Some-places_from-clause-all
returns-in-Some-places_from-clause-all g c = λ clean is_open rests w tell same known before.
    let takes = OrSkips (IsCovered c.args.self.now.skip.now) g.T.Taker.takes in
    let old = c.args.taker.now in
    let next = c.next-from.result in
    let window = c.in-Some.window in
    let parts = c.in-Some-places_from.ensures w (subst (λ (o : Option QueueWindow). IfSome o (IsWindowOf w)) c.in-Some.is before) in
    let jump = jumped g.T.Taker.takes c.args.self.now.skip.now c.args.from next c.next-from.ensures.no_earlier c.next-from.ensures.covered w old in
    then_all takes old old c.offer_on.new.taker (unsent w c.args.from) (unsent w next) (candidates_at w c.in-Some-places_from.places.now ++ unsent_after w window) jump (sym parts) c.offer_on.result
    (c.offer_on.ensures.all clean is_open rests w tell same known)

pub returns-in-Some-places_from-clause-some : goal.returns-in-Some-places_from-clause-some
returns-in-Some-places_from-clause-some g c = λ clean is_open rests w tell same known before.
    let takes = OrSkips (IsCovered c.args.self.now.skip.now) g.T.Taker.takes in
    let old = c.args.taker.now in
    let next = c.next-from.result in
    let window = c.in-Some.window in
    let parts = c.in-Some-places_from.ensures w (subst (λ (o : Option QueueWindow). IfSome o (IsWindowOf w)) c.in-Some.is before) in
    let jump = jumped g.T.Taker.takes c.args.self.now.skip.now c.args.from next c.next-from.ensures.no_earlier c.next-from.ensures.covered w old in
    then_some takes old old c.offer_on.new.taker (unsent w c.args.from) (unsent w next) (candidates_at w c.in-Some-places_from.places.now ++ unsent_after w window) jump (sym parts) c.offer_on.result
    (c.offer_on.ensures.some clean is_open rests w tell same known)

pub returns-clause-window : goal.returns-clause-window
returns-clause-window g c = λ clean is_open rests w tell before.
    (asked_before g.S.Store c.args.conn.now c.read.new.conn c.offer_on-offered.new.conn c.offer_on-offered.ensures.reads c.in_ok-window.ensures.window clean is_open rests w tell).0

pub returns-in_err-window-clause-some : goal.returns-in_err-window-clause-some
returns-in_err-window-clause-some g c = λ clean is_open rests w tell same known before.
    on_any c.from_residual.result (none_offered (OrSkips (IsCovered c.args.self.now.skip.now) g.T.Taker.takes) c.args.taker.now (unsent w c.args.from))

pub returns-clause-all : goal.returns-clause-all
returns-clause-all g c = λ clean is_open rests w tell same known before.
    let store = g.S.Store in
    let first = c.args.conn.now in
    let mid = c.read.new.conn in
    let last = c.offer_on-offered.new.conn in
    let read = c.offer_on-offered.ensures.reads in
    let takes = OrSkips (IsCovered c.args.self.now.skip.now) g.T.Taker.takes in
    let old = c.args.taker.now in
    let next = c.next-from.result in
    let places = c.places.result.now in
    let window = asked_before store first mid last read c.in_ok-window.ensures.window clean is_open rests w tell in
    let first_window = c.in_ok-window.window in
    let parts = all_unsent w first_window.from first_window.end first_window.places window.0 next window.1 places c.places.ensures in
    let offered = asked_after store first mid last c.read.ensures.reads read c.offer_on-offered.ensures.all clean is_open rests w tell same known in
    let jump = jumped g.T.Taker.takes c.args.self.now.skip.now c.args.from next c.next-from.ensures.no_earlier c.next-from.ensures.covered w old in
    then_all takes old old c.offer_on-offered.new.taker (unsent w c.args.from) (unsent w next) (candidates_at w places ++ unsent_after w c.in_ok-window.window) jump (sym parts) c.offer_on-offered.result offered

pub returns-clause-some : goal.returns-clause-some
returns-clause-some g c = λ clean is_open rests w tell same known before.
    let store = g.S.Store in
    let first = c.args.conn.now in
    let mid = c.read.new.conn in
    let last = c.offer_on-offered.new.conn in
    let read = c.offer_on-offered.ensures.reads in
    let takes = OrSkips (IsCovered c.args.self.now.skip.now) g.T.Taker.takes in
    let old = c.args.taker.now in
    let next = c.next-from.result in
    let places = c.places.result.now in
    let window = asked_before store first mid last read c.in_ok-window.ensures.window clean is_open rests w tell in
    let first_window = c.in_ok-window.window in
    let parts = all_unsent w first_window.from first_window.end first_window.places window.0 next window.1 places c.places.ensures in
    let offered = asked_after store first mid last c.read.ensures.reads read c.offer_on-offered.ensures.some clean is_open rests w tell same known in
    let jump = jumped g.T.Taker.takes c.args.self.now.skip.now c.args.from next c.next-from.ensures.no_earlier c.next-from.ensures.covered w old in
    then_some takes old old c.offer_on-offered.new.taker (unsent w c.args.from) (unsent w next) (candidates_at w places ++ unsent_after w c.in_ok-window.window) jump (sym parts) c.offer_on-offered.result offered
