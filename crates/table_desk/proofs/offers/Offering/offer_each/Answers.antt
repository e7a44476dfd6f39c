use Rattle.std.proofs.Common.{◌≡◌, ◌++◌, drop, sym, subst, inl}
use Rattle.sqlite.specs.Held.{state}
use Rattle.sched_book.specs.Offers.{OffersSome, OfferedSome}
use Rattle.sched_book.specs.declared.desk.Flow.{Flow}
use Rattle.table_meaning.proofs.StepLemmas.{reads_on}
use Rattle.table_desk.specs.Skips.{IsCovered}
use Rattle.sched_book.specs.Offers.{OrSkips}
use Rattle.table_desk.specs.Pages.{candidates_at}
use Rattle.table_desk.proofs.AskedOn.{asked_before, asked_after}
use Rattle.table_desk.proofs.PagesOffered.{on_any, none_offered, one_more, one_passed}
use Rattle.table_desk.proofs.offers.Offering.offer_each.Goals as goal

pub returns-in_err-offer_at-clause-some : goal.returns-in_err-offer_at-clause-some
returns-in_err-offer_at-clause-some g c = λ clean is_open rests w tell same known.
    let takes = OrSkips (IsCovered c.args.self.now.skip.now) g.T.Taker.takes in
    let old = c.args.taker.now in
    let now = c.loop-place.taker in
    let all = candidates_at w c.args.places.now in
    let left = candidates_at w (drop c.loop-place.place-index c.args.places.now) in
    let kept = asked_before g.S.Store c.args.conn.now c.loop-place.conn c.offer_at.new.conn c.offer_at.ensures.reads c.loop-place.invariant.1 clean is_open rests w tell same known in
    let none : c.offer_at.new.taker ≡ now = c.in_err-offer_at.ensures.none in
    on_any {P = OfferedSome takes old all c.offer_at.new.taker} c.from_residual.result
    (λ more. subst (OffersSome takes old (all ++ more)) (sym none) ((kept more).to_some now (none_offered takes now (left ++ more))))

pub loop-place-preserved : goal.loop-place-preserved
loop-place-preserved g c =
    let store = g.S.Store in
    let first = c.args.conn.now in
    let mid = c.loop-place.conn in
    let last = c.offer_at.new.conn in
    let so_far = c.loop-place.invariant.0 in
    let read = c.offer_at.ensures.reads in (
      reads_on (state store first) (state store mid) (state store last) so_far read,
      λ clean is_open rests w tell same known more.
          let takes = OrSkips (IsCovered c.args.self.now.skip.now) g.T.Taker.takes in
          let now = c.loop-place.taker in
          let new = c.offer_at.new.taker in
          let kept = asked_before store first mid last read c.loop-place.invariant.1 clean is_open rests w tell same known in
          let offered = asked_after store first mid last so_far read c.in_ok-offer_at.ensures.offered clean is_open rests w tell same known in
          let taken = subst (λ (flow : Flow). g.T.Taker.takes now offered.0 flow new) c.in-GoOn.is offered.2 in
          one_more takes w c.args.taker.now now new c.args.places.now c.loop-place.place-index _ (candidates_at w c.args.places.now ++ more) more offered.0 c.loop-place-test.true offered.1 (inl taken) (kept more),
    )

pub loop-place-preserved-then-is_skipped : goal.loop-place-preserved-then-is_skipped
loop-place-preserved-then-is_skipped g c = (
  c.loop-place.invariant.0,
  λ clean is_open rests w tell same known more.
      one_passed (OrSkips (IsCovered c.args.self.now.skip.now) g.T.Taker.takes) w c.args.taker.now c.loop-place.taker c.args.places.now c.loop-place.place-index _ (candidates_at w c.args.places.now ++ more) more c.loop-place-test.true
      (c.is_skipped.ensures c.if-is_skipped.true) (c.loop-place.invariant.1 clean is_open rests w tell same known more),
)
