use Rattle.std.proofs.Common.{Some, sym, subst, ◌∙◌}
use Rattle.table_cache.specs.Holding.{with_holder, AreHeldOf}
use Rattle.table_cache.proofs.HeldMoves.{enters, holder_again, one_held, one_more, others_held}
use Rattle.table_cache.proofs.holding.enter.Goals as goal

pub returns-in_default : goal.returns-in_default
returns-in_default c = λ holders is are.
    let unit = c.args.place.unit in
    let number = c.args.place.number in
    subst (λ hs. AreHeldOf hs c.args.held.now) (holder_again holders unit number c.args.holder (is ∙ sym c.in_default.is)) are

pub returns-in_default-take : goal.returns-in_default-take
returns-in_default-take c = λ holders is are.
    let place = c.args.place in
    let host = c.in-Some.host in
    subst (λ o. AreHeldOf (with_holder holders place.unit place.number o) c.take.new.self) (sym c.in-Some.is)
    (others_held holders place (Some host) host (enters _ host is) c.args.held.now c.take.new.self are c.take.ensures.others)

pub returns-in_default-with_place : goal.returns-in_default-with_place
returns-in_default-with_place c = λ holders is are.
    let place = c.args.place in
    let host = c.in-Some.host in
    subst (λ o. AreHeldOf (with_holder holders place.unit place.number o) c.take.new.self) (sym c.in-Some.is)
    (others_held holders place (Some host) host (enters _ host is) c.args.held.now c.take.new.self are c.take.ensures.others)

pub returns-in-Some-with_place : goal.returns-in-Some-with_place
returns-in-Some-with_place c = λ holders is are.
    let place = c.args.place in
    let host = c.in-Some.host in
    subst (λ o. AreHeldOf (with_holder holders place.unit place.number o) c.put.new.self) (sym c.in-Some.is)
    (one_held holders place (Some host) host (enters _ host is) c.args.held.now c.take.new.self c.put.new.self c.in-Some-take.known c.in-Some-with_place.places are c.in-Some-take.ensures.row c.take.ensures.others
    (λ sorted. (c.in-Some-with_place.ensures sorted).0) (λ sorted. one_more place c.in-Some-take.known c.in-Some-with_place.places host (c.in-Some-with_place.ensures sorted).1) c.put.ensures)
