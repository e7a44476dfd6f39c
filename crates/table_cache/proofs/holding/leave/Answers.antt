use Rattle.std.proofs.Common.{None, subst, ◌∙◌}
use Rattle.table_cache.specs.Holding.{AreHeldOf}
use Rattle.table_cache.proofs.HeldMoves.{holder_again, leaves, one_held, one_less, others_held}
use Rattle.table_cache.proofs.holding.leave.Goals as goal

pub returns-in_default : goal.returns-in_default
returns-in_default c = λ holders is are.
    subst (λ hs. AreHeldOf hs c.args.held.now) (holder_again holders c.args.place.unit c.args.place.number None (is ∙ c.in_default.is)) are

pub returns-in_default-take : goal.returns-in_default-take
returns-in_default-take c = λ holders is are.
    others_held holders c.args.place None c.in-Some.host (leaves _ c.in-Some.host (is ∙ c.in-Some.is)) c.args.held.now c.take.new.self are c.take.ensures.others

pub returns : goal.returns
returns c = λ holders is are.
    one_held holders c.args.place None c.in-Some.host (leaves _ c.in-Some.host (is ∙ c.in-Some.is)) c.args.held.now c.take.new.self c.put.new.self
    c.in-Some-take.known c.remove_place.new.places are c.in-Some-take.ensures.row c.take.ensures.others
    c.remove_place.ensures.sorted (λ sorted. one_less c.args.place c.in-Some-take.known c.remove_place.new.places (c.remove_place.ensures.members sorted)) c.put.ensures
