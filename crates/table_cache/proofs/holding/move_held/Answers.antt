use Rattle.std.proofs.Common.{None, subst, ◌∙◌, rules}
use Rattle.table_cache.specs.Holding.{with_holder, AreHeldOf}
use Rattle.table_cache.proofs.HeldMoves.{holder_again, holder_over, holder_there}
use Rattle.table_cache.proofs.holding.move_held.Goals as goal

pub returns-then-eq : goal.returns-then-eq
returns-then-eq c = λ holders is are.
    subst (λ hs. AreHeldOf hs c.args.held.now) (holder_again holders c.args.place.unit c.args.place.number c.args.new (is ∙ search rules)) are

pub returns : goal.returns
returns c = λ holders is are.
    let unit = c.args.place.unit in
    let number = c.args.place.number in
    subst (λ hs. AreHeldOf hs c.enter.new.held) (holder_over holders unit number None c.args.new)
    (c.enter.ensures (with_holder holders unit number None) (holder_there holders unit number None) (c.leave.ensures holders is are))
