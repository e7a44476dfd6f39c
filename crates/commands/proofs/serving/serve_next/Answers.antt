use Rattle.std.proofs.Common.{None, refl, subst, inl, inr}
use Rattle.commands.proofs.serving.serve_next.Goals as goal

pub returns-in-Some : goal.returns-in-Some
returns-in-Some g c =
    let done = c.serve_accepted.ensures in
    let came = subst (λ next. g.C.Connections.accepts c.args.connections.now next c.accept.new.self) c.in-Some.is c.accept.ensures in
    (done.0, inr (c.in-Some.accepted, c.accept.new.self, came, done.1), done.2)

pub returns-in-None : goal.returns-in-None
returns-in-None g c =
    (None, inl (subst (λ next. g.C.Connections.accepts c.args.connections.now next c.accept.new.self) c.in-None.is c.accept.ensures, refl), refl)
