use Rattle.commands.proofs.orders.perform.Goals as goal

pub returns-in-Serve-clause-stands : goal.returns-in-Serve-clause-stands
returns-in-Serve-clause-stands g c = λ some. rw c.in-Serve.is (c.perform_in-in-Serve.ensures.keeps some)
