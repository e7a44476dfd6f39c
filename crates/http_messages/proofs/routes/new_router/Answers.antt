-- Each insertion says what the router holds after it.
use Rattle.std.proofs.Common.{refl}
use Rattle.matchit.proofs.OnLiterals.{matchit_on_literals}
use Rattle.http_messages.proofs.routes.new_router.Goals as goal

pub returns : goal.returns
unfolding matchit_on_literals
returns c =
    let first = c.in_ok-insert.ensures in
    let second = c.in_ok-insert-2.ensures in
    let third = c.in_ok-insert-3.ensures in
    let fourth = c.in_ok-insert-4.ensures in
    rw (fourth.1, third.1, second.1, first.1, c.new-router.ensures) refl
