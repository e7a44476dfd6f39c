use Rattle.std.proofs.Common.{◌≡◌, Option, Some, subst, rules}
use Rattle.std.specs.Prelude.{IfSome}
use Rattle.table_desk.specs.WaitingWindow.{IsWindowFor}
use Rattle.table_desk.specs.declared.window.QueueWindow.{QueueWindow}
use Rattle.table_cache.proofs.following.follow_window.Goals as goal

pub returns-then-follow : goal.returns-then-follow
returns-then-follow c = λ waiting are.
    let was : c.args.window.now ≡ Some c.in-Some.read = search rules in
    c.follow.ensures (search rules) waiting (subst (λ (o : Option QueueWindow). IfSome o (IsWindowFor waiting)) was are)
