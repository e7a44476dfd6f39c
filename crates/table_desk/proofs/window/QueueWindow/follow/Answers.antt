use Rattle.std.proofs.Common.{rules}
use Rattle.table_desk.proofs.WindowsKept.{window_moved, window_stays}
use Rattle.table_desk.proofs.window.QueueWindow.follow.Goals as goal

pub returns-then-not-is_within : goal.returns-then-not-is_within
returns-then-not-is_within c = λ kept waiting are.
    let window = c.args.self.now in
    window_stays waiting window.from window.end window.places are c.args.place c.args.waits (search rules)

pub returns-then-set_place : goal.returns-then-set_place
returns-then-set_place c = λ kept waiting are.
    let window = c.args.self.now in
    let done = c.if-set_place.true in
    window_moved waiting window.from window.end window.places are c.args.place c.args.waits (search rules) c.set_place.new.places (c.set_place.ensures.sorted done are.sorted) (c.set_place.ensures.members done are.sorted)
