use Rattle.std.proofs.Common.{ap, ◌∙◌, rules}
use Rattle.table_desk.specs.Sorted.{rest_from}
use Rattle.table_desk.proofs.WindowsKept.{rest_unsent}
use Rattle.table_desk.proofs.window.QueueWindow.places_from.Goals as goal

pub returns-then-is_within : goal.returns-then-is_within
returns-then-is_within c = λ w are.
    let window = c.args.self.now in
    rest_unsent w window.from window.end window.places are c.args.from (search rules) c.rest_from.result.now (c.rest_from.ensures ∙ ap (rest_from c.args.from) c.places.ensures)
