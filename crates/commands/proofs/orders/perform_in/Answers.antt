use Rattle.std.proofs.Common.{sym, subst, ◌∙◌}
use Rattle.sqlite_wal.specs.Files.{image_at}
use Rattle.commands.specs.Files.{KeepsFiles}
use Rattle.commands.specs.Wire.{AreServed}
use Rattle.commands.proofs.InFiles.{keeps_files, leaves_some, none_opened, not_opened}
use Rattle.commands.proofs.orders.perform_in.Goals as goal

pub returns-in-Ok-clause-opened : goal.returns-in-Ok-clause-opened
returns-in-Ok-clause-opened g c = λ none.
    let done = c.perform_on-ended.result in
    absurd (leaves_some c.in-Ok.conn (image_at g.B.Start) c.in-Ok.ensures.opened c.in-Ok.ensures.found g.F.Files (AreServed g.C.Connections g.C.Reader.Source g.C.Writer.Sink c.args.connections.now c.perform_on-ended.new.connections) c.args.action.now done.ended done.left c.perform_on-ended.ensures (sym c.in_files.ensures ∙ none))

pub returns-in-Ok-clause-keeps : goal.returns-in-Ok-clause-keeps
returns-in-Ok-clause-keeps g c = λ some.
    let done = c.perform_on-ended.result in
    subst (KeepsFiles g.F.Files (AreServed g.C.Connections g.C.Reader.Source g.C.Writer.Sink c.args.connections.now c.perform_on-ended.new.connections) c.args.action.now done.ended (image_at g.B.Start)) (sym c.in_files.ensures)
    (keeps_files c.in-Ok.conn (image_at g.B.Start) c.in-Ok.ensures.opened c.in-Ok.ensures.found g.F.Files (AreServed g.C.Connections g.C.Reader.Source g.C.Writer.Sink c.args.connections.now c.perform_on-ended.new.connections) c.args.action.now done.ended done.left c.perform_on-ended.ensures)

pub returns-in-Err-clause-opened : goal.returns-in-Err-clause-opened
returns-in-Err-clause-opened g c = λ none.
    rw c.not_opened.ensures.ended (tt, none_opened g.F.Files.refuses c.in-Err.rest c.in-Err.ensures.refused (sym c.not_opened.ensures.left ∙ none))

pub returns-in-Err-clause-keeps : goal.returns-in-Err-clause-keeps
returns-in-Err-clause-keeps g c =
    rw c.not_opened.ensures.left
    (rw c.not_opened.ensures.ended (not_opened g.F.Files (AreServed g.C.Connections g.C.Reader.Source g.C.Writer.Sink c.args.connections.now c.args.connections.now) c.args.action.now (image_at g.B.Start) c.in-Err.failure c.in-Err.rest c.in-Err.ensures.left))
