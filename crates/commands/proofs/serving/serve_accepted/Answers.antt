use Rattle.std.proofs.Common.{ap}
use Rattle.stores.specs.Acting.{parts_of}
use Rattle.commands.proofs.Messages.{carried_by, connection_carried}
use Rattle.commands.proofs.serving.serve_accepted.Goals as goal

pub returns : goal.returns
returns g c =
    let served = c.serve-served.ensures in
    let first = c.new-writer.result.sink in
    let last = c.serve-served.new.writer.sink in
    let writer = c.into_parts-writer.result.0 in
    let done = connection_carried (parts_of g.S.Units g.S.Store.holds g.S.Store.clean g.S.Store.lasting g.S.Store.may_leave g.S.Store.reopens) g.C.Reader.Source g.C.Writer.Sink (record { reader = c.args.accepted.reader; writer = first; now = c.args.accepted.now })
    c.serve-served.new.reader last c.args.service.now c.serve-served.new.self c.serve-served.result served.ok (λ is. let same = served.read_fault is in (same.0, ap (λ w. w.sink) same.1)) served.read_failed served.write_fault served.write_failed in
    (done.0, (c.serve-served.new.reader, writer, carried_by g.C.Reader.Source g.C.Writer.Sink c.args.accepted first c.serve-served.new.reader last writer done.0 c.new-writer.ensures c.into_parts-writer.ensures done.1, c.end.ensures), done.2)
