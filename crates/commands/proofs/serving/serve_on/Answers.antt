use Rattle.std.proofs.Common.{[], rules, arith}
use Rattle.stores.specs.Acting.{parts_of}
use Rattle.sched_server.proofs.Served.{none_served}
use Rattle.commands.proofs.serving.serve_on.Goals as goal

pub returns-in_err-try_clone : goal.returns-in_err-try_clone
returns-in_err-try_clone g c = record { served = ([], omega arith, search rules, none_served (parts_of g.S.Units g.S.Store.holds g.S.Store.clean g.S.Store.lasting g.S.Store.may_leave g.S.Store.reopens) c.args.service.now) }

pub returns : goal.returns
returns g c = let served = c.serve_connections.ensures.served in record { served = (served.0, served.1.0, served.1.1, served.2) }
