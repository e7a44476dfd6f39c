use Rattle.http_messages.proofs.KindLemmas.{no_kind}
use Rattle.http_messages.proofs.routes.kind_in.Goals as goal

pub returns-in-None : goal.returns-in-None
returns-in-None c = no_kind c.args.name.now c.in-None.ensures
