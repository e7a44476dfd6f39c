use Rattle.std.proofs.Common.{sym, ◌∙◌}
use Rattle.table_meaning.specs.Worlds.{host_row}
use Rattle.table_decoding.proofs.Refusals.{same_host_row}
use Rattle.table_decoding.proofs.rows.told_host.Goals as goal

pub returns-in-Host : goal.returns-in-Host
returns-in-Host c = λ held credit id h words is. c.host.ensures.given (held id) (credit id) id h words (same_host_row c.in-Host.row (host_row (held id) (credit id) id h) (sym c.in-Host.is ∙ is))
