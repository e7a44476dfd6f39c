use Rattle.pasts.proofs.ByNumber.{kept_by_number}
use Rattle.pasts.proofs.laws.calls_are_kept_by_number.Goals as goal

pub returns : goal.returns
returns c = kept_by_number
