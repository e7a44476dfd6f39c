use Rattle.std.proofs.Common.{◌≡◌, rules, sym, subst}
use Rattle.std.specs.BTreeMap.{values}
use Rattle.quorum_credit.specs.Tallies.{AreSums}
use Rattle.quorum_credit.proofs.Sums.{sums_are}
use Rattle.quorum_credit.proofs.host_quotas.sums_of.Goals as goal

pub returns : goal.returns
returns c =
    let tallies = c.in_ok-tallies.tallies in
    let are : c.in_ok-collect.field-0.items ≡ values tallies = search rules in
    subst (AreSums c.args.scores.now) (sym are) (sums_are c.args.scores.now tallies c.values.ensures.ordered c.in_ok-tallies.ensures)
