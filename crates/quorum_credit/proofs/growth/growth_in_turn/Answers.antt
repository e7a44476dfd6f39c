use Rattle.std.proofs.Common.{sym, subst, rules}
use Rattle.quorum_credit.specs.Settling.{AreUnitsInLimits}
use Rattle.quorum_credit.proofs.growth.growth_in_turn.Goals as goal

pub returns-in_err-add_growth-clause-causes : goal.returns-in_err-add_growth-clause-causes
returns-in_err-add_growth-clause-causes g c honest kept limits =
    let units = g.met.S.Units in
    let inv = c.loop-unit.invariant in
    let before = units.stays_honest _ _ c.add_growth.ensures.reads honest in
    let well = units.stays_kept _ _ inv.reads before kept in
    let same = units.stays_same _ _ inv.reads before kept in
    let told = c.in_err-add_growth.ensures.causes honest well (subst AreUnitsInLimits (sym same) limits) in
    let why = units.stays_failing _ _ inv.reads before kept _ told in
    search (rules, why)
