use Rattle.std.proofs.Common.{sym, ap, ◌∙◌, rules}
use Rattle.std.specs.Option.{option_copied}
use Rattle.quorum_credit.proofs.KnownGrowth.{total_within}
use Rattle.quorum_credit.proofs.growth.add_growth.Goals as goal

-- the workunit was read, so its numbers are within limits
pub returns-in-Some-clause-causes : goal.returns-in-Some-clause-causes
returns-in-Some-clause-causes g c honest kept limits =
    let units = g.met.S.Units in
    let honest_read = units.stays_honest _ _ c.decide.ensures.reads honest in
    let entry = g.S.Draft.entry c.args.working_set.now in
    let world = g.S.Units.world c.args.working_set.now in
    let read = sym (c.decide.ensures.unit_states c.args.unit) ∙ sym c.unit_state.ensures ∙ ap option_copied c.in-Some.is in
    let few = total_within entry world c.args.unit _ c.in-Some.unit_state.now read (c.in_ok-read.ensures.answer honest_read kept) limits in
    let told = c.push_growth.ensures.causes few in
    search (rules, told, units.fails_for_memory)
