use Rattle.std.proofs.Common.{◌<◌, length, rules}
use Rattle.table_desk.proofs.UnitsOfUser.{one_more}
use Rattle.table_desk.proofs.users.add_units.Goals as goal

pub loop-place-preserved : goal.loop-place-preserved
loop-place-preserved c =
    let places = c.args.places.now in
    let i = c.loop-place.place-index in
    let within : i < length places = search rules in
    one_more places i _ c.args.units.now c.loop-place.units c.insert.new.self within c.in_ok-insert.ensures.updates.0 c.loop-place.invariant
