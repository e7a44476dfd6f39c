use Rattle.std.proofs.Common.{◌≡◌, subst, ◌∙◌, rules, arith}
use Rattle.sqlite.specs.Held.{state}
use Rattle.sqlite.specs.State.{HasCleanDisk}
use Rattle.table_desk.specs.Users.{HasAdded}
use Rattle.table_desk.proofs.ReadLater.{tell_later, rests_later}
use Rattle.table_desk.proofs.UnitsOfUser.{units_listed}
use Rattle.table_desk.proofs.users.units_of_user.Goals as goal

pub returns-clause-answer : goal.returns-clause-answer
returns-clause-answer g c = λ clean is_open rests w tell.
    let first = state g.S.Store c.args.conn.now in
    let mid = state g.S.Store c.hosts_of_user.new.conn in
    let reads = c.hosts_of_user.ensures.reads in
    let more = c.add_units_of.ensures.reads in
    let early : HasCleanDisk mid = omega (arith, more.survives.clean, clean) in
    let was_open = more.was_open clean is_open in
    let later = tell_later first mid reads early was_open rests w tell in
    let units = c.add_units_of.new.units in
    let are : c.of.result ≡ units.keys = search rules in
    let added = c.in_ok-add_units_of.ensures.answer clean is_open (rests_later first mid reads early was_open rests) w later in
    are
    ∙ units_listed _ w tell c.args.account c.in_ok-hosts.hosts c.new-units.result units (c.in_ok-hosts.ensures.hosts early tell.holds.known) c.new-units.ensures.empty c.iter.ensures.ordered
    (subst (λ hosts. HasAdded w hosts c.new-units.result units) c.as_slice.ensures added)
