use Rattle.std.proofs.Common.{◌<◌, length, get_or, ◌∙◌, rules, arith}
use Rattle.sqlite.specs.Held.{state}
use Rattle.sqlite.specs.State.{HasCleanDisk}
use Rattle.table_meaning.proofs.StepLemmas.{reads_on}
use Rattle.table_desk.proofs.ReadLater.{tell_later}
use Rattle.table_desk.proofs.UnitsOfUser.{owned_listed, host_more}
use Rattle.table_desk.proofs.users.add_units_of.Goals as goal

pub loop-host-preserved : goal.loop-host-preserved
loop-host-preserved g c =
    let first = state g.S.Store c.args.conn.now in
    let before = state g.S.Store c.loop-host.conn in
    let after = state g.S.Store c.places_owned.new.conn in
    let kept = c.loop-host.invariant in
    let read = c.places_owned.ensures.reads in
    let hosts = c.args.hosts.now in
    let i = c.loop-host.host-index in
    let within : i < length hosts = search rules in (
      reads_on first before after kept.0 read,
      λ clean is_open rests w tell.
          let early : HasCleanDisk before = omega (arith, read.survives.clean, clean) in
          let was_open = read.was_open clean is_open in
          let later = tell_later first before kept.0 early was_open rests w tell in
          let owned = owned_listed _ w later (get_or hosts i 0) c.in_ok-owned.owned (c.in_ok-owned.ensures.owned clean) in
          host_more w hosts i 0 c.as_slice.result.now c.args.units.now c.loop-host.units c.add_units.new.units within (c.as_slice.ensures ∙ owned) c.in_ok-add_units.ensures
          (kept.1 early was_open rests w tell),
    )
