use Rattle.std.proofs.Common.{◌+◌, suc, subst}
use Rattle.table_cache.specs.Carrying.{with_counted, AreOfHosts}
use Rattle.table_cache.proofs.CreditMoves.{known_at, host_renewed, none_at, none_past_with, with_elsewhere}
use Rattle.table_cache.proofs.credits.renew_host.Goals as goal

pub returns : goal.returns
returns c = λ f before.
    let id = c.args.row.now.id in
    let known = known_at f id c.args.read.now.rows c.take-known.result c.take-known.ensures.row before.each in
    subst (λ h. AreOfHosts (with_counted f id h) (record { rows = c.put.new.self; credits = c.move_credit.new.credits; last = c.last_with-read.result })) c.in-Some.ensures (record {
      each = host_renewed f id c.in-Some.new c.args.read.now.rows c.take-known.new.self c.put.new.self before.each c.take-known.ensures.others c.put.ensures;
      end = before.end + suc id;
      credited = c.move_credit.ensures f id before.end
          (c.credit_before-old.ensures f id known (λ new. none_at f c.args.read.now.last id (c.is_past-is_new.ensures new) before.none_past)) before.credited;
      none_past = none_past_with f (with_counted f id c.in-Some.new) c.args.read.now.last c.last_with-read.result id (with_elsewhere f id c.in-Some.new) c.last_with-read.ensures before.none_past;
    })
