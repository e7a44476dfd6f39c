use Rattle.std.proofs.Common.{◌≡◌, ◌≤◌, length, arith, sym, ◌∙◌}
use Rattle.sched_book.proofs.Voting.{front_leads, no_front_leads, below_quorum, all_lead}
use Rattle.sched_book.proofs.ballots.first_leader_among.Goals.{then-quorum-front+else-is_some, else-quorum-front}
use Rattle.sched_book.proofs.ballots.first_leader_among.Goals as goal

pub returns-then-is_some : goal.returns-then-is_some
returns-then-is_some c =
    front_leads c.args.agreement.now c.args.instances.now c.args.enough c.args.quorum c.loop-front.front c.args.reports.now c.loop-front.tally.ballots.items c.leader-leader.result
    c.loop-front-test.true c.loop-front.invariant.tally.ballots (c.loop-front.invariant.none c.if-quorum-front.true) c.leader-leader.ensures (sym c.is_some.ensures ∙ c.if-is_some.true)

pub loop-front-preserved : goal.loop-front-preserved
loop-front-preserved c =
    record {
      tally = record { outputs = c.join.ensures.outputs; ballots = c.join.ensures.ballots; most = c.join.ensures.most };
      none = λ reached. elim c.if-quorum-front.branch [
        | then-quorum-front+else-is_some w ↦
            no_front_leads c.args.agreement.now c.args.instances.now c.args.enough c.args.quorum c.loop-front.front c.args.reports.now c.loop-front.tally.ballots.items w.leader-leader.result
            c.loop-front-test.true c.loop-front.invariant.tally.ballots (c.loop-front.invariant.none w.if-quorum-front.true) w.leader-leader.ensures
            (sym w.is_some.ensures ∙ w.if-is_some.false)
        | else-quorum-front w ↦
            below_quorum c.args.agreement.now c.args.instances.now c.args.enough c.args.quorum c.loop-front.front c.args.reports.now w.if-quorum-front.false reached
      ];
    }

pub returns : goal.returns
returns c =
    let whole : c.loop-front.front ≡ length c.args.reports.now = omega arith in
    let reached : c.args.quorum ≤ c.loop-front.front = omega (arith, whole, c.requires.reached) in
    c.leader.ensures
    ∙ all_lead c.args.agreement.now c.args.instances.now c.args.enough c.args.quorum c.loop-front.front c.args.reports.now c.loop-front.tally.ballots.items whole
    c.loop-front.invariant.tally.ballots (c.loop-front.invariant.none reached)
