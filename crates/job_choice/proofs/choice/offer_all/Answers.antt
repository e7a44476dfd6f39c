-- Everything that was offered in one turn is of the world that the desk represented at the beginning.
use Rattle.std.proofs.Common.{◌≡◌, false, sym, ◌∙◌, subst, arith, rules}
use Rattle.job_choice.specs.Choosing.{is_full}
use Rattle.job_choice.specs.Offered.{IsRight}
use Rattle.job_choice.proofs.Turns.{turns_end, past_is, turns_go_on, passes_on, stops_end}
use Rattle.job_choice.proofs.choice.offer_all.Goals as goal

pub returns-in_default-clause-answer : goal.returns-in_default-clause-answer
returns-in_default-clause-answer g c = λ honest kept ready.
    let laws = g.met.D.Units in
    let honest_begun = laws.stays_honest _ _ c.unsent_for.ensures.reads honest in
    let kept_begun = laws.stays_kept _ _ c.loop-stops.invariant.reads honest_begun kept in
    let same = laws.stays_same _ _ c.loop-stops.invariant.reads honest_begun kept in
    let room : is_full c.args.choosing.now ≡ false = sym c.is_done.ensures ∙ c.if-is_done.false in
    turns_end (g.D.Units.world c.args.desk.now) c.args.choosing.now.host.now.account (g.D.Units.world c.loop-stops.desk)
    c.args.choosing.now c.loop-stops.choosing c.unsent_for.new.taker c.loop-stops.from same (c.loop-stops.invariant.resumes honest_begun kept ready) c.if-choosing.false
    (c.in_ok-unsent_for.ensures.all honest kept_begun) c.take.new.self room (sym c.take.ensures.value ∙ c.in_default.is) c.take.ensures.after

pub returns-in_default-clause-past : goal.returns-in_default-clause-past
returns-in_default-clause-past g c = λ honest kept ready.
    let laws = g.met.D.Units in
    let honest_begun = laws.stays_honest _ _ c.unsent_for.ensures.reads honest in
    let kept_begun = laws.stays_kept _ _ c.loop-stops.invariant.reads honest_begun kept in
    let same = laws.stays_same _ _ c.loop-stops.invariant.reads honest_begun kept in
    past_is (g.D.Units.world c.args.desk.now) c.args.choosing.now.host.now.account (g.D.Units.world c.loop-stops.desk)
    c.args.choosing.now c.loop-stops.choosing c.unsent_for.new.taker c.loop-stops.from same (c.loop-stops.invariant.resumes honest_begun kept ready) c.if-choosing.false
    (c.in_ok-unsent_for.ensures.all honest kept_begun) (sym c.take.ensures.value ∙ c.in_default.is)

pub loop-stops-preserved : goal.loop-stops-preserved
loop-stops-preserved g c =
    let laws = g.met.D.Units in
    record {
      reads = laws.reads_on _ _ _ (laws.reads_on _ _ _ c.loop-stops.invariant.reads c.unsent_for.ensures.reads) c.learn.ensures.reads;
      resumes = λ honest kept ready.
          let honest_offered = laws.stays_honest _ _ c.learn.ensures.reads honest in
          let honest_begun = laws.stays_honest _ _ c.unsent_for.ensures.reads honest_offered in
          let kept_begun = laws.stays_kept _ _ c.loop-stops.invariant.reads honest_begun kept in
          let kept_offered = laws.stays_kept _ _ c.unsent_for.ensures.reads honest_offered kept_begun in
          let same = laws.stays_same _ _ c.loop-stops.invariant.reads honest_begun kept in
          let same_later = laws.stays_same _ _ c.unsent_for.ensures.reads honest_offered kept_begun ∙ same in
          turns_go_on (g.D.Units.world c.args.desk.now) c.args.choosing.now.host.now.account (g.D.Units.world c.loop-stops.desk)
          c.args.choosing.now c.loop-stops.choosing c.unsent_for.new.taker c.loop-stops.from same (c.loop-stops.invariant.resumes honest_begun kept ready) c.if-choosing.false
          (c.in_ok-unsent_for.ensures.all honest_offered kept_begun)
          c.take.new.self c.in-Some.unjudged c.learn.new.known (sym c.take.ensures.value ∙ c.in-Some.is) c.take.ensures.after
          (subst (λ w. IsRight w c.unsent_for.new.taker.host.now c.unsent_for.new.taker.known → IsRight w c.unsent_for.new.taker.host.now c.learn.new.known) same_later
          (c.in_ok-learn.ensures.answer honest kept_offered));
      passes = λ honest kept ready.
          let honest_offered = laws.stays_honest _ _ c.learn.ensures.reads honest in
          let honest_begun = laws.stays_honest _ _ c.unsent_for.ensures.reads honest_offered in
          let kept_begun = laws.stays_kept _ _ c.loop-stops.invariant.reads honest_begun kept in
          let same = laws.stays_same _ _ c.loop-stops.invariant.reads honest_begun kept in
          passes_on (g.D.Units.world c.args.desk.now) c.args.choosing.now.host.now.account (g.D.Units.world c.loop-stops.desk)
          c.args.choosing.now c.loop-stops.choosing c.unsent_for.new.taker c.loop-stops.from same (c.loop-stops.invariant.resumes honest_begun kept ready) c.if-choosing.false
          (c.in_ok-unsent_for.ensures.all honest_offered kept_begun)
          c.loop-stops.stops c.take.new.self c.in-Some.unjudged c.learn.new.known (sym c.take.ensures.value ∙ c.in-Some.is) c.in_ok-learn.ensures.judged
          (c.loop-stops.invariant.passes honest_begun kept ready);
    }

-- the desk was unavailable in a turn
pub returns-in_err-unsent_for-clause-causes : goal.returns-in_err-unsent_for-clause-causes
returns-in_err-unsent_for-clause-causes g c honest kept bounded ready =
    let laws = g.met.D.Units in
    let honest_begun = laws.stays_honest _ _ c.unsent_for.ensures.reads honest in
    let kept_begun = laws.stays_kept _ _ c.loop-stops.invariant.reads honest_begun kept in
    let why = laws.stays_failing _ _ c.loop-stops.invariant.reads honest_begun kept _ (c.in_err-unsent_for.ensures.causes honest kept_begun) in
    search (rules, why)

pub returns-in_err-learn-clause-causes : goal.returns-in_err-learn-clause-causes
returns-in_err-learn-clause-causes g c honest kept bounded ready =
    let laws = g.met.D.Units in
    let honest_offered = laws.stays_honest _ _ c.learn.ensures.reads honest in
    let honest_begun = laws.stays_honest _ _ c.unsent_for.ensures.reads honest_offered in
    let kept_begun = laws.stays_kept _ _ c.loop-stops.invariant.reads honest_begun kept in
    let kept_offered = laws.stays_kept _ _ c.unsent_for.ensures.reads honest_offered kept_begun in
    let then = laws.stays_failing _ _ c.unsent_for.ensures.reads honest_offered kept_begun _ (c.in_err-learn.ensures.causes honest kept_offered) in
    let why = laws.stays_failing _ _ c.loop-stops.invariant.reads honest_begun kept _ then in
    search (rules, why)

-- the stops end
pub returns-clause-causes : goal.returns-clause-causes
returns-clause-causes g c honest kept bounded ready =
    absurd (stops_end (g.D.Units.world c.args.desk.now) c.args.choosing.now.host.now.account c.loop-stops.stops c.loop-stops.choosing c.loop-stops.from bounded
    (let many = c.loop-stops-test.false in omega (arith, many)) (c.loop-stops.invariant.passes honest kept ready))
