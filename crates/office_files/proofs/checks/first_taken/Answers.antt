-- After a read the desk still represents the same world. If the row at hand is not taken, the rest decides.
use Rattle.std.proofs.Common.{◌+◌, ◌<◌, sym, ◌∙◌, ap, length, take, arith, rules}
use Rattle.std.specs.Prelude.{◌||◌}
use Rattle.std.specs.List.{list_any}
use Rattle.sched_book.specs.Keys.{same_key, lent_key}
use Rattle.sched_book.proofs.KeysSeen.{one_more}
use Rattle.office_files.proofs.TakenNames.{taken, found, passed}
use Rattle.office_files.proofs.checks.first_taken.Goals as goal

pub loop-index-init : goal.loop-index-init
loop-index-init g c =
    record {
      reads = g.met.D.Units.reads_none _;
      seen = λ key. c.new-seen.ensures (lent_key key);
      left = λ honest kept. search rules;
    }

pub returns-then-branch-clause-answer : goal.returns-then-branch-clause-answer
returns-then-branch-clause-answer g c = λ honest kept.
    let desk = g.met.D.Units in
    let inv = c.loop-index.invariant in
    let before = desk.stays_honest _ _ c.is_taken.ensures.reads honest in
    let well = desk.stays_kept _ _ inv.reads before kept in
    let world = desk.stays_same _ _ inv.reads before kept in
    let rows = c.args.rows.now in
    let i = c.loop-index.index in
    let x = c.index-rows-index.result in
    let within : i < length rows = omega arith in
    let same = g.R.NamedRow.same in
    let key_of = g.R.Keyed.key_of in
    let shelf = g.R.NamedRow.shelf in
    let now =
    taken rows i x within c.index-rows-index.is same key_of g.met.R.NamedRow.same_by_key (shelf (g.D.Units.world c.args.desk.now))
    ∙ ap (λ w. list_any (same x) (shelf w) || list_any (λ y. same_key (key_of x) (key_of y)) (take i rows)) (sym world)
    ∙ ap (λ b. list_any (same x) (shelf (g.D.Units.world c.loop-index.desk)) || b) (sym (inv.seen (key_of x)))
    ∙ sym (c.in_ok-is_taken.ensures.answer honest well)
    ∙ c.if-branch.true in
    sym (inv.left before kept ∙ found rows i x within c.index-rows-index.is same (shelf (g.D.Units.world c.args.desk.now)) (i + 1) now)

pub loop-index-preserved : goal.loop-index-preserved
loop-index-preserved g c =
    let desk = g.met.D.Units in
    let inv = c.loop-index.invariant in
    let rows = c.args.rows.now in
    let i = c.loop-index.index in
    let x = c.index-rows-index.result in
    let within : i < length rows = omega arith in
    let same = g.R.NamedRow.same in
    let key_of = g.R.Keyed.key_of in
    let shelf = g.R.NamedRow.shelf in
    record {
      reads = desk.reads_on _ _ _ inv.reads c.is_taken.ensures.reads;
      seen = λ key.
          c.in_ok-is_taken.ensures.seen key
          ∙ ap (λ b. same_key key (key_of x) || b) (inv.seen key)
          ∙ one_more key_of rows i x within c.index-rows-index.is key;
      left = λ honest kept.
          let before = desk.stays_honest _ _ c.is_taken.ensures.reads honest in
          let well = desk.stays_kept _ _ inv.reads before kept in
          let world = desk.stays_same _ _ inv.reads before kept in
          let now =
          taken rows i x within c.index-rows-index.is same key_of g.met.R.NamedRow.same_by_key (shelf (g.D.Units.world c.args.desk.now))
          ∙ ap (λ w. list_any (same x) (shelf w) || list_any (λ y. same_key (key_of x) (key_of y)) (take i rows)) (sym world)
          ∙ ap (λ b. list_any (same x) (shelf (g.D.Units.world c.loop-index.desk)) || b) (sym (inv.seen (key_of x)))
          ∙ sym (c.in_ok-is_taken.ensures.answer honest well)
          ∙ c.if-branch.false in
          inv.left before kept ∙ passed rows i x within c.index-rows-index.is same (shelf (g.D.Units.world c.args.desk.now)) (i + 1) now;
    }
