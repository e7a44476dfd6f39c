use Rattle.std.proofs.Common.{rules, ◌<◌, length}
use Rattle.table_rows.proofs.Alikes.{items_differ, items_more}
use Rattle.table_rows.proofs.alike.are_alike.Goals as goal

pub returns-then-not-is_alike : goal.returns-then-not-is_alike
returns-then-not-is_alike g c =
    let within : c.loop-at.at < length c.args.second.now = search rules in
    items_differ g.T.Alike.is_plain c.args.first.now c.args.second.now c.loop-at.at c.index-first-at.result c.index-second-at.result c.loop-at-test.true within c.index-first-at.is c.index-second-at.is
    c.is_alike.result (search rules) c.is_alike.ensures

pub loop-at-preserved : goal.loop-at-preserved
loop-at-preserved g c =
    let within : c.loop-at.at < length c.args.second.now = search rules in
    items_more g.T.Alike.is_plain c.args.first.now c.args.second.now c.loop-at.at c.index-first-at.result c.index-second-at.result c.loop-at-test.true within c.index-first-at.is c.index-second-at.is
    (c.is_alike.ensures.0 (search rules)) c.loop-at.invariant
