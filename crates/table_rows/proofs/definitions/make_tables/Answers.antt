use Rattle.std.proofs.Common.{None, arith}
use Rattle.std.proofs.lemmas.Result.{on_ok_weaker}
use Rattle.sqlite.specs.Held.{state}
use Rattle.sqlite.specs.State.{HasCleanDisk}
use Rattle.table_meaning.specs.Schema.{newest, stored_schema}
use Rattle.table_meaning.specs.Making.{no_rows}
use Rattle.table_meaning.proofs.Definitions.{none_made}
use Rattle.table_meaning.proofs.StepLemmas.{all_made}
use Rattle.table_meaning.proofs.LookUps.{new_holds}
use Rattle.table_rows.proofs.definitions.make_tables.Goals as goal

pub returns-clause-made : goal.returns-clause-made
returns-clause-made g c = λ clean inside none sound.
    let old = (state g.S.Store c.args.tx.now.conn.now).now in
    let mid = c.define.new.tx.conn.now in
    let early : HasCleanDisk (state g.S.Store mid) = omega (arith, c.put_each.ensures.survives.clean) in
    let made = c.in_ok-define.ensures.made early inside stored_schema no_rows (none_made newest (omega arith) old none) in
    on_ok_weaker c.put_each.result (λ moved. (moved.inside, moved.puts (λ key. None) (new_holds (state g.S.Store mid).now (all_made (state g.S.Store mid).now made.0 (made.1 sound))))) (c.put_each.ensures.moves clean (c.in_ok-define.ensures.inside early inside))
