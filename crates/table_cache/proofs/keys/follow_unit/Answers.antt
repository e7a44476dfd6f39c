use Rattle.table_meaning.specs.declared.rows.StoredRow.TheVariants as stored
use Rattle.table_cache.specs.Keys.{with_title}
use Rattle.table_cache.proofs.CreditMoves.{none_past_with}
use Rattle.table_cache.proofs.KeyMoves.{titled_without, titles_elsewhere}
use Rattle.table_cache.proofs.keys.follow_unit.Goals as goal

pub returns-clause-names : goal.returns-clause-names
returns-clause-names c = λ titles are.
    let read = c.args.read.now in
    let row = c.args.row.now in
    record {
      each = titled_without titles row read.rows c.forget.new.self c.forget.ensures are.each;
      first = c.follow_unit_name.ensures titles are.each are.none_past are.first;
      none_past = none_past_with titles (with_title titles (stored.Unit row)) read.last c.last_with-read.result row.id (titles_elsewhere titles row) c.last_with-read.ensures are.none_past;
    }
