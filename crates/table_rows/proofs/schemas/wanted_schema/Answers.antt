use Rattle.std.proofs.Common.{◌≡◌, rules}
use Rattle.sqlite.proofs.Callers.{memory_is_clean}
use Rattle.table_meaning.specs.Schema.{schema_at}
use Rattle.table_rows.proofs.schemas.wanted_schema.Goals as goal

pub returns : goal.returns
returns c =
    let made : c.make_schema.new.conn.schema ≡ schema_at c.args.schema = c.in_ok-make_schema.ensures.made (memory_is_clean c.make_schema.new.conn) c.in_ok-conn.ensures.empty.2 in
    search rules
