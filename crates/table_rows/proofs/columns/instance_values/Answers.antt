use Rattle.std.proofs.Common.{ℕ, ℤ, Option, Some, None}
use Rattle.sqlite.specs.Values.{or_null}
use Rattle.sqlite_value.specs.declared.value.Value.{Value}
use Rattle.sqlite_value.specs.declared.value.Value.TheVariants.{Int as SqlInt}
use Rattle.table_meaning.specs.Rows.{whole as sql_whole}
use Rattle.table_rows.specs.Utf8.{IsUtf8Value}
use Rattle.table_rows.proofs.columns.instance_values.Goals as goal

-- if each value is in UTF-8 or is no text, so is an optional one
none_is_text : {X : Type 0} (value : X → Value) → ((x : X) → IsUtf8Value (value x)) → (o : Option X) → IsUtf8Value (or_null value o)
none_is_text value is None = tt
none_is_text value is (Some x) = is x

pub returns-clause-utf8 : goal.returns-clause-utf8
returns-clause-utf8 c =
    let row = c.args.row.now in
    let whole = λ (o : Option ℕ). none_is_text sql_whole (λ _. tt) o in
    let integer = λ (o : Option ℤ). none_is_text SqlInt (λ _. tt) o in
    (tt, (tt, (whole row.host_id, (integer row.sent, (integer row.deadline, (tt, (whole row.outcome, (c.optional_text.ensures.utf8, (whole row.place, (tt, tt))))))))))
