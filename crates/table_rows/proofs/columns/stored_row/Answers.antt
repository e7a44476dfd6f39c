use Rattle.std.proofs.Common.{◌≡◌, length, ◌∙◌, rules}
use Rattle.table_meaning.specs.Rows.{columns_of}
use Rattle.table_meaning.specs.Formats.{kinds_of, columns_in}
use Rattle.table_meaning.proofs.FormatLemmas.{whole_row}
use Rattle.table_rows.proofs.columns.stored_row.Goals as goal

pub returns-clause-exact : goal.returns-clause-exact
returns-clause-exact c =
    let shown : columns_of c.match-table.result ≡ columns_in c.args.row.now (length (kinds_of c.args.table)) = search rules in
    shown ∙ whole_row c.args.row.now (length (kinds_of c.args.table)) (search rules)
