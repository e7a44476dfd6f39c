-- Three digits are what the format writes at a width of three.
use Rattle.std.proofs.Common.{◌∙◌, ◌/◌, ◌%◌, ◌∷◌, ◌++◌, ap}
use Rattle.std.specs.Prelude.{decimal}
use Rattle.std.specs.Fmt.{styled_decimal}
use Rattle.office_files.proofs.StatementTexts.{padded_to_three}
use Rattle.office_files.proofs.statement.rows.credit_text.Goals as goal

pub returns : goal.returns
returns c =
    let m = c.args.millicredits in
    c.of.ensures
    ∙ c.in_ok-format.ensures.ok
    ∙ ap (λ layout. decimal (m / 1000) ++ 46 ∷ styled_decimal layout (m % 1000)) c.laid_out.ensures
    ∙ ap (λ digits. decimal (m / 1000) ++ 46 ∷ digits) (padded_to_three (m % 1000))
