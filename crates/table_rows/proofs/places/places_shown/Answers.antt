use Rattle.std.proofs.Common.{◌≡◌, map, ap, ◌∙◌}
use Rattle.std.proofs.lemmas.Result.{IfOk-weaker}
use Rattle.table_meaning.specs.Formats.{columns_in}
use Rattle.table_meaning.specs.Places.{place_row}
use Rattle.table_rows.proofs.places.places_shown.Goals as goal

pub returns-clause-shown : goal.returns-clause-shown
returns-clause-shown g c clean =
    IfOk-weaker c.places.result (λ all. map place_row all ≡ map (λ row. columns_in row 2) c.as_slice.result.now) _
    (λ all read. (c.in_ok-rows.rows.items, c.in_ok-rows.ensures.shown clean, read ∙ ap (map (λ row. columns_in row 2)) c.as_slice.ensures.value)) c.places.ensures
