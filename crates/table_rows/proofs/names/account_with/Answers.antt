use Rattle.std.proofs.Common.{true, ◌∙◌}
use Rattle.std.proofs.lemmas.Iterator.Adapters.{option_map_id}
use Rattle.table_meaning.specs.declared.rows.StoredRow.TheVariants.{Account}
use Rattle.table_meaning.specs.Rows.{columns_of}
use Rattle.table_meaning.proofs.Named.{account_shown}
use Rattle.sqlite.specs.Held.{state}
use Rattle.table_rows.proofs.FirstRows.{first_is}
use Rattle.table_rows.proofs.names.account_with.Goals as goal

pub returns-clause-first : goal.returns-clause-first
returns-clause-first g c clean known =
    let old = state g.S.Store (record c.args.conn.now { in_transaction = true }) in
    first_is g.S.Store c.args.conn.now _ _ _ _ c.first_shown.result _ (λ after rows h. account_shown c.args.authenticator.now old (state g.S.Store after) known rows (rw c.as_bytes.ensures.value at h) ∙ option_map_id _) (c.first_shown.ensures.first (λ a. columns_of (Account a)) 3 (λ row x told. told.1.0) clean)
