-- The meaning of the text that reads one column of the row at a key.
use Rattle.std.proofs.Common.{[], ◌∷◌, codes, refl}
use Rattle.sqlite_tied.specs.Compute.{everything}
use Rattle.sqlite.specs.Listing.{understood}
use Rattle.table_meaning.specs.declared.tables.TableName.TheVariants.{Unit}
use Rattle.table_meaning.specs.ByKey.{status_text}
use Rattle.table_meaning.proofs.ByComputing.{ReadsByKey}

pub status_is_read : ReadsByKey Unit (14 ∷ []) (codes "status" ∷ []) status_text
unfolding understood everything
status_is_read = (refl, (refl, refl), refl)
