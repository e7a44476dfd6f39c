use Rattle.std.proofs.Common.{◌≡◌, sym, ap, subst, ◌∙◌}
use Rattle.table_meaning.specs.declared.rows.StoredVersionClass.{StoredVersionClass}
use Rattle.table_decoding.specs.Decoding.{Gives}
use Rattle.table_decoding.proofs.Refusals.{same_class_row}
use Rattle.texts.specs.Words.{IsWord}
use Rattle.table_decoding.proofs.rows.told_class.Goals as goal

pub returns-in-VersionClass : goal.returns-in-VersionClass
returns-in-VersionClass c = λ id class is_word is.
    let row = c.in-VersionClass.row in
    let told : row.class ≡ class =
    ap (λ (r : StoredVersionClass). r.class) (same_class_row row (record { version_id = id; class = class }) (sym c.in-VersionClass.is ∙ is)) in
    subst (Gives c.version_class.result) told (c.version_class.ensures.given (subst IsWord (sym told) is_word))
