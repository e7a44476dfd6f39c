use Rattle.std.proofs.Common.{map, ◌∙◌}
use Rattle.sched_book.specs.declared.rows.Version.{Version}
use Rattle.table_decoding.proofs.ClassesDecoded.{are_words, as_words}
use Rattle.table_decoding.proofs.Refusals.{passed_on}
use Rattle.table_decoding.proofs.rows.versions.Goals as goal

pub returns-in_err-classes : goal.returns-in_err-classes
returns-in_err-classes c = λ w apps all are classes.
    passed_on c.from_residual.result w.versions c.in_err-classes.field-0.0 c.from_residual.ensures.1
    (c.in_err-classes.ensures (map (λ (v : Version). v.class) w.versions) (are_words w.apps w.versions all) (classes ∙ as_words w.versions))

pub returns : goal.returns
returns c = λ w apps all are classes.
    let words = c.in_ok-classes.ensures (map (λ (v : Version). v.class) w.versions) (are_words w.apps w.versions all) (classes ∙ as_words w.versions) in
    c.classed_versions.ensures w apps all (c.as_slice.ensures ∙ words) are
