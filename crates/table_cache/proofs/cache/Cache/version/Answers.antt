use Rattle.std.proofs.Common.{◌≡◌, Some, sym, ap, subst, ◌∙◌, rules}
use Rattle.std.specs.Prelude.{All}
use Rattle.std.proofs.lemmas.Slice.Eq.{slice_eq-Decides, bytes_eq-Decides}
use Rattle.sched_book.specs.Fits.{version_at}
use Rattle.table_cache.specs.Remembering.{IsVersionOf}
use Rattle.table_cache.proofs.cache.Cache.version.Goals as goal

pub returns-then-eq : goal.returns-then-eq
returns-then-eq c = λ w calls h read same.
    let all = subst (λ vs. All (IsVersionOf w) vs) (sym c.as_slice-read-items.ensures.value) read.versions in
    let holds : IsVersionOf w c.read-item.result = subst (IsVersionOf w) (sym c.read-item.is) (all c.loop-read.read-index c.read-item.result (search rules)) in
    let texts = (slice_eq-Decides bytes_eq-Decides c.as_slice.result.now c.args.platforms.now c.eq.result c.eq.ensures).0 c.if-eq.true in
    let platforms : h.platforms ≡ c.read-item.result.platforms = sym same ∙ sym texts ∙ c.as_slice.ensures in
    let app : c.read-item.result.app ≡ c.args.app = search rules in
    subst (λ n. version_at w h n ≡ Some c.read-item.result.row) app (holds h platforms) ∙ ap Some (sym c.in_ok-copy_of.ensures)
