use Rattle.std.proofs.Common.{◌≡◌, ◌<◌, length, Some, refl, sym, subst, rules}
use Rattle.std.specs.Prelude.{slice_get, IfSome, Option}
use Rattle.std.proofs.lemmas.List.Elements.{All-set}
use Rattle.std.proofs.lemmas.Option.{slice_get_read}
use Rattle.table_cache.specs.Covering.{IsHadBefore, IsUserSkip}
use Rattle.table_cache.specs.declared.skips.UserSkip.{UserSkip}
use Rattle.table_cache.proofs.skips.raise_at.Goals as goal

pub returns-in-Some : goal.returns-in-Some
returns-in-Some c = λ waiting jobs hosts had all.
    let items = c.args.users.now.items in
    let at = c.args.at in
    let user = c.in-Some.user.now in
    let within : at < length items = search rules in
    let there : slice_get items at ≡ Some user = slice_get_read items (length items) at user refl within c.in-Some.ensures.value in
    let before = subst (λ (o : Option UserSkip). IfSome o (λ u. IsHadBefore waiting jobs hosts u.account c.args.place)) there had in
    let was = subst (IsUserSkip waiting jobs hosts) (sym c.in-Some.ensures.value) (all at user within) in
    All-set (IsUserSkip waiting jobs hosts) items at c.raise.new.self (c.raise.ensures.skip waiting jobs hosts before was) all
