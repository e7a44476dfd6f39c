use Rattle.std.proofs.Common.{◌≡◌, sym, ap, ◌∙◌, rules}
use Rattle.std.proofs.lemmas.Option.{same_Some}
use Rattle.table_desk.specs.declared.hosts.CountedHost.{CountedHost}
use Rattle.table_cache.proofs.skips.keeps_account.Goals as goal

pub returns-in-Some : goal.returns-in-Some
returns-in-Some c = λ keeps hosts known h is.
    let host = c.in-Some.host.now in
    let one : host ≡ h = same_Some host h (sym (known.each c.args.row.now.id host (sym c.in-Some.ensures)) ∙ is) in
    let same : host.row.account ≡ c.args.row.now.account_id = search rules in
    ap (λ (g : CountedHost). g.row.account) (sym one) ∙ same
