use Rattle.std.proofs.Common.{◌≡◌, ℕ, List, Option, Some, None, IfOk, sym, ap, subst, ◌∙◌, rules}
use Rattle.std.specs.Prelude.{option_and_then}
use Rattle.std.specs.Str.{bytes_eq}
use Rattle.sched_book.specs.Fits.{version_among}
use Rattle.sched_book.specs.Places.{nth, place_where}
use Rattle.sched_book.specs.declared.rows.App.{App}
use Rattle.table_desk.proofs.VersionsListed.{named_stands}
use Rattle.table_desk.proofs.apps.version_for.Goals as goal

pub returns-in_default-2-clause-answer : goal.returns-in_default-2-clause-answer
returns-in_default-2-clause-answer g c = λ clean is_open rests w tell same.
    let stands : nth c.args.apps.now c.args.app ≡ Some c.in-Some.named.now = search rules in
    let none : None ≡ place_where (λ (b : App). bytes_eq b.name c.in-Some.named.now.name) c.args.apps.now = search rules in
    absurd (named_stands c.args.apps.now c.args.app c.in-Some.named.now stands none)

pub returns-clause-answer : goal.returns-clause-answer
returns-clause-answer g c = λ clean is_open rests w tell same.
    let stands : nth c.args.apps.now c.args.app ≡ Some c.in-Some.named.now = search rules in
    let placed : Some c.in-Some-2.place ≡ place_where (λ (b : App). bytes_eq b.name c.in-Some.named.now.name) c.args.apps.now = search rules in
    let told = c.version_among.ensures.answer clean is_open rests w tell (placed ∙ ap (place_where (λ (b : App). bytes_eq b.name c.in-Some.named.now.name)) same) in
    subst (λ (o : Option App). IfOk c.version_among.result (λ r. r ≡ option_and_then (λ (a : App). version_among w.versions a.name c.args.host.now.platforms) o)) (sym stands ∙ ap (λ l. nth l c.args.app) same)
    (subst (λ (names : List (List ℕ)). IfOk c.version_among.result (λ r. r ≡ version_among w.versions c.in-Some.named.now.name names)) c.as_slice.ensures told)
