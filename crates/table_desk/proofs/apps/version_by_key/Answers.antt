use Rattle.std.proofs.Common.{◌≡◌, Some, None, ap, ◌∙◌, rules}
use Rattle.std.specs.Str.{bytes_eq}
use Rattle.sched_book.specs.Places.{place_where}
use Rattle.sched_book.specs.declared.rows.App.{App}
use Rattle.table_desk.proofs.VersionsListed.{no_version}
use Rattle.table_desk.proofs.apps.version_by_key.Goals as goal

pub returns-in_default-clause-answer : goal.returns-in_default-clause-answer
returns-in_default-clause-answer g c = λ clean is_open rests w tell same.
    let none : None ≡ place_where (λ (a : App). bytes_eq a.name c.args.app.now) c.args.apps.now = search rules in
    no_version _ w tell c.args.app.now c.args.platform.now c.args.version_num (none ∙ ap (place_where (λ (a : App). bytes_eq a.name c.args.app.now)) same)

pub returns-clause-answer : goal.returns-clause-answer
returns-clause-answer g c = λ clean is_open rests w tell same.
    let placed : Some c.in-Some.place ≡ place_where (λ (a : App). bytes_eq a.name c.args.app.now) c.args.apps.now = search rules in
    c.version_with.ensures.answer clean is_open rests w tell (placed ∙ ap (place_where (λ (a : App). bytes_eq a.name c.args.app.now)) same)
