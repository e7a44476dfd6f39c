use Rattle.std.proofs.Common.{◌≡◌, ◌+◌, ◌∷◌, drop, get_or, Some, None, sym, ap, ap₂, ◌∙◌, rules, arith}
use Rattle.std.proofs.lemmas.List.{drop_more}
use Rattle.std.proofs.lemmas.Result.{IfOk-weaker}
use Rattle.sqlite.specs.Held.{state}
use Rattle.sqlite.specs.State.{HasCleanDisk}
use Rattle.table_meaning.proofs.StepLemmas.{reads_on}
use Rattle.sched_book.specs.Fits.{version_among}
use Rattle.std.specs.Str.{bytes_eq}
use Rattle.sched_book.specs.Places.{place_where}
use Rattle.sched_book.specs.declared.rows.App.{App}
use Rattle.table_desk.specs.Versions.{greatest}
use Rattle.table_desk.proofs.ReadLater.{rests_later, tell_later}
use Rattle.table_desk.proofs.VersionsListed.{of_number, after_platform}
use Rattle.table_desk.proofs.apps.version_among.Goals as goal

pub returns-in-Some-clause-answer : goal.returns-in-Some-clause-answer
returns-in-Some-clause-answer g c =
    let first = state g.S.Store c.args.conn.now in
    let before = state g.S.Store c.loop-platform.conn in
    let listed = state g.S.Store c.version_numbers.new.conn in
    let kept = c.loop-platform.invariant in
    let read = c.version_numbers.ensures.reads in
    let told = c.version_with.ensures.reads in
    let platforms = c.args.platforms.now in
    let i = c.loop-platform.platform-index in
    let here : c.as_str.result.now ≡ get_or platforms i c.as_str.result.now = search rules in
    let split = drop_more platforms i c.as_str.result.now c.loop-platform-test.true ∙ ap (λ p. p ∷ drop (i + 1) platforms) (sym here) in
    let some : Some c.in-Some.version_num ≡ greatest c.in_ok-numbers.numbers = search rules in
    λ clean is_open rests w tell placed.
    let clean_listed : HasCleanDisk listed = omega (arith, told.survives.clean, clean) in
    let open_listed = told.was_open clean is_open in
    let clean_before : HasCleanDisk before = omega (arith, read.survives.clean, clean_listed) in
    let open_before = read.was_open clean_listed open_listed in
    let at_first = tell_later first before kept.0 clean_before open_before rests w tell in
    let rests_before = rests_later first before kept.0 clean_before open_before rests in
    let at_listed = tell_later before listed read clean_listed open_listed rests_before w at_first in
    let among = kept.1 clean_before open_before rests w tell placed
    ∙ after_platform _ w at_first c.args.app.now c.args.place (sym placed) (drop i platforms) (drop (i + 1) platforms) c.as_str.result.now split c.in_ok-numbers.numbers
    (c.in_ok-numbers.ensures.numbers clean_listed at_first.holds.known) (Some c.in-Some.version_num) some in
    let name : c.as_str-in-Some.result.now ≡ c.args.app.now = search rules in
    let on : c.as_str-in-Some-2.result.now ≡ c.as_str.result.now = search rules in
    IfOk-weaker c.version_with.result (λ r. r ≡ of_number c.as_str-in-Some.result.now c.as_str-in-Some-2.result.now w.versions c.in-Some.version_num)
    (λ r. r ≡ version_among w.versions c.args.app.now platforms)
    (λ r is. is ∙ ap₂ (λ a b. of_number a b w.versions c.in-Some.version_num) name on ∙ sym among)
    (c.version_with.ensures.answer clean is_open (rests_later before listed read clean_listed open_listed rests_before) w at_listed
    (placed ∙ ap (λ n. place_where (λ (a : App). bytes_eq a.name n) w.apps) (sym name)))

pub loop-platform-preserved : goal.loop-platform-preserved
loop-platform-preserved g c =
    let first = state g.S.Store c.args.conn.now in
    let before = state g.S.Store c.loop-platform.conn in
    let after = state g.S.Store c.version_numbers.new.conn in
    let kept = c.loop-platform.invariant in
    let read = c.version_numbers.ensures.reads in
    let platforms = c.args.platforms.now in
    let i = c.loop-platform.platform-index in (
      reads_on first before after kept.0 read,
      λ clean is_open rests w tell placed.
          let early : HasCleanDisk before = omega (arith, read.survives.clean, clean) in
          let was_open = read.was_open clean is_open in
          let later = tell_later first before kept.0 early was_open rests w tell in
          let here : c.as_str.result.now ≡ get_or platforms i c.as_str.result.now = search rules in
          let split = drop_more platforms i c.as_str.result.now c.loop-platform-test.true ∙ ap (λ p. p ∷ drop (i + 1) platforms) (sym here) in
          let none : None ≡ greatest c.in_ok-numbers.numbers = search rules in
          kept.1 early was_open rests w tell placed
          ∙ after_platform _ w later c.args.app.now c.args.place (sym placed) (drop i platforms) (drop (i + 1) platforms) c.as_str.result.now split c.in_ok-numbers.numbers
          (c.in_ok-numbers.ensures.numbers clean later.holds.known) None none,
    )
