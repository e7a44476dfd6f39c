-- An item is added after the first ones if and only if its name is new.
use Rattle.std.proofs.Common.{◌≡◌, Bool, true, false, [], ◌∷◌, ◌++◌, sym, ap, ◌∙◌, map, append_assoc}
use Rattle.std.specs.Prelude.{◌||◌, not}
use Rattle.std.specs.Str.{bytes_eq}
use Rattle.std.proofs.lemmas.List.{map-append}
use Rattle.texts.specs.SeenSet.{lent, has_text}
use Rattle.sched_book.specs.Firsts.{first_unseen}
use Rattle.sched_book.proofs.Firsts.{first_unseen-again, first_unseen-new}
use Rattle.sched_book.proofs.first_names.add_first.Goals as goal

turned : (b c : Bool) → not b ≡ c → b ≡ not c
turned true c is = ap not is
turned false c is = ap not is

pub returns-in_ok-push : goal.returns-in_ok-push
returns-in_ok-push g c = λ later.
    let text = g.T.Named.name_of in
    let came = has_text c.args.seen.now in
    let rest = first_unseen text (has_text c.is_first.new.self) later in
    let item = c.args.item.now in
    let before = map (λ x. x.now) c.args.firsts.now.items in
    let new = turned (came (text item)) true (sym (c.in_ok-is_first.ensures.first ∙ ap (λ name. not (came name)) c.name.ensures) ∙ c.if-branch.true) in
    ap (λ items. map (λ x. x.now) items ++ rest) c.in_ok-push.ensures.items
    ∙ ap (λ items. items ++ rest) (map-append (λ x. x.now) c.args.firsts.now.items (c.args.item ∷ []))
    ∙ append_assoc before (item ∷ []) rest
    ∙ ap (λ items. before ++ items)
    (sym (first_unseen-new text came (has_text c.is_first.new.self) item later new
    (λ name. c.in_ok-is_first.ensures.seen (lent name) ∙ ap (λ other. bytes_eq name other || came name) c.name.ensures)))

pub returns-else-branch : goal.returns-else-branch
returns-else-branch g c = λ later.
    let text = g.T.Named.name_of in
    let came = has_text c.args.seen.now in
    let item = c.args.item.now in
    let old = turned (came (text item)) false (sym (c.in_ok-is_first.ensures.first ∙ ap (λ name. not (came name)) c.name.ensures) ∙ c.if-branch.false) in
    ap (λ items. map (λ x. x.now) c.args.firsts.now.items ++ items)
    (sym (first_unseen-again text came (has_text c.is_first.new.self) item later old
    (λ name. c.in_ok-is_first.ensures.seen (lent name) ∙ ap (λ other. bytes_eq name other || came name) c.name.ensures)))
