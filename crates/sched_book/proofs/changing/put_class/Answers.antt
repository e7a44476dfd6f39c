use Rattle.std.proofs.Common.{◌≡◌, ◌-◌, ◌<◌, length, get_or, sym, ap, ◌∙◌, arith}
use Rattle.sched_book.specs.Classes.{with_class}
use Rattle.sched_book.proofs.Changes.{modify_nth-set}
use Rattle.sched_book.proofs.changing.put_class.Goals as goal

pub returns : goal.returns
returns c =
    let books = c.args.books.now in
    let i = c.args.unit - 1 in
    let book = c.index-as_slice-index.result in
    let is : book ≡ get_or books i book = c.index-as_slice-index.is ∙ ap (λ xs. get_or xs i book) c.as_slice.ensures in
    let within : i < length books = omega arith in
    c.replace.ensures
    ∙ sym (modify_nth-set (with_class c.args.class.now) books c.args.unit book c.in_ok-book.book
    c.if-unit-eq0.false within is c.in_ok-book.ensures)
