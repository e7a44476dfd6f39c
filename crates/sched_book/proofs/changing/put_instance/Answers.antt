use Rattle.std.proofs.Common.{◌≡◌, ◌-◌, ◌<◌, length, get_or, sym, ap, ◌∙◌, arith}
use Rattle.sched_book.specs.Delta.{with_instance}
use Rattle.sched_book.proofs.Changes.{modify_nth-set}
use Rattle.sched_book.proofs.changing.put_instance.Goals as goal

pub returns : goal.returns
returns c =
    let books = c.args.books.now in
    let i = c.args.place.unit - 1 in
    let book = c.index-as_slice-index.result in
    let is : book ≡ get_or books i book = c.index-as_slice-index.is ∙ ap (λ xs. get_or xs i book) c.as_slice.ensures in
    let within : i < length books = omega arith in
    c.replace.ensures
    ∙ sym (modify_nth-set (with_instance c.args.place.number c.args.row) books c.args.place.unit book c.in_ok-book.book
    c.if-place-eq0.false within is c.in_ok-book.ensures)
