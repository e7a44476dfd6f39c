-- The order of places.
use Rattle.std.proofs.Common.{◌≡◌, true, false, arith}
use Rattle.std.proofs.lemmas.Bool.Decides.{nat_tests}
use Rattle.sched_book.specs.Places.{is_before}
use Rattle.sched_book.specs.declared.instance.Place.{Place}

pub not_itself : (p : Place) → is_before p p ≡ false
not_itself p = grind (arith, nat_tests)

pub not_both : (p q : Place) → is_before p q ≡ true → is_before q p ≡ false
not_both p q before = grind (arith, nat_tests)

-- if one place is not before a second, and that is not before a third, the first is not before the third
pub not_before : (p q r : Place) → is_before p q ≡ false → is_before q r ≡ false → is_before p r ≡ false
not_before p q r first second = grind (arith, nat_tests)
