-- What the tests of an instance's columns say about the values in them.
use Rattle.std.proofs.Common.{◌≡◌, ℕ, ℤ, pos, false, ◌&&◌, Option, Some, None, refl, ap₂, ◌∙◌, arith, int_le, int_lt, nat_le, nat_lt}
use Rattle.std.specs.Prelude.{◌==◌}
use Rattle.std.proofs.lemmas.Int.{ints}
use Rattle.sched_book.specs.Places.{option_any}
use Rattle.sqlite_value.specs.declared.value.Value.TheVariants.{Int}
use Rattle.sqlite_sql.specs.declared.ops.CompareOp.TheVariants.{Eq, Lt, Gt, Ge}
use Rattle.sqlite_sql.specs.Ops.{binary}
use Rattle.sqlite_typed.proofs.TestLemmas.{at_ints}
use Rattle.sqlite.specs.Values.{or_null}
use Rattle.table_meaning.specs.Rows.{whole}
use Rattle.table_meaning.specs.Places.{compares, lies_between}

pub equal_numbers : (a b : ℕ) → compares Eq (whole a) (whole b) ≡ (a == b)
equal_numbers a b = at_ints false Eq (pos a) (pos b) ∙ grind (arith, ints)

pub above_number : (a b : ℕ) → compares Gt (whole a) (whole b) ≡ nat_lt b a
above_number a b = at_ints false Gt (pos a) (pos b) ∙ grind (arith, ints)

pub not_below_number : (a b : ℕ) → compares Ge (whole a) (whole b) ≡ nat_le b a
not_below_number a b = at_ints false Ge (pos a) (pos b) ∙ grind (arith, ints)

pub optional_equals : (o : Option ℕ) (n : ℕ) → compares Eq (or_null whole o) (whole n) ≡ option_any (λ m. m == n) o
unfolding binary
optional_equals None n = refl
optional_equals (Some m) n = equal_numbers m n

pub optional_lies_between : (from until : ℤ) (o : Option ℤ) → lies_between from until (or_null Int o) ≡ option_any (λ z. int_le from z && int_lt z until) o
unfolding binary
optional_lies_between from until None = refl
optional_lies_between from until (Some z) = ap₂ ◌&&◌ (at_ints false Ge z from) (at_ints false Lt z until)
