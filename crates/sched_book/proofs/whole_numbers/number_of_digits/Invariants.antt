use Rattle.std.proofs.Common.{◌≡◌, ◌<◌, ◌^◌, true, take}
use Rattle.std.specs.Char.{is_ascii_digit}
use Rattle.std.specs.List.{list_all}
use Rattle.sched_book.specs.WholeNumbers.{decimal_value}
use Rattle.sched_book.proofs.whole_numbers.number_of_digits.Given as goal

-- the bytes so far are digits, and the number that they denote is below 10 to the power of their count
abbrev pub invariant-loop-byte : goal.invariant-loop-byte
invariant-loop-byte l = record {
  digits : list_all is_ascii_digit (take l.byte-index l.text) ≡ true;
  said : l.number ≡ decimal_value (take l.byte-index l.text);
  small : l.number < 10 ^ l.byte-index;
}
