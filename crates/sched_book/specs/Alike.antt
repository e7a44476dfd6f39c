-- Words. Reports with the same output: the first of them stands for all.
use Rattle.std.specs.Prelude.{◌≡◌, ℕ, List, find, Option, Some, None, unwrap_or}
use Rattle.std.specs.Cmp.Lexicographic.{slice_cmp}
use Rattle.std.specs.List.{All, Contains}
use Rattle.std.specs.List.Sorted.{IsSortedByKey}
use Rattle.std.specs.Ordering.{nat_cmp}
use Rattle.std.specs.Str.{bytes_eq}
use Rattle.sched_book.specs.Count.{output_of}
use Rattle.sched_book.specs.Near.{number_in}
use Rattle.sched_book.specs.declared.instance.Instance.{Instance}
use Rattle.sched_book.specs.declared.rows.Agreement.{Agreement}

-- the first of these reports with this output, if there is one
abbrev pub first_with : List Instance → List ℕ → List ℕ → Option ℕ
first_with xs reports text = find (λ j. bytes_eq (output_of xs j) text) reports

-- the first of these reports with the output of report i, or i if there is none
abbrev pub first_alike : List Instance → List ℕ → ℕ → ℕ
first_alike xs reports i = unwrap_or (first_with xs reports (output_of xs i)) i

-- these are first reports with their outputs, in the order of their outputs; the first with each output that is compared
-- as a text is among them
pub record AreFirsts (a : Agreement) (xs : List Instance) (reports firsts : List ℕ) : Type 0 where
  pub in_order : IsSortedByKey (output_of xs) (slice_cmp nat_cmp) firsts
  pub first : All (λ j. first_with xs reports (output_of xs j) ≡ Some j) firsts
  pub all : (text : List ℕ) (j : ℕ) → number_in a text ≡ None → first_with xs reports text ≡ Some j → Contains firsts j
