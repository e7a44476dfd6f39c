-- A number of at most three digits written with three, and one more row.
use Rattle.std.proofs.Common.{◌≡◌, ℕ, ◌+◌, ◌-◌, ◌<◌, List, [], ◌∷◌, ◌++◌, length, get_or, take, refl, sym, ap, ◌∙◌, arith, append-nil}
use Rattle.std.specs.Prelude.{decimal, replicate}
use Rattle.std.specs.Fmt.{char_count, format_spec, padded_integral, styled_decimal}
use Rattle.std.specs.List.{flat_map}
use Rattle.std.proofs.lemmas.List.{flat_map_more, take_more}
use Rattle.office_files.specs.Statements.{three_digits, line_text}
use Rattle.office_files.specs.declared.statement.line.StatementLine.{StatementLine}

pub padded_to_three : (n : ℕ) → styled_decimal (format_spec 32 0 4 3 18446744073709551615) n ≡ three_digits n
unfolding padded_integral char_count
padded_to_three n =
    let none : char_count [] ≡ 0 = refl in
    let padding : 3 - length (decimal n) - 0 - char_count [] ≡ 3 - length (decimal n) = omega (arith, none) in
    ap (λ k. replicate k 48 ++ (decimal n ++ [])) padding
    ∙ ap (λ r. replicate (3 - length (decimal n)) 48 ++ r) (append-nil (decimal n))

pub row_more : (before : List ℕ) (lines : List StatementLine) (i : ℕ) (line : StatementLine) → i < length lines → line ≡ get_or lines i line
    → before ++ flat_map line_text (take i lines) ++ line_text line ≡ before ++ flat_map line_text (take (i + 1) lines)
row_more before lines i line within is =
    flat_map_more line_text before (take i lines) line
    ∙ ap (λ ls. before ++ flat_map line_text ls) (sym (take_more lines i line within ∙ ap (λ y. take i lines ++ y ∷ []) (sym is)))
