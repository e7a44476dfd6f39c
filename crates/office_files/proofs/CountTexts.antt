-- Count texts are digits.
use Rattle.std.proofs.Common.{◌≡◌, ℕ, ◌<◌, ◌∙◌, Bool, true, false, List, [], ◌∷◌, refl, sym, subst, length, arith}
use Rattle.std.proofs.lemmas.Slice.Eq.{bytes_eq-Decides}
use Rattle.std.specs.Prelude.{nat_le, ◌&&◌, ◌||◌}
use Rattle.std.specs.Char.{is_ascii_digit}
use Rattle.std.specs.List.{list_all}
use Rattle.std.specs.Str.{bytes_eq}
use Rattle.office_files.specs.Columns.{is_count_text}

-- a count text is digits, and not empty
pub are_digits : (text : List ℕ) → is_count_text text ≡ true → list_all is_ascii_digit text ≡ true
are_digits [] h = cc
are_digits (c ∷ cs) h = either (bytes_eq (c ∷ cs) (48 ∷ [])) (nat_le 49 c) (list_all is_ascii_digit (c ∷ cs)) h (bytes_eq-Decides (c ∷ cs) (48 ∷ [])).0 refl
  where
    zero : (c ∷ cs) ≡ (48 ∷ []) → list_all is_ascii_digit (c ∷ cs) ≡ true
    zero e = subst (λ (xs : List ℕ). list_all is_ascii_digit xs ≡ true) (sym e) refl

    either : (is_zero some digits : Bool) → (is_zero || (some && digits)) ≡ true → (is_zero ≡ true → (c ∷ cs) ≡ (48 ∷ [])) → digits ≡ list_all is_ascii_digit (c ∷ cs) → list_all is_ascii_digit (c ∷ cs) ≡ true
    either true some digits h same e = zero (same refl)
    either false true digits h same e = sym e ∙ h
    either false false digits h same e = cc

pub is_some_text : (text : List ℕ) → is_count_text text ≡ true → 0 < length text
is_some_text [] h = cc
is_some_text (c ∷ cs) h = omega arith
