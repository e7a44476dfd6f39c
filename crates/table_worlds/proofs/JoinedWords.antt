-- Words joined by commas are the parts between the commas.
use Rattle.std.proofs.Common.{◌≡◌, ℕ, true, false, List, [], ◌∷◌, ◌++◌, ap, ◌∙◌, arith, refl}
use Rattle.std.specs.Prelude.{◌≤◌, codes, flat_map, length, All}
use Rattle.std.specs.List.{list_all, slice_split, AllByRecursion}
use Rattle.std.proofs.lemmas.Bool.Decides.{nat_tests}
use Rattle.std.proofs.lemmas.Bool.{and_parts}
use Rattle.std.proofs.lemmas.List.{append-nil}
use Rattle.std.proofs.lemmas.List.Elements.{All-from_recursion, All-head, All-tail}
use Rattle.std.proofs.lemmas.List.Splits.{slice_split_none, slice_split_at}
use Rattle.texts.specs.Words.{is_word_byte, is_word, IsWord}
use Rattle.table_meaning.specs.Worlds.{joined}
use Rattle.table_worlds.specs.ReadBack.{is_comma}

-- no byte of a word is a comma
word_byte_is_none : (b : ℕ) → is_word_byte b ≡ true → is_comma b ≡ false
word_byte_is_none b h = grind (arith, nat_tests)

no_commas : (text : List ℕ) → list_all is_word_byte text ≡ true → AllByRecursion (λ b. is_comma b ≡ false) text
no_commas [] h = tt
no_commas (b ∷ bs) h = (word_byte_is_none b (and_parts (is_word_byte b) (list_all is_word_byte bs) h).0, no_commas bs (and_parts (is_word_byte b) (list_all is_word_byte bs) h).1)

word_has_none : (text : List ℕ) → is_word text ≡ true → All (λ b. is_comma b ≡ false) text
word_has_none text h = All-from_recursion (λ b. is_comma b ≡ false) text (no_commas text (and_parts _ (list_all is_word_byte text) h).1)

-- a word followed by more words
split_more : (word : List ℕ) (more : List (List ℕ)) → is_word word ≡ true → All IsWord more → slice_split is_comma (word ++ flat_map (λ w. codes "," ++ w) more) ≡ word ∷ more
split_more word [] here later = ap (slice_split is_comma) (append-nil word) ∙ slice_split_none is_comma word (word_has_none word here)
split_more word (next ∷ more) here later =
    slice_split_at is_comma word 44 (next ++ flat_map (λ w. codes "," ++ w) more) (word_has_none word here) refl
    ∙ ap (λ parts. word ∷ parts) (split_more next more (All-head IsWord next more later) (All-tail IsWord next more later))

-- joined words are split into the same words
pub split_joined : (words : List (List ℕ)) → (1 ≤ length words) × All IsWord words → slice_split is_comma (joined words) ≡ words
split_joined [] words = absurd (omega (arith, words.0))
split_joined (word ∷ more) words = split_more word more (All-head IsWord word more words.1) (All-tail IsWord word more words.1)
