-- Words are ASCII, and so UTF-8.
use Rattle.std.proofs.Common.{◌≡◌, ℕ, ◌<◌, Bool, true, List, [], ◌∷◌, get_or, zero, suc, arith}
use Rattle.std.proofs.lemmas.Bool.Decides.{nat_tests}
use Rattle.std.proofs.lemmas.Bool.{and_parts}
use Rattle.std.proofs.lemmas.Str.{IsUtf8-from_ascii}
use Rattle.std.specs.List.{list_all}
use Rattle.std.specs.Str.{IsUtf8}
use Rattle.texts.specs.Words.{is_word_byte, is_word}

word_byte_below : (b : ℕ) → is_word_byte b ≡ true → b < 128
word_byte_below b h = grind (arith, nat_tests)

-- if only ASCII passes a test, each byte of a text that passes it is below 128
below : (p : ℕ → Bool) → ((b : ℕ) → p b ≡ true → b < 128) → (text : List ℕ) → list_all p text ≡ true → (i : ℕ) → get_or text i 0 < 128
below p ascii [] h i = omega arith
below p ascii (b ∷ bs) h zero = ascii b (and_parts (p b) (list_all p bs) h).0
below p ascii (b ∷ bs) h (suc i) = below p ascii bs (and_parts (p b) (list_all p bs) h).1 i

pub IsUtf8-list_all : (p : ℕ → Bool) → ((b : ℕ) → p b ≡ true → b < 128) → (text : List ℕ) → list_all p text ≡ true → IsUtf8 text
IsUtf8-list_all p ascii text h = IsUtf8-from_ascii text (below p ascii text h)

pub IsUtf8-word : (text : List ℕ) → is_word text ≡ true → IsUtf8 text
IsUtf8-word text h = IsUtf8-list_all is_word_byte word_byte_below text (and_parts _ (list_all is_word_byte text) h).1
