-- Rule. Words, the names that accounts, hosts, platforms, batches and applications go by. (This profile.)
use Rattle.std.specs.Prelude.{ℕ, Bool, ◌&&◌, ◌||◌, ◌==◌, nat_le, if◌then◌else◌, List, length, Option, Some, None, IsTrue}
use Rattle.std.specs.Char.{is_ascii_alphanumeric}
use Rattle.std.specs.List.{list_all}

-- an ASCII letter, a digit, `_`, `-` or `.`
abbrev pub is_word_byte : ℕ → Bool
is_word_byte b = is_ascii_alphanumeric b || (b == 95) || (b == 45) || (b == 46)

-- 1 to 64 such bytes
abbrev pub is_word : List ℕ → Bool
is_word text = nat_le 1 (length text) && nat_le (length text) 64 && list_all is_word_byte text

abbrev pub IsWord : List ℕ → Type 0
IsWord text = IsTrue (is_word text)

-- the word in these bytes, if they are one
abbrev pub word_of : List ℕ → Option (List ℕ)
word_of text = if is_word text then Some text else None
