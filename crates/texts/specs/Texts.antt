-- Words. Texts as their bytes.
use Rattle.std.specs.Prelude.{ℕ, List}
use Rattle.std.specs.String.{string_bytes}
use Rattle.texts.specs.declared.text.Bytes.{Bytes}
use Rattle.texts.specs.declared.text.Bytes.TheVariants.{Short, Long}

-- the bytes of a text
abbrev pub bytes_in : Bytes → List ℕ
bytes_in (Short text) = text.bytes
bytes_in (Long text) = string_bytes text
