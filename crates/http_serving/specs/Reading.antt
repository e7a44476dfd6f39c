-- Words. What reading a message gives.
use Rattle.std.specs.Prelude.{◌≡◌, ◌<◌, ◌≤◌, ℕ, List, [], ◌++◌, length, Option}
use Rattle.std.specs.Io.KnownBytes.{Consumes, IsAtEnd}
use Rattle.http_serving.specs.Serving.{Comes, IsWhole}
use Rattle.http_serving.specs.declared.reading.Heard.{Heard}
use Rattle.http_serving.specs.declared.reading.Heard.TheVariants.{Message, NoRoom}
use Rattle.http_serving.specs.declared.reading.Turn.{Turn}
use Rattle.http_serving.specs.declared.reading.Turn.TheVariants as turn

-- One read gave these bytes, at most 4,096.
abbrev pub ReadGives : Option (List ℕ) → Option (List ℕ) → List ℕ → Type 0
ReadGives before after last = Consumes before after last × (length last ≤ 4096)

-- What one read did, after what was read before. It gave some bytes, it was at the end, there was no room for its bytes, or it failed.
abbrev pub TurnSays : Type 0 → Option (List ℕ) → Option (List ℕ) → List ℕ → List ℕ → Turn → Type 0
TurnSays failed before after had has (turn.Gave count) =
    (last : List ℕ) × ReadGives before after last × (has ≡ had ++ last) × (length last ≡ count)
TurnSays failed before after had has turn.End = IsAtEnd after × Consumes before after [] × (has ≡ had)
TurnSays failed before after had has turn.NoRoom = (last : List ℕ) × ReadGives before after last × (0 < length last)
TurnSays failed before after had has turn.Failed = failed

-- A whole message, or one for which there was no room.
abbrev pub HeardSays : (settled wanting : List ℕ → Type 0) → Option (List ℕ) → Option (List ℕ) → Heard → Type 0
HeardSays settled wanting before after (Message bytes) = Comes wanting before after bytes.items × IsWhole settled after bytes.items
HeardSays settled wanting before after NoRoom = (bytes : List ℕ) × Comes wanting before after bytes × (0 < length bytes)
