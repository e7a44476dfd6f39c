-- Rule. How one message is served: it is read as far as it is wanted, handed over once, and answered.
use Rattle.std.specs.Prelude.{◌≡◌, ◌<◌, ◌≤◌, ◌⊎◌, ℕ, List, [], ◌++◌, length, Option}
use Rattle.std.specs.Io.KnownBytes.{Consumes, IsAtEnd}
use Rattle.http_responses.specs.Answers.{answer_bytes}
use Rattle.http_responses.specs.declared.answer.Answer.TheVariants.{Unavailable}

-- There are no bytes, or before the last read, of at most 4,096 bytes, they still awaited more.
abbrev pub IsWanted : (wanting : List ℕ → Type 0) → List ℕ → Type 0
IsWanted wanting bytes =
    (bytes ≡ []) ⊎ ((front : List ℕ) × (last : List ℕ) × (bytes ≡ front ++ last) × (length last ≤ 4096) × wanting front)

-- These bytes were read, and none that were not awaited.
abbrev pub Comes : (wanting : List ℕ → Type 0) → Option (List ℕ) → Option (List ℕ) → List ℕ → Type 0
Comes wanting before after bytes = Consumes before after bytes × IsWanted wanting bytes

-- Either no further bytes would change what the bytes mean, or there are no further bytes.
abbrev pub IsWhole : (settled : List ℕ → Type 0) → Option (List ℕ) → List ℕ → Type 0
IsWhole settled after bytes = settled bytes ⊎ IsAtEnd after

-- The whole message was handled, and this is its answer. Or there was no room for what was read of it, and nothing was handled.
abbrev pub IsAnswered : {S : Type 0} → (settled : S → List ℕ → Type 0) → (handles : S → ℕ → List ℕ → List ℕ → S → Type 0)
    → Option (List ℕ) → S → ℕ → List ℕ → List ℕ → S → Type 0
IsAnswered settled handles after old now bytes answer new =
    (IsWhole (settled old) after bytes × handles old now bytes answer new)
    ⊎ ((answer ≡ answer_bytes Unavailable) × (new ≡ old) × (0 < length bytes))
