-- Rule. What happened to a stream.
use Rattle.std.specs.Prelude.{◌≡◌, ℕ, zero, suc, List, ◌++◌, Option}
use Rattle.std.specs.Io.KnownBytes.{Appends}

-- So many calls, one after another, led from the first state to the second.
unfoldable pub StepsInTurn : {S : Type 0} → (S → S → Type 0) → ℕ → S → S → Type 0
StepsInTurn step zero before after = before ≡ after
StepsInTurn step (suc n) before after = (between : _) × StepsInTurn step n before between × step between after

-- A front of the answer was written: all of it, or as far as the writer took it.
abbrev pub IsWritten : Option (List ℕ) → Option (List ℕ) → List ℕ → Type 0
IsWritten before after answer = (front : List ℕ) × (rest : List ℕ) × (answer ≡ front ++ rest) × Appends before after front
