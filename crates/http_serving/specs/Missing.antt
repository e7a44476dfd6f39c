-- Words. How much of a message is missing.
use Rattle.std.specs.Prelude.{◌<◌, ℕ, List, ◌++◌, length}

-- At least `count` further bytes are needed: with fewer the bytes still await more.
abbrev pub Misses : (wanting : List ℕ → Type 0) → List ℕ → ℕ → Type 0
Misses wanting bytes count = (more : List ℕ) → length more < count → wanting (bytes ++ more)
