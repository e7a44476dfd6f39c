-- Rule. A list made from another.
use Rattle.std.specs.Prelude.{ℕ, ◌+◌, List, [], ◌∷◌}

-- a function of each element and its number
abbrev pub map_from : {X Y : Type 0} → ℕ → (ℕ → X → Y) → List X → List Y
map_from n f [] = []
map_from n f (x ∷ xs) = f n x ∷ map_from (n + 1) f xs
