-- Words. The first element of each text, without the texts that were seen before.
use Rattle.std.specs.Prelude.{ℕ, Bool, ◌||◌, if◌then◌else◌, List, [], ◌∷◌}
use Rattle.std.specs.Str.{bytes_eq}

abbrev pub first_unseen : {X : Type 0} → (X → List ℕ) → (List ℕ → Bool) → List X → List X
first_unseen text came [] = []
first_unseen text came (x ∷ xs) =
    if came (text x)
    then first_unseen text came xs
    else x ∷ first_unseen text (λ other. bytes_eq other (text x) || came other) xs
