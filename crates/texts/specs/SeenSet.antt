-- Rule. Which keys were seen.
use Rattle.std.specs.Borrow.{Bor}
use Rattle.std.specs.List.{list_any}
use Rattle.std.specs.Prelude.{ℕ, Bool, List}
use Rattle.std.specs.Str.{bytes_eq}
use Rattle.texts.specs.declared.seen_set.SeenSet.{SeenSet}

-- some key equals this one
abbrev pub has_seen : {K : Type 0} → (K → K → Bool) → SeenSet K → K → Bool
has_seen eq seen key = list_any (eq key) seen.keys.keys

-- a text as a key, at any address
abbrev pub lent : List ℕ → Bor (List ℕ)
lent text = record { ref_ptr = (0, 0); now = text }

-- some text is this one
abbrev pub has_text : SeenSet (Bor (List ℕ)) → List ℕ → Bool
has_text seen text = has_seen (λ s t. bytes_eq s.now t.now) seen (lent text)
