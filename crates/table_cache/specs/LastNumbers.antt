-- Rule. Last numbers of rows, and what is past them.
use Rattle.std.specs.Prelude.{◌≡◌, ◌<◌, ◌≤◌, ℕ, Option, Some, None}
use Rattle.sched_book.specs.declared.instance.Instance.{Instance}

-- nothing is at a number greater than this one
abbrev pub AreNonePast : {X : Type 0} → (ℕ → Option X) → ℕ → Type 0
AreNonePast found last = (number : ℕ) → last < number → found number ≡ None

-- no workunit at a place greater than this one has a job
abbrev pub AreNoJobsPast : (ℕ → ℕ → Option Instance) → ℕ → Type 0
AreNoJobsPast jobs last = (unit number : ℕ) → last < unit → jobs unit number ≡ None

-- a last number is known, and this one is greater
abbrev pub IsPastLast : Option ℕ → ℕ → Type 0
IsPastLast None number = ⊥
IsPastLast (Some last) number = last < number

-- a last number was known, and it and this one are at most the new last one
abbrev pub IsAtMost : Option ℕ → ℕ → ℕ → Type 0
IsAtMost None number new = ⊥
IsAtMost (Some last) number new = (last ≤ new) × (number ≤ new)
