-- Rule. What a host holds, and which of it its client does not list.
use Rattle.std.specs.Prelude.{◌≡◌, ℕ, Bool, true, not, ◌&&◌, List}
use Rattle.std.specs.Str.{bytes_eq}
use Rattle.sched_book.specs.Places.{passes, is_held_by, name_at}
use Rattle.sched_book.specs.Step.{deadline_at}
use Rattle.sched_book.specs.declared.instance.Place.{Place}
use Rattle.sched_book.specs.declared.world.World.{World}
use Rattle.texts.specs.SeenSet.{has_seen}
use Rattle.texts.specs.declared.seen_set.SeenSet.{SeenSet}

-- each instance that the host holds after changes was held by it before
abbrev pub HoldsNoMore : World → World → ℕ → Type 0
HoldsNoMore before after host =
    (p : Place) → passes after (λ b x. is_held_by host x) p ≡ true → passes before (λ b x. is_held_by host x) p ≡ true

-- what the host holds after changes has the deadline that it had before
abbrev pub KeepsDeadlines : World → World → ℕ → Type 0
KeepsDeadlines before after host = (p : Place) → passes after (λ b x. is_held_by host x) p ≡ true → deadline_at after p ≡ deadline_at before p

-- the host holds the instance at a place, and its name is not in the set
abbrev pub is_missing : World → ℕ → SeenSet (List ℕ) → Place → Bool
is_missing w host listed p = passes w (λ b x. is_held_by host x) p && not (has_seen bytes_eq listed (name_at w p))
