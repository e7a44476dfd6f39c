-- Rule. Which slot of a host its next call takes.
use Rattle.std.specs.Prelude.{◌≡◌, ℕ, ◌<◌, Bool, true, false, nat_lt, Option, Some, None, option_map}
use Rattle.reply_register.specs.Keeping.{most_kept}
use Rattle.reply_register.specs.declared.kept.Kept.{Kept}

-- the number of the call in a slot
abbrev pub seqno_in : (ℕ → Option Kept) → ℕ → Option ℕ
seqno_in calls slot = option_map (λ (k : Kept). k.seqno) (calls slot)

-- A free slot comes before a full one, and a lesser number before a greater one.
abbrev pub is_slot_before : Option ℕ → Option ℕ → Bool
is_slot_before None None = false
is_slot_before None (Some n) = true
is_slot_before (Some n) None = false
is_slot_before (Some n) (Some m) = nat_lt n m

-- The slot into which one more call is put: the first free one or, if none is free, the first one with the least number.
pub record IsSlotFor (calls : ℕ → Option Kept) (slot : ℕ) : Type 0 where
  pub within : slot < most_kept
  pub least : (other : ℕ) → other < most_kept → is_slot_before (seqno_in calls other) (seqno_in calls slot) ≡ false
  pub first : (other : ℕ) → other < slot → is_slot_before (seqno_in calls slot) (seqno_in calls other) ≡ true
