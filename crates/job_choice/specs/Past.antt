-- Rule. What is known about the workunits that a user had an instance of.
use Rattle.std.specs.Prelude.{◌≡◌, ℕ, Bool, true, false, ◌==◌, nat_eq, nat_lt, List, [], ◌∷◌, ◌++◌, length, find, Option, Some, option_map, IfSome}
use Rattle.std.specs.List.{list_any}
use Rattle.sched_book.specs.Skipping.{user_had_at}
use Rattle.sched_book.specs.declared.world.World.{World}
use Rattle.job_choice.specs.declared.past.LookedAt.{LookedAt}
use Rattle.job_choice.specs.declared.past.UserPast.{UserPast}
use Rattle.job_choice.specs.declared.past.UserPast.TheVariants.{InPart, Whole}
use Rattle.texts.specs.SeenSet.{has_seen}

-- the look at the workunit at a place
abbrev pub look_of : List LookedAt → ℕ → Option LookedAt
look_of looks unit = find (λ l. l.unit == unit) looks

-- whether the user had an instance of the workunit at a place, if that is known
abbrev pub known_had : UserPast → ℕ → Option Bool
known_had (InPart looks) unit = option_map (λ l. l.had) (look_of looks unit)
known_had (Whole had) unit = Some (has_seen nat_eq had unit)

-- what is known of each workunit is true
abbrev pub IsUserPast : World → ℕ → UserPast → Type 0
IsUserPast w account past = (unit : ℕ) → IfSome (known_had past unit) (λ had. had ≡ user_had_at w account unit)

-- it is known that the user had an instance of some workunit, or all is known
abbrev pub has_had : UserPast → Bool
has_had (InPart looks) = list_any (λ l. l.had) looks
has_had (Whole had) = true

-- how many workunits are looked at one by one
abbrev pub most_looked_at : ℕ
most_looked_at = 8

-- one more workunit may be looked at by itself
abbrev pub may_look : UserPast → Bool
may_look (InPart looks) = nat_lt (length looks) most_looked_at
may_look (Whole had) = false

-- with one more look, unless everything is known
abbrev pub with_look : UserPast → LookedAt → UserPast
with_look (InPart looks) look = InPart (looks ++ look ∷ [])
with_look (Whole had) look = Whole had
