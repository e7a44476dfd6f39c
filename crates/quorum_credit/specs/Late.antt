-- Words. What happens to an instance, and to several, when the deadline passes.
use Rattle.std.specs.Prelude.{ℕ, if◌then◌else◌, List, [], ◌∷◌, fold, Option, None, option_map, slice_get, IsTrue}
use Rattle.sched_book.specs.Count.{is_held}
use Rattle.sched_book.specs.Places.{option_any, passes}
use Rattle.sched_book.specs.Lost.{with_lapse}
use Rattle.sched_book.specs.Reports.{with_changed}
use Rattle.sched_book.specs.declared.instance.Instance.{Instance}
use Rattle.sched_book.specs.declared.instance.Lapse.TheVariants.{Late}
use Rattle.sched_book.specs.declared.instance.Place.{Place}
use Rattle.sched_book.specs.declared.world.World.{World}

-- the instance of a number, late, if a host holds it
abbrev pub late_in : List Instance → ℕ → Option Instance
late_in xs number = if option_any is_held (slice_get xs number) then option_map (with_lapse Late) (slice_get xs number) else None

-- the instances at these places lapse late
abbrev pub lapsed_at : World → List Place → World
lapsed_at w places = fold (with_changed (with_lapse Late)) w places

-- a host holds the instance at this place
abbrev pub IsHeldAt : World → Place → Type 0
IsHeldAt w p = IsTrue (passes w (λ b x. is_held x) p)

-- a host holds each of these instances when it lapses, after those before it
abbrev pub AreHeldInTurn : World → List Place → Type 0
AreHeldInTurn w [] = Unit {0}
AreHeldInTurn w (p ∷ ps) = IsHeldAt w p × AreHeldInTurn (with_changed (with_lapse Late) w p) ps
