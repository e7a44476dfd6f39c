-- Rule. What the fates of lost jobs do to a world.
use Rattle.std.specs.Prelude.{◌≡◌, ℕ, List, map, Option, Some, None, option_map}
use Rattle.sched_book.specs.Places.{instance_at}
use Rattle.sched_book.specs.Reports.{with_changed}
use Rattle.sched_book.specs.Lost.{with_deadline, with_lapse}
use Rattle.sched_book.specs.declared.delta.Edit.{Edit}
use Rattle.sched_book.specs.declared.delta.Edit.TheVariants as edit
use Rattle.sched_book.specs.declared.instance.Instance.{Instance}
use Rattle.sched_book.specs.declared.instance.Lapse.TheVariants.{Dropped}
use Rattle.sched_book.specs.declared.instance.Place.{Place}
use Rattle.sched_book.specs.declared.world.World.{World}
use Rattle.lost_jobs.specs.declared.fates.Fate.{Fate}

-- an instance that is sent again with a deadline, or dropped
abbrev pub fated : Option ℕ → Instance → Instance
fated None x = with_lapse Dropped x
fated (Some deadline) x = with_deadline (λ before. deadline) x

-- the world after one fate
abbrev pub with_fate : World → Fate → World
with_fate w f = with_changed (fated f.resent) w f.place

-- the same as a change; none if there is no instance
abbrev pub fate_change : World → Fate → Option Edit
fate_change w f = option_map (λ x. edit.Instance f.place (fated f.resent x)) (instance_at w f.place)

-- Fates that follow from the places: two fates of one place are the same.
pub record AreByPlace (fates : List Fate) : Type 0 where
  pub places : List Place
  pub resent_at : Place → Option ℕ
  pub are : fates ≡ map (λ p. record { place = p; resent = resent_at p }) places
