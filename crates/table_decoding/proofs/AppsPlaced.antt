-- The application at the place of a name has that name.
use Rattle.std.proofs.Common.{◌≡◌, ℕ, true, List, Some, None, ap, ◌∙◌}
use Rattle.std.proofs.lemmas.Option.{none-some, same_Some}
use Rattle.sched_book.specs.Imports.{has_app}
use Rattle.sched_book.specs.Places.{nth}
use Rattle.sched_book.specs.declared.rows.App.{App}
use Rattle.sched_book.specs.declared.world.World.{World}
use Rattle.table_meaning.specs.Worlds.{app_place}
use Rattle.table_worlds.proofs.AppsNamed.{named_app}

module _ (w : World) (name : List ℕ) (has : has_app w.apps name ≡ true) (apps : List App) (are : apps ≡ w.apps) (at : ℕ) (is : at ≡ app_place w name) where
  there : (a : App) × (nth apps at ≡ Some a) × (a.name ≡ name)
  there = let a = named_app w name has in (a.0, ap (λ l. nth l at) are ∙ ap (nth w.apps) is ∙ a.1, a.2)

  -- the application at the place of a name has that name
  pub app_is_named : (a : App) → Some a ≡ nth apps at → a.name ≡ name
  app_is_named a stands = ap (λ (x : App). x.name) (same_Some a there.0 (stands ∙ there.1)) ∙ there.2

  pub app_is_there : None ≡ nth apps at → ⊥
  app_is_there none = none-some there.0 (none ∙ there.1)
