-- The value of an option that has one, passes a test, or was mapped.
use Rattle.std.proofs.Common.{◌≡◌, Bool, true, Option, Some, None, refl}
use Rattle.std.specs.Prelude.{is_some, option_map, option_and_then}
use Rattle.sched_book.specs.Places.{option_any}

pub some_by : {X : Type 0} (o : Option X) → is_some o ≡ true → (x : X) × (o ≡ Some x)
some_by None is = absurd cc
some_by (Some x) is = (x, refl)

pub any_by : {X : Type 0} (p : X → Bool) (o : Option X) → option_any p o ≡ true → (x : X) × (o ≡ Some x) × (p x ≡ true)
any_by p None is = absurd cc
any_by p (Some x) is = (x, refl, is)

pub mapped_by : {X Y : Type 0} (f : X → Y) (o : Option X) (y : Y) → option_map f o ≡ Some y → (x : X) × (o ≡ Some x) × (f x ≡ y)
mapped_by f None y is = absurd cc
mapped_by f (Some x) y is = (x, refl, (let same : f x ≡ y = cc in same))

pub then_by : {X Y : Type 0} (f : X → Option Y) (o : Option X) (y : Y) → option_and_then f o ≡ Some y → (x : X) × (o ≡ Some x) × (f x ≡ Some y)
then_by f None y is = absurd cc
then_by f (Some x) y is = (x, refl, is)
