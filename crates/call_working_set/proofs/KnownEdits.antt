-- An edit of a host or of a workunit that exists is still one after other edits.
use Rattle.std.proofs.Common.{◌≡◌, ℕ, ◌+◌, Bool, true, false, cond, eqb, List, length, Option, Some, None, refl, sym, subst}
use Rattle.std.specs.Prelude.{option_map, min, IsSome}
use Rattle.sched_book.specs.Classes.{with_class}
use Rattle.sched_book.specs.Delta.{set_nth, with_instance, edited_one}
use Rattle.sched_book.specs.Places.{nth, unit_at, host_at}
use Rattle.sched_book.specs.Reports.{modify_nth}
use Rattle.sched_book.specs.declared.delta.Edit.{Edit}
use Rattle.sched_book.specs.declared.delta.Edit.TheVariants as edit
use Rattle.sched_book.specs.declared.world.World.{World}
use Rattle.sched_book.proofs.PlacesOf.{nth-modify_nth}
use Rattle.call_working_set.specs.WorkingSets.{IsOfKnown}
use Rattle.call_working_set.proofs.SetRows.{nth-set_nth}

-- the row at a place is still one after a row was changed
either : {X : Type 0} (b : Bool) (f : X → X) (o : Option X) → IsSome o → IsSome (cond b (option_map f o) o)
either {X} true f None some = some
either true f (Some x) some = refl
either false f o some = some

changed_stays : {X : Type 0} (f : X → X) (xs : List X) (n m : ℕ) → IsSome (nth xs m) → IsSome (nth (modify_nth f xs n) m)
changed_stays f xs n m some = subst IsSome (sym (nth-modify_nth f xs n m)) (either (eqb n m) f (nth xs m) some)

-- the same after a row was put
put_or : {X : Type 0} (a b : Bool) (x : X) (o : Option X) → IsSome o → IsSome (cond a o (cond b (Some x) o))
put_or true b x o some = some
put_or false true x o some = refl
put_or false false x o some = some

put_stays : {X : Type 0} (xs : List X) (m : ℕ) (x : X) (n : ℕ) → IsSome (nth xs n) → IsSome (nth (set_nth xs m x) n)
put_stays xs m x n some = subst IsSome (sym (nth-set_nth xs m x n)) (put_or (eqb m 0) (eqb (min m (length xs + 1)) n) x (nth xs n) some)

unit_stays : (w : World) (c : Edit) (unit : ℕ) → IsSome (unit_at w unit) → IsSome (unit_at (edited_one w c) unit)
unit_stays w (edit.Host number h) unit some = some
unit_stays w (edit.Instance p x) unit some = changed_stays (with_instance p.number x) w.units p.unit unit some
unit_stays w (edit.Class place class) unit some = changed_stays (with_class class) w.units place unit some

host_stays : (w : World) (c : Edit) (number : ℕ) → IsSome (host_at w number) → IsSome (host_at (edited_one w c) number)
host_stays w (edit.Host place h) number some = put_stays w.hosts place h number some
host_stays w (edit.Instance p x) number some = some
host_stays w (edit.Class place class) number some = some

stays : (w : World) (c e : Edit) → IsOfKnown w e → IsOfKnown (edited_one w c) e
stays w c (edit.Host number h) known = host_stays w c number known
stays w c (edit.Instance p x) known = (unit_stays w c p.unit known.0, known.1)
stays w c (edit.Class unit class) known = unit_stays w c unit known

pub known_stays : (w v : World) (c e : Edit) → v ≡ edited_one w c → IsOfKnown w e → IsOfKnown v e
known_stays w v c e is known = subst (λ z. IsOfKnown z e) (sym is) (stays w c e known)
