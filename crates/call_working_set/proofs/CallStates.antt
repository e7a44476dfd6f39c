-- What a call state is after reading and putting.
use Rattle.std.proofs.Common.{◌≡◌, ℕ, ◌+◌, ◌-◌, Bool, true, false, cond, eqb, List, [], ◌∷◌, ◌++◌, length, take, Option, Some, None, sym, refl, ap, ◌∙◌, subst, arith, length-append}
use Rattle.std.proofs.lemmas.Bool.{eqb-true}
use Rattle.std.specs.Prelude.{option_map, unwrap_or, IsSome}
use Rattle.std.specs.BTreeMap.{BTreeMap, get, is_at}
use Rattle.std.specs.Map.{lookup}
use Rattle.std.specs.Ordering.{nat_cmp}
use Rattle.std.specs.Str.{bytes_eq}
use Rattle.std.proofs.lemmas.List.Sums.{fold-append}
use Rattle.sched_book.specs.Classes.{with_class}
use Rattle.sched_book.specs.Desk.{workunit_at, agreement_at, instances_at}
use Rattle.sched_book.specs.Places.{unit_at, host_at, unit_named, agreement_by, agreement_of}
use Rattle.sched_book.specs.Reports.{modify_nth}
use Rattle.sched_book.specs.Delta.{with_instance, set_nth, edited_one, edited}
use Rattle.sched_book.specs.declared.delta.Edit.{Edit}
use Rattle.sched_book.specs.declared.delta.Edit.TheVariants as edit
use Rattle.sched_book.specs.declared.instance.Instance.{Instance}
use Rattle.sched_book.specs.declared.instance.Place.{Place}
use Rattle.sched_book.specs.declared.instance.UnitBook.{UnitBook}
use Rattle.sched_book.specs.declared.rows.Agreement.{Agreement}
use Rattle.sched_book.specs.declared.rows.HostRow.{HostRow}
use Rattle.sched_book.specs.declared.rows.Workunit.{Workunit}
use Rattle.sched_book.specs.declared.settings.Settings.{Settings}
use Rattle.sched_book.specs.declared.world.World.{World}
use Rattle.sched_book.proofs.PlacesOf.{nth-modify_nth, place_where-modify_nth}
use Rattle.call_working_set.specs.WorkingSets.{IsUnitStateOf, IsUnitStateAt, IsReadAt, IsHostAt, IsCallStateOf, HasPlace, book_before, book_now, with_put, ArePut, with_granted, AreClassed}
use Rattle.call_working_set.specs.UnitState.{UnitState}
use Rattle.call_working_set.specs.declared.call_state.CallState.{CallState}
use Rattle.call_working_set.proofs.SetRows.{nth-put, nth_found}

-- a map without entries finds nothing
finds_none : {X : Type 0} (m : BTreeMap ℕ X) (k : ℕ) → m.entries ≡ [] → get nat_cmp m k ≡ None
finds_none m k empty = ap (λ es. lookup (is_at (nat_cmp k)) es) empty

-- an empty call state
pub new_call_state : (w : World) (s : Settings) (unit_states : BTreeMap ℕ UnitState) (hosts : BTreeMap ℕ HostRow) (cs : List Edit) → s ≡ w.settings
    → unit_states.entries ≡ [] → hosts.entries ≡ [] → cs ≡ [] → IsCallStateOf w (record { settings = s; unit_states = unit_states; hosts = hosts; edits = cs })
new_call_state w s unit_states hosts cs is no_unit_state no_host none =
    subst (λ (cs : List Edit). IsCallStateOf w (record { settings = s; unit_states = unit_states; hosts = hosts; edits = cs })) (sym none) (record {
      settings = is;
      unit_states = λ unit. subst (λ (o : Option UnitState). IsUnitStateAt w w unit o) (sym (finds_none unit_states unit no_unit_state)) refl;
      hosts = λ number. subst (λ (o : Option HostRow). IsHostAt w w number o) (sym (finds_none hosts number no_host)) refl;
      rest = refl;
      names = λ name. refl;
    })

-- a call state with the same entries
pub same_call_state : (w : World) (old new : CallState) → new.settings ≡ old.settings → ((unit : ℕ) → get nat_cmp new.unit_states unit ≡ get nat_cmp old.unit_states unit)
    → ((number : ℕ) → get nat_cmp new.hosts number ≡ get nat_cmp old.hosts number) → new.edits ≡ old.edits → IsCallStateOf w old → IsCallStateOf w new
same_call_state w old new settings unit_states hosts edits call_state = record {
  settings = settings ∙ call_state.settings;
  unit_states = λ unit. subst (λ (cs : List Edit). IsUnitStateAt w (edited w cs) unit (get nat_cmp new.unit_states unit)) (sym edits)
      (subst (λ (o : Option UnitState). IsUnitStateAt w (edited w old.edits) unit o) (sym (unit_states unit)) (call_state.unit_states unit));
  hosts = λ number. subst (λ (cs : List Edit). IsHostAt w (edited w cs) number (get nat_cmp new.hosts number)) (sym edits)
      (subst (λ (o : Option HostRow). IsHostAt w (edited w old.edits) number o) (sym (hosts number)) (call_state.hosts number));
  rest = subst (λ (cs : List Edit). edited w cs ≡ record w { units = (edited w cs).units; hosts = (edited w cs).hosts }) (sym edits) call_state.rest;
  names = λ name. ap (λ cs. unit_named (edited w cs) name) edits ∙ call_state.names name;
}

-- one more unit state
pub unit_state_more : (w : World) (old new : CallState) (unit : ℕ) (k : UnitState) → new.settings ≡ old.settings → new.hosts ≡ old.hosts → new.edits ≡ old.edits
    → ((other : ℕ) → get nat_cmp new.unit_states other ≡ cond (eqb unit other) (Some k) (get nat_cmp old.unit_states other))
    → IsUnitStateAt w (edited w old.edits) unit (Some k) → IsCallStateOf w old → IsCallStateOf w new
unit_state_more w old new unit k settings hosts edits unit_states unit_state call_state = record {
  settings = settings ∙ call_state.settings;
  unit_states = λ other. subst (λ (cs : List Edit). IsUnitStateAt w (edited w cs) other (get nat_cmp new.unit_states other)) (sym edits)
      (subst (λ (o : Option UnitState). IsUnitStateAt w (edited w old.edits) other o) (sym (unit_states other)) (cases other (eqb unit other) refl));
  hosts = λ number. subst (λ (cs : List Edit). IsHostAt w (edited w cs) number (get nat_cmp new.hosts number)) (sym edits)
      (subst (λ (m : BTreeMap ℕ HostRow). IsHostAt w (edited w old.edits) number (get nat_cmp m number)) (sym hosts) (call_state.hosts number));
  rest = subst (λ (cs : List Edit). edited w cs ≡ record w { units = (edited w cs).units; hosts = (edited w cs).hosts }) (sym edits) call_state.rest;
  names = λ name. ap (λ cs. unit_named (edited w cs) name) edits ∙ call_state.names name;
}
  where
    cases : (other : ℕ) (b : Bool) → eqb unit other ≡ b → IsUnitStateAt w (edited w old.edits) other (cond b (Some k) (get nat_cmp old.unit_states other))
    cases other true is = subst (λ (n : ℕ). IsUnitStateAt w (edited w old.edits) n (Some k)) (eqb-true unit other is) unit_state
    cases other false is = call_state.unit_states other

-- a change that was pushed and taken back
front : {X : Type 0} (xs ys : List X) → take (length xs) (xs ++ ys) ≡ xs
front [] ys = refl
front (x ∷ xs) ys = ap (λ zs. x ∷ zs) (front xs ys)

pub taken_back : {X : Type 0} (xs : List X) (x : X) → take (length (xs ++ x ∷ []) - 1) (xs ++ x ∷ []) ≡ xs
taken_back xs x =
    let long : length (xs ++ x ∷ []) ≡ length xs + 1 = length-append xs (x ∷ []) in
    ap (λ n. take n (xs ++ x ∷ [])) (let same : length (xs ++ x ∷ []) - 1 ≡ length xs = omega arith in same) ∙ front xs (x ∷ [])

one_more : (w : World) (cs : List Edit) (c : Edit) → edited w (cs ++ c ∷ []) ≡ edited_one (edited w cs) c
one_more w cs c = fold-append edited_one w cs (c ∷ [])

-- a change of a workunit, and the same change of its unit state
record AreAlike (f : UnitBook → UnitBook) (g : UnitState → UnitState) : Type 0 where
  name : (b : UnitBook) → (f b).unit.name ≡ b.unit.name
  now : (k : UnitState) → f (book_now k) ≡ book_now (g k)
  before : (k : UnitState) → book_before k ≡ book_before (g k)
  agreement : (k : UnitState) → k.agreement ≡ (g k).agreement

-- the unit state after it
unit_state_done : (f : UnitBook → UnitBook) (g : UnitState → UnitState) → AreAlike f g → (entry present after : World) (unit : ℕ) (b : Bool) (o : Option UnitState) → (b ≡ true → IsSome o)
    → unit_at after unit ≡ cond b (option_map f (unit_at present unit)) (unit_at present unit)
    → IsUnitStateAt entry present unit o → IsUnitStateAt entry after unit (cond b (option_map g o) o)
unit_state_done f g alike entry present after unit false None some is unit_state = is ∙ unit_state
unit_state_done f g alike entry present after unit false (Some k) some is unit_state = record { before = unit_state.before; here = is ∙ unit_state.here; agreement = unit_state.agreement }
unit_state_done f g alike entry present after unit true None some is unit_state = let never = some refl in absurd cc
unit_state_done f g alike entry present after unit true (Some k) some is unit_state = record {
  before = unit_state.before ∙ ap (λ (b : UnitBook). Some b) (alike.before k);
  here = is ∙ ap (option_map f) unit_state.here ∙ ap (λ (b : UnitBook). Some b) (alike.now k);
  agreement = ap (λ (b : UnitBook). agreement_by entry.apps b.unit.app) (sym (alike.before k)) ∙ unit_state.agreement ∙ alike.agreement k;
}

-- the change is made in the state of the workunit at a place, and is the last change
unit_done : (f : UnitBook → UnitBook) (g : UnitState → UnitState) → AreAlike f g → (w : World) (old new : CallState) (place : ℕ) (c : Edit)
    → ((v : World) → edited_one v c ≡ record v { units = modify_nth f v.units place })
    → new.settings ≡ old.settings → new.hosts ≡ old.hosts → new.edits ≡ old.edits ++ c ∷ []
    → IsSome (get nat_cmp old.unit_states place)
    → ((unit : ℕ) → get nat_cmp new.unit_states unit ≡ cond (eqb place unit) (option_map g (get nat_cmp old.unit_states unit)) (get nat_cmp old.unit_states unit))
    → IsCallStateOf w old → IsCallStateOf w new
unit_done f g alike w old new place c makes settings hosts edits there unit_states call_state = record {
  settings = settings ∙ call_state.settings;
  unit_states = λ unit. subst (λ (o : Option UnitState). IsUnitStateAt w (edited w new.edits) unit o) (sym (unit_states unit))
      (unit_state_done f g alike w (edited w old.edits) (edited w new.edits) unit (eqb place unit) (get nat_cmp old.unit_states unit) (some unit) (units unit) (call_state.unit_states unit));
  hosts = λ number. subst (λ (v : World). IsHostAt w v number (get nat_cmp new.hosts number)) (sym after)
      (subst (λ (m : BTreeMap ℕ HostRow). IsHostAt w (edited w old.edits) number (get nat_cmp m number)) (sym hosts) (call_state.hosts number));
  rest = subst (λ (v : World). v ≡ record w { units = v.units; hosts = v.hosts }) (sym after)
      (ap (λ (v : World). record v { units = modify_nth f (edited w old.edits).units place }) call_state.rest);
  names = λ name. ap (λ v. unit_named v name) after
      ∙ place_where-modify_nth (λ (b : UnitBook). bytes_eq b.unit.name name) f (λ b. ap (λ n. bytes_eq n name) (alike.name b)) (edited w old.edits).units place
      ∙ call_state.names name;
}
  where
    after : edited w new.edits ≡ record (edited w old.edits) { units = modify_nth f (edited w old.edits).units place }
    after = ap (edited w) edits ∙ one_more w old.edits c ∙ makes (edited w old.edits)

    units : (unit : ℕ) → unit_at (edited w new.edits) unit
        ≡ cond (eqb place unit) (option_map f (unit_at (edited w old.edits) unit)) (unit_at (edited w old.edits) unit)
    units unit = ap (λ v. unit_at v unit) after ∙ nth-modify_nth f (edited w old.edits).units place unit

    some : (unit : ℕ) → eqb place unit ≡ true → IsSome (get nat_cmp old.unit_states unit)
    some unit same = subst (λ (n : ℕ). IsSome (get nat_cmp old.unit_states n)) (eqb-true place unit same) there

-- an instance is put on its workunit's state, and is the last change
pub instance_put : (w : World) (old new : CallState) (p : Place) (x y : Instance) → y ≡ x → new.settings ≡ old.settings → new.hosts ≡ old.hosts
    → new.edits ≡ old.edits ++ edit.Instance p x ∷ [] → ArePut old.unit_states new.unit_states p y → IsCallStateOf w old → IsCallStateOf w new
instance_put w old new p x y copy settings hosts edits puts call_state =
    let same : ArePut old.unit_states new.unit_states p x = subst (λ (z : Instance). ArePut old.unit_states new.unit_states p z) copy puts in
    unit_done (with_instance p.number x) (with_put p x) (record { name = λ b. refl; now = λ k. refl; before = λ k. refl; agreement = λ k. refl })
    w old new p.unit (edit.Instance p x) (λ v. refl) settings hosts edits same.0 same.1 call_state

-- a version of a class is granted on its workunit's state, and that is the last change
pub class_put : (w : World) (old new : CallState) (unit : ℕ) (class copied : List ℕ) → copied ≡ class → new.settings ≡ old.settings → new.hosts ≡ old.hosts
    → new.edits ≡ old.edits ++ edit.Class unit copied ∷ [] → AreClassed old.unit_states new.unit_states unit class → IsCallStateOf w old → IsCallStateOf w new
class_put w old new unit class copied copy settings hosts edits puts call_state =
    unit_done (with_class class) (with_granted class) (record { name = λ b. refl; now = λ k. refl; before = λ k. refl; agreement = λ k. refl })
    w old new unit (edit.Class unit class) (λ v. refl) settings hosts (edits ∙ ap (λ c. old.edits ++ edit.Class unit c ∷ []) copy) puts.0 puts.1 call_state

-- a host is put, and is the last change
pub host_put : (w : World) (old new : CallState) (number : ℕ) (h k : HostRow) → k ≡ h → HasPlace (edited w old.edits) number → new.settings ≡ old.settings → new.unit_states ≡ old.unit_states
    → new.edits ≡ old.edits ++ edit.Host number h ∷ []
    → ((n : ℕ) → get nat_cmp new.hosts n ≡ cond (eqb number n) (Some k) (get nat_cmp old.hosts n)) → IsCallStateOf w old → IsCallStateOf w new
host_put w old new number h k copy place settings unit_states edits hosts call_state = record {
  settings = settings ∙ call_state.settings;
  unit_states = λ unit. subst (λ (m : BTreeMap ℕ UnitState). IsUnitStateAt w (edited w new.edits) unit (get nat_cmp m unit)) (sym unit_states)
      (same unit (get nat_cmp old.unit_states unit) (call_state.unit_states unit));
  hosts = λ n. subst (λ (o : Option HostRow). IsHostAt w (edited w new.edits) n o) (sym (hosts n ∙ ap (λ (r : HostRow). cond (eqb number n) (Some r) (get nat_cmp old.hosts n)) copy))
      (cases n (eqb number n) (get nat_cmp old.hosts n) (at n) (call_state.hosts n));
  rest = subst (λ (v : World). v ≡ record w { units = v.units; hosts = v.hosts }) (sym after)
      (ap (λ (v : World). record v { hosts = set_nth (edited w old.edits).hosts number h }) call_state.rest);
  names = λ name. ap (λ v. unit_named v name) after ∙ call_state.names name;
}
  where
    after : edited w new.edits ≡ edited_one (edited w old.edits) (edit.Host number h)
    after = ap (edited w) edits ∙ one_more w old.edits (edit.Host number h)

    same : (unit : ℕ) (o : Option UnitState) → IsUnitStateAt w (edited w old.edits) unit o → IsUnitStateAt w (edited w new.edits) unit o
    same unit None unit_state = ap (λ v. unit_at v unit) after ∙ unit_state
    same unit (Some k) unit_state = record { before = unit_state.before; here = ap (λ v. unit_at v unit) after ∙ unit_state.here; agreement = unit_state.agreement }

    at : (n : ℕ) → host_at (edited w new.edits) n ≡ cond (eqb number n) (Some h) (host_at (edited w old.edits) n)
    at n = ap (λ v. host_at v n) after ∙ nth-put (edited w old.edits).hosts number h n place.0 place.1

    cases : (n : ℕ) (b : Bool) (o : Option HostRow) → host_at (edited w new.edits) n ≡ cond b (Some h) (host_at (edited w old.edits) n)
        → IsHostAt w (edited w old.edits) n o → IsHostAt w (edited w new.edits) n (cond b (Some h) o)
    cases n true o is host = is
    cases n false None is host = is ∙ host
    cases n false (Some k) is host = is ∙ host

pub ruleset call_state_steps = (new_call_state, same_call_state, unit_state_more, taken_back, instance_put, class_put, host_put)

-- the number of a host is a place
pub stands_there : (w : World) (number : ℕ) (h : HostRow) → host_at w number ≡ Some h → HasPlace w number
stands_there w number h found = nth_found w.hosts number h found

-- a unit state that was read in the world before, of a workunit that was not changed
pub asked : (entry present : World) (unit : ℕ) (o : Option UnitState) → unit_at present unit ≡ unit_at entry unit → IsReadAt entry entry unit o
    → IsReadAt entry present unit o
asked entry present unit None same read = (same ∙ read.0, read.0)
asked entry present unit (Some k) same read = record { before = read.before; here = same ∙ read.here; agreement = read.agreement }

-- a workunit, its agreement and its instances, read one after another
pub read_in_turn : (w v u : World) (unit : ℕ) (row : Workunit) (a : Agreement) (xs : List Instance) (k : UnitState) → v ≡ w → u ≡ v
    → Some row ≡ workunit_at w unit → Some a ≡ agreement_at v unit → xs ≡ instances_at u unit
    → k ≡ record { unit = row; rule = row.class_rule; agreement = a; before = xs; present = xs }
    → IsReadAt w w unit (Some k)
read_in_turn w v u unit row a xs k same next is agrees lists made =
    subst (λ (l : UnitState). IsUnitStateOf w w unit l) (sym made)
    (found (unit_at w unit) refl is (agrees ∙ ap (λ (x : World). agreement_at x unit) same)
    (lists ∙ ap (λ (x : World). instances_at x unit) (next ∙ same)))
  where
    found : (o : Option UnitBook) → unit_at w unit ≡ o → Some row ≡ option_map (λ (b : UnitBook). b.unit) o → Some a ≡ option_map (agreement_of w) o
        → xs ≡ unwrap_or (option_map (λ (b : UnitBook). b.instances) o) []
        → IsUnitStateOf w w unit (record { unit = row; rule = row.class_rule; agreement = a; before = xs; present = xs })
    found None stands is agrees lists = absurd cc
    found (Some b) stands is agrees lists =
        let unit_is : b.unit ≡ row = cc in
        let agreed : agreement_of w b ≡ a = cc in
        let whole : b ≡ record { unit = row; instances = xs } =
        ap (λ (r : Workunit). record { unit = r; instances = b.instances }) unit_is ∙ ap (λ (ys : List Instance). record { unit = row; instances = ys }) (sym lists) in
        let here : unit_at w unit ≡ Some (record { unit = row; instances = xs }) = stands ∙ ap (λ (b : UnitBook). Some b) whole in
        record {
          before = here;
          here = here;
          agreement = ap (λ (r : Workunit). agreement_by w.apps r.app) (sym unit_is) ∙ agreed;
        }

-- the world with one more change
pub world_put : (w v : World) (old new : List Edit) (c : Edit) → v ≡ w → new ≡ old ++ c ∷ [] → edited v new ≡ edited_one (edited w old) c
world_put w v old new c same is = ap (λ (u : World). edited u new) same ∙ ap (edited w) is ∙ one_more w old c

pub ruleset put_steps = (world_put)
