-- Words. What the changes of a call state touch.
use Rattle.std.specs.Prelude.{◌≡◌, ℕ, false, List, None}
use Rattle.std.specs.BTreeMap.{get}
use Rattle.std.specs.Ordering.{nat_cmp}
use Rattle.call_working_set.specs.WorkingSets.{AreAllOf, is_among}
use Rattle.call_working_set.specs.declared.call_state.CallState.{CallState}
use Rattle.table_changes.specs.Tallies.{AreTallies}
use Rattle.table_changes.specs.declared.tallies.Tallies.{Tallies}
use Rattle.table_changes.specs.declared.touched.Touched.{Touched}

-- a host that is not in the list is not in the call state and has no tally
abbrev pub HaveAll : CallState → Tallies → List ℕ → Type 0
HaveAll p tallies hosts =
    (host : ℕ) → is_among hosts host ≡ false
    → (get nat_cmp p.hosts host ≡ None) × (get nat_cmp tallies.before host ≡ None) × (get nat_cmp tallies.present host ≡ None)

-- These are the workunits in the call state, their tallies, and all hosts that are in the call state or have a tally.
pub record AreTouched (p : CallState) (t : Touched) : Type 0 where
  pub units : AreAllOf (get nat_cmp p.unit_states) t.units
  pub tallies : AreTallies (get nat_cmp p.unit_states) t.units t.tallies
  pub hosts : HaveAll p t.tallies t.hosts
