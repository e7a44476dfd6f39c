-- A new store agrees with no arrivals, and an upgraded one with what it agreed with.
use Rattle.std.proofs.Common.{◌≡◌, ℕ, suc, List, [], ◌∷◌, ◌++◌, length, refl, sym, ◌∙◌, ap, subst, inl}
use Rattle.sched_book.specs.Limits.{AreSettingsInLimits}
use Rattle.sched_book.specs.Sound.{Sound}
use Rattle.sched_book.specs.declared.settings.Settings.{Settings}
use Rattle.stores.specs.Acting.{Parts}
use Rattle.stores.specs.Eras.{this_era, new_upgrade_points}
use Rattle.stores.specs.Held.{Held, IsLeft, IsNew}
use Rattle.pasts.specs.ByNumber.{calls_by_number}
use Rattle.pasts.specs.UpgradePoints.{IsInEra}
use Rattle.pasts.specs.Stands.{Past}
use Rattle.pasts.proofs.Carried.{new_tables_stand, stands_same}
use Rattle.pasts.proofs.UpgradePoints.{new_pasts_are_in_era, upgrades_lead_on}
use Rattle.sched_machine.proofs.Moves.Sound.{the_empty_world_is_sound}
use Rattle.message_engine.specs.Stores.{tables_by}
use Rattle.message_engine.proofs.EntriesKept.{left_same, left_sound}
use Rattle.sched_server.specs.Arrivals.{Answered, IsPastOf, answered, StandsFor}
use Rattle.sched_server.specs.Laws.{NewStoresStand, UpgradedStands}
use Rattle.sched_server.proofs.Stopped.{left_stands}

-- what new tables hold agrees with no messages
pub new_held_stands : (settings : Settings) (held : Held) → IsNew settings held → AreSettingsInLimits settings → StandsFor settings.operator_key held (new_upgrade_points this_era) []
new_held_stands settings held new limits = record {
  past = [];
  tells = tt;
  in_era = new_pasts_are_in_era this_era;
  keyed = ap (λ w. w.settings.operator_key) (sym new.world_is);
  stands = new_tables_stand settings (tables_by held)
      (record { world = new.world_is; calls = λ key. ap (λ v. calls_by_number v held.calls key) new.world_is; batches = new.batches_are });
  sound = record { world = subst Sound (sym new.world_is) (the_empty_world_is_sound settings limits); hosts = λ host beyond. new.calls_are host };
}

pub new_stores_stand : {S : Type 0} (store : Parts S)
    → ((s : S) → store.honest s → store.well_kept s → Sound (store.holds s).world → (h : Held) → store.may_leave s h → IsLeft (store.holds s) h)
    → NewStoresStand store
new_stores_stand store settled s settings honest kept new limits =
    let stands = new_held_stands settings (store.holds s) new limits in record {
      held = λ _. (kept, stands);
      left = λ h may. inl (left_stands settings.operator_key (store.holds s) h (new_upgrade_points this_era) [] (settled s honest kept stands.sound.world h may) stands);
    }

-- a past has as many messages as there are answered arrivals
as_many : (key : List ℕ) (before : List Answered) (past : Past) → IsPastOf key before past → length before ≡ length past
as_many key [] [] tells = refl
as_many key [] (h ∷ past) tells = absurd tells
as_many key (a ∷ before) [] tells = absurd tells
as_many key (a ∷ before) (h ∷ past) tells = ap suc (as_many key before past tells.1)

pub upgraded_stands : UpgradedStands
upgraded_stands era key old new points before left st =
    let P : ℕ → Type 0 = λ point. IsInEra (suc era) (points ++ point ∷ []) st.past in record {
      past = st.past;
      tells = st.tells;
      in_era = subst P (sym (as_many key (answered before) st.past st.tells)) (upgrades_lead_on era points st.past st.in_era);
      keyed = st.keyed ∙ ap (λ w. w.settings.operator_key) (sym left.world_is);
      stands = (st.stands.0, stands_same _ _ st.past st.stands.0 (left_same old new left) st.stands.1);
      sound = left_sound old new left st.sound;
    }
