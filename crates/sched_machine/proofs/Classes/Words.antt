-- The class of a version that a host runs is a word.
use Rattle.std.proofs.Common.{◌≡◌, ℕ, Bool, true, false, cond, List, Option, Some, None, subst}
use Rattle.std.specs.Prelude.{MatchOption}
use Rattle.std.specs.List.{list_any}
use Rattle.std.specs.Str.{bytes_eq}
use Rattle.std.proofs.lemmas.List.Elements.{All-contains}
use Rattle.sched_book.specs.Fits.{version_among, version_for, version_at_unit}
use Rattle.sched_book.specs.Laws.{HasNoVersion, IsVersionFor}
use Rattle.sched_book.specs.Places.{unit_at}
use Rattle.sched_book.specs.Sound.{IsSoundVersion, Sound}
use Rattle.sched_book.specs.declared.instance.UnitBook.{UnitBook}
use Rattle.sched_book.specs.declared.rows.App.{App}
use Rattle.sched_book.specs.declared.rows.HostRow.{HostRow}
use Rattle.sched_book.specs.declared.rows.Version.{Version}
use Rattle.sched_book.specs.declared.world.World.{World}
use Rattle.sched_book.proofs.Newest.{version_is_newest_of_first}
use Rattle.sched_machine.proofs.OptionParts.{then_by}
use Rattle.texts.specs.Words.{IsWord}

-- because the version exists
for_app : (w : World) → Sound w → (h : HostRow) (app : List ℕ) (v : Version) → version_for w h app ≡ Some v → IsWord v.class
for_app w sound h app v is = cases (list_any (λ (a : App). bytes_eq a.name app) w.apps) is
  where
    cases : (b : Bool) → cond b (version_among w.versions app h.platforms) None ≡ Some v → IsWord v.class
    cases false none = absurd cc
    cases true found =
        let known = subst (λ (o : Option Version). MatchOption o (HasNoVersion w.versions app h.platforms) (IsVersionFor w.versions app h.platforms)) found
        (version_is_newest_of_first w.versions app h.platforms) in
        (All-contains (IsSoundVersion w.apps) w.versions v sound.rows.versions known.stands).limits.class

pub version_word : (w : World) → Sound w → (h : HostRow) (unit : ℕ) (v : Version) → version_at_unit w h unit ≡ Some v → IsWord v.class
version_word w sound h unit v is =
    let b = then_by (λ (b : UnitBook). version_for w h b.unit.app) (unit_at w unit) v is in for_app w sound h b.0.unit.app v b.2
