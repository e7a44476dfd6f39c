-- The lost jobs of a host are what it holds and its client does not list, each once, in their order.
use Rattle.std.proofs.Common.{◌≡◌, inl, inr, Bool, true, false, cond, not, ℕ, List, [], ◌∷◌, Option, Some, None, sym, refl, ap, ◌∙◌, subst}
use Rattle.std.specs.Prelude.{◌||◌, Contains}
use Rattle.std.specs.List.{list_any}
use Rattle.std.specs.Str.{bytes_eq}
use Rattle.std.proofs.lemmas.List.Elements.{All-nil, All-contains, All-contains_itself, All-weaker}
use Rattle.std.proofs.lemmas.List.Kept.{AllPairs-filter}
use Rattle.std.proofs.lemmas.Map.Views.{Contains-from_any}
use Rattle.std.proofs.lemmas.Slice.Eq.{bytes_eq-Decides}
use Rattle.sched_book.specs.Lost.{is_listed, unlisted, lost}
use Rattle.sched_book.specs.Places.{passes, is_held_by, held_by, is_before, name_at}
use Rattle.sched_book.specs.PlaceLaws.{IsLost, AreLost, LostAreHeldAndUnlisted}
use Rattle.sched_book.specs.declared.instance.Place.{Place}
use Rattle.sched_book.specs.declared.world.World.{World}
use Rattle.sched_book.proofs.Newest.{in_front, in_filter, none_in_nothing, passed_filter, passes_filter}
use Rattle.sched_book.proofs.PlacesWhere.{each_passes, none_missed, they_rise}
use Rattle.sched_book.proofs.Rising.{pairs_nil}

-- a name in a list is found, and a name that is found is in the list
found : (name : List ℕ) (names : List (List ℕ)) → Contains names name → list_any (bytes_eq name) names ≡ true
found name [] there = absurd (none_in_nothing name there)
found name (n ∷ names) there = elim (in_front n names name there) [
  | inl same ↦ ap (λ b. b || list_any (bytes_eq name) names) ((bytes_eq-Decides name n).1 (sym same))
  | inr later ↦ either (bytes_eq name n) (found name names later)
]
  where
    either : (b : Bool) → list_any (bytes_eq name) names ≡ true → (b || list_any (bytes_eq name) names) ≡ true
    either true is = refl
    either false is = is

of_list : (name : List ℕ) (names : List (List ℕ)) → list_any (bytes_eq name) names ≡ true → Contains names name
of_list name names is = Contains-from_any (λ x y. (bytes_eq-Decides x y).0) name names is

module _ (w : World) (host : ℕ) where
  -- no job is lost if lost jobs are not sent again, or if the client sent no list
  none_lost : (names : Option (List (List ℕ))) → ((p : Place) → IsLost w host names p → ⊥) → AreLost w host names []
  none_lost names never = record {
    each = All-nil (IsLost w host names);
    none_missed = λ p lost. absurd (never p lost);
    rising = pairs_nil (λ p q. is_before p q ≡ true);
  }

  module _ (names : List (List ℕ)) (resends : w.settings.resend_lost_results ≡ true) where
    abbrev missing : Place → Bool
    missing p = not (is_listed w names p)

    is_lost : (p : Place) → Contains (unlisted w host (Some names)) p → IsLost w host (Some names) p
    is_lost p there = record {
      resends = resends;
      listed = names;
      sent = refl;
      held =
          All-contains (λ q. passes w (λ b x. is_held_by host x) q ≡ true) (held_by w host) p (each_passes w (λ b x. is_held_by host x))
          (in_filter missing (held_by w host) p there);
      unlisted = λ has.
          (let listed : is_listed w names p ≡ true = found (name_at w p) names has in
          let never : false ≡ true = sym (ap not listed) ∙ passed_filter missing (held_by w host) p there in
          absurd cc);
    }

    is_among : (p : Place) → IsLost w host (Some names) p → Contains (unlisted w host (Some names)) p
    is_among p lost =
        passes_filter missing (held_by w host) p (none_missed w (λ b x. is_held_by host x) p lost.held) (cases (is_listed w names p) refl)
      where
        cases : (b : Bool) → is_listed w names p ≡ b → not (is_listed w names p) ≡ true
        cases false is = ap not is
        cases true is =
            let same : names ≡ lost.listed = (let both : Some names ≡ Some lost.listed = lost.sent in cc) in
            absurd (lost.unlisted (subst (λ ns. Contains ns (name_at w p)) same (of_list (name_at w p) names is)))

    are_lost : AreLost w host (Some names) (unlisted w host (Some names))
    are_lost = record {
      each =
          All-weaker (Contains (unlisted w host (Some names))) (IsLost w host (Some names)) is_lost (unlisted w host (Some names))
          (All-contains_itself (unlisted w host (Some names)));
      none_missed = is_among;
      rising = AllPairs-filter (λ p q. is_before p q ≡ true) missing (held_by w host) (they_rise w (λ b x. is_held_by host x));
    }

pub lost_are_held_and_unlisted : LostAreHeldAndUnlisted
lost_are_held_and_unlisted w host names = cases w.settings.resend_lost_results refl names
  where
    cases : (b : Bool) → w.settings.resend_lost_results ≡ b → (list : Option (List (List ℕ))) → AreLost w host list (cond b (unlisted w host list) [])
    cases false is list =
        none_lost w host list (λ p lost. (let never : false ≡ true = sym is ∙ lost.resends in absurd cc))
    cases true is None = none_lost w host None (λ p lost. (let never : None ≡ Some lost.listed = lost.sent in absurd cc))
    cases true is (Some list) = are_lost w host list is
