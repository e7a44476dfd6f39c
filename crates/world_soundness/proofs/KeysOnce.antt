-- Searching rows for a key that was seen, one row at a time.
use Rattle.std.proofs.Common.{◌≡◌, ◌≢◌, Bool, true, false, List, get_or, All, sym, refl, ap, ◌∙◌}
use Rattle.std.specs.Prelude.{not}
use Rattle.std.specs.List.{list_any}
use Rattle.std.proofs.lemmas.Bool.{false≢true}
use Rattle.std.proofs.lemmas.List.Folds.{list_any_at, Any-from_list_any}
use Rattle.sched_book.specs.Keys.{Key, same_key}
use Rattle.sched_book.proofs.KeysSeen.{same_key-Decides}

-- the set's answer to a key says whether it was seen
pub was_seen : (first seen : Bool) → first ≡ not seen → first ≡ false → seen ≡ true
was_seen first true is says = refl
was_seen first false is says = absurd (false≢true (sym says ∙ is))

pub was_new : (first seen : Bool) → first ≡ not seen → first ≡ true → seen ≡ false
was_new first true is says = sym says ∙ is
was_new first false is says = refl

module _ {X : Type 0} (key_of : X → Key) (rows : List X) where
  -- a key that was not seen differs from theirs
  pub is_new : (key : Key) → list_any (λ y. same_key key (key_of y)) rows ≡ false → All (λ y. key_of y ≢ key) rows
  is_new key none k d lt e =
      false≢true (sym none ∙ list_any_at (λ y. same_key key (key_of y)) rows k d lt ((same_key-Decides key (key_of (get_or rows k d))).1 (sym e)))

  -- a key that was seen is one of theirs
  pub came_by : (key : Key) → list_any (λ y. same_key key (key_of y)) rows ≡ true → All (λ y. key_of y ≢ key) rows → ⊥
  came_by key seen others =
      let found = Any-from_list_any (λ y. same_key key (key_of y)) rows seen in
      others found.0 found.1 found.2 (ap key_of found.3 ∙ sym ((same_key-Decides key (key_of found.1)).0 found.4))
