-- The names of kinds are UTF-8.
use Rattle.std.proofs.Common.{◌≡◌, ℕ, Bool, true, false, List, Option, Some, None, refl, sym, ◌∙◌, subst}
use Rattle.std.proofs.lemmas.Slice.Eq.{bytes_eq-Decides}
use Rattle.std.proofs.lemmas.Str.{is_utf8-from_IsUtf8}
use Rattle.std.specs.Prelude.{codes, if◌then◌else◌}
use Rattle.std.specs.Str.{bytes_eq, is_utf8}
use Rattle.stores.specs.Kinds.{kind_of}
use Rattle.texts.proofs.Words.{IsUtf8-word}
use Rattle.texts.specs.Words.{is_word}

-- bytes that are not UTF-8 are no word
other_word : (name word : List ℕ) → is_utf8 name ≡ false → is_word word ≡ true → bytes_eq name word ≡ false
other_word name word untold is = by (bytes_eq name word) refl
  where
    clash : {A : Type 0} → false ≡ true → A
    clash h = absurd (cc)

    by : (v : Bool) → bytes_eq name word ≡ v → bytes_eq name word ≡ false
    by false e = e
    by true e =
        let same = (bytes_eq-Decides name word).0 e in
        clash (sym untold ∙ subst (λ xs. is_utf8 xs ≡ true) (sym same) (is_utf8-from_IsUtf8 word (IsUtf8-word word is)))

pub no_kind : (name : List ℕ) → ◌≡◌ {A = Option (List ℕ)} None (if is_utf8 name then Some name else None) → None ≡ kind_of name
no_kind name told = by (is_utf8 name) refl told
  where
    by : (v : Bool) → is_utf8 name ≡ v → ◌≡◌ {A = Option (List ℕ)} None (if v then Some name else None) → None ≡ kind_of name
    by true e h = absurd (cc)
    by false e h =
        rw (
          other_word name (codes "accounts") e refl,
          other_word name (codes "apps") e refl,
          other_word name (codes "versions") e refl,
          other_word name (codes "workunits") e refl,
        ) refl
