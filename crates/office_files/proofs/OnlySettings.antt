-- Whether a table has only keys of settings, found from its keys in turn.
use Rattle.std.proofs.Common.{◌≡◌, ◌↔◌, Bool, List, [], ◌∷◌, Option, Some, IsSome, IsTrue, String, Global, Ordering, Less, Equal, Greater, nat_cmp, string_bytes, refl, subst, sym}
use Rattle.std.proofs.lemmas.Bool.{and_parts, and_from, false≢true}
use Rattle.std.proofs.lemmas.Cmp.{nat_list_cmp_total}
use Rattle.std.proofs.lemmas.Map.Lookups.{exact_bytes}
use Rattle.std.specs.Cmp.{tied_itself}
use Rattle.std.specs.Cmp.Lexicographic.{slice_cmp}
use Rattle.std.specs.List.{list_all}
use Rattle.std.specs.Map.{keys_of}
use Rattle.std.specs.Ordering.{match_ordering}
use Rattle.toml.specs.Data.{Data, get_member}
use Rattle.toml.specs.View.{view, members_view}
use Rattle.toml.specs.declared.value.Value.{Value}
use Rattle.office_files.specs.SettingsTexts.{is_setting, HasOnlySettings}

abbrev Entry : Type 0
Entry = String Global × Value

-- each of these keys is that of a setting
abbrev pub all_settings : List (String Global) → Bool
all_settings keys = list_all (λ key. is_setting (string_bytes key)) keys

-- what is found at a key is the first value or a later one
found_at : (o : Ordering) (d : Data) (rest : Option Data) {P : Type 0} → IsSome (match_ordering o rest (Some d) rest) → (o ≡ Equal → P) → (IsSome rest → P) → P
found_at Less d rest found here later = later found
found_at Equal d rest found here later = here refl
found_at Greater d rest found here later = later found

found_later : (o : Ordering) (d : Data) (rest : Option Data) → IsSome rest → IsSome (match_ordering o rest (Some d) rest)
found_later Less d rest found = found
found_later Equal d rest found = refl
found_later Greater d rest found = found

keys_are_settings : (es : List Entry) → IsTrue (all_settings (keys_of es)) → HasOnlySettings (members_view es)
keys_are_settings [] all key found = absurd (false≢true found)
keys_are_settings (e ∷ es) all key found =
    let (first, others) = and_parts (is_setting (string_bytes e.0)) (all_settings (keys_of es)) all in
    found_at (slice_cmp nat_cmp key (string_bytes e.0)) (view e.1) (get_member key (members_view es)) found
    (λ same. subst (λ k. IsTrue (is_setting k)) (sym (exact_bytes key (string_bytes e.0) same)) first)
    (keys_are_settings es others key)

settings_are_keys : (es : List Entry) → HasOnlySettings (members_view es) → IsTrue (all_settings (keys_of es))
settings_are_keys [] only = refl
settings_are_keys (e ∷ es) only =
    and_from (is_setting (string_bytes e.0)) (all_settings (keys_of es))
    (only (string_bytes e.0) (rw (tied_itself nat_list_cmp_total (string_bytes e.0))))
    (settings_are_keys es (λ key found. only key (found_later (slice_cmp nat_cmp key (string_bytes e.0)) (view e.1) (get_member key (members_view es)) found)))

-- if a test is whether each key of a table is a setting's
pub only_settings : (es : List Entry) (test : Bool) → test ≡ all_settings (keys_of es) → IsTrue test ↔ HasOnlySettings (members_view es)
only_settings es test is = rw is (keys_are_settings es, settings_are_keys es)
