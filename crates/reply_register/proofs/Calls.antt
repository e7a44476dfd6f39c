-- What the map of an ordered list of entries has at a key.
use Rattle.std.proofs.Common.{◌≡◌, ◌≢◌, ℕ, List, [], ◌∷◌, Bool, true, false, cond, refl, sym, ◌∙◌, ap}
use Rattle.std.specs.Prelude.{◌&&◌, if◌then◌else◌, Option, Some, unwrap_or}
use Rattle.std.specs.Str.{bytes_eq}
use Rattle.std.specs.BTreeMap.{is_at}
use Rattle.std.specs.Cmp.{IsTotalOrder, eq_by_cmp_equiv}
use Rattle.std.specs.Cmp.Lexicographic.{slice_cmp, nat_list_cmp_total}
use Rattle.std.specs.FinMap as map
use Rattle.std.specs.FinMap.{find, get-from_entries, get-insert, same_map}
use Rattle.std.specs.Map.{lookup}
use Rattle.std.specs.Ordering.{nat_cmp, eq_by_cmp, is_eq, ordering_then}
use Rattle.std.specs.declared.cmp.Ordering.{Ordering}
use Rattle.std.specs.declared.cmp.Ordering.TheVariants.{Less, Equal, Greater}
use Rattle.std.proofs.lemmas.Cmp.{on_total, then_total}
use Rattle.std.proofs.lemmas.Map.Lookups.{CmpEqualImpliesEq, exact_pairs, exact_bytes}
use Rattle.std.proofs.lemmas.Map.Text.{is_eq-slice_cmp}
use Rattle.std.proofs.lemmas.Map.Views.{tells_apart}
use Rattle.reply_register.specs.declared.kept.Kept.{Kept}
use Rattle.reply_register.specs.declared.key.Key.{Key}
use Rattle.reply_register.specs.Keeping.{calls_of}
use Rattle.reply_register.specs.Keys.{key_cmp, same_key}

-- keys that compare as equal are equal
exact_keys : CmpEqualImpliesEq key_cmp
exact_keys a b alike =
    ap (λ (texts : List ℕ × List ℕ). record { authenticator = texts.0; host_cpid = texts.1 })
    (exact_pairs (slice_cmp nat_cmp) (slice_cmp nat_cmp) exact_bytes exact_bytes (a.authenticator, a.host_cpid) (b.authenticator, b.host_cpid) alike)

keys_total : IsTotalOrder key_cmp
keys_total = then_total (on_total (λ key. key.authenticator) nat_list_cmp_total) (on_total (λ key. key.host_cpid) nat_list_cmp_total)

level_both : (r s : Ordering) → is_eq (ordering_then r s) ≡ (is_eq r && is_eq s)
level_both Less s = refl
level_both Equal s = refl
level_both Greater s = refl

-- keys compare as equal exactly if their texts are the same
pub eq_by_cmp-keys : (a b : Key) → eq_by_cmp key_cmp a b ≡ same_key a b
eq_by_cmp-keys a b =
    level_both (slice_cmp nat_cmp a.authenticator b.authenticator) (slice_cmp nat_cmp a.host_cpid b.host_cpid)
    ∙ ap (λ level. level && is_eq (slice_cmp nat_cmp a.host_cpid b.host_cpid)) (is_eq-slice_cmp a.authenticator b.authenticator)
    ∙ ap (λ level. bytes_eq a.authenticator b.authenticator && level) (is_eq-slice_cmp a.host_cpid b.host_cpid)

-- keys with the same texts are equal
pub same_key-is : (a b : Key) → same_key a b ≡ true → a ≡ b
same_key-is a b same = tells_apart exact_keys a b (eq_by_cmp-keys a b ∙ same)

abbrev call_at : List (Key × List Kept) → Key → Option (List Kept)
call_at entries key = lookup (is_at (key_cmp key)) entries

find_call : (entries : List (Key × List Kept)) (key : Key) → find key_cmp key entries ≡ call_at entries key
find_call [] key = refl
find_call (e ∷ entries) key = ap (cond (is_at (key_cmp key) e.0) (Some e.1)) (find_call entries key)

-- what the map that the entries make has at a key
pub get_call : (entries : List (Key × List Kept)) (key : Key) → map.get (map.from_entries {R = key_cmp} entries) key ≡ call_at entries key
get_call entries key = get-from_entries keys_total entries key ∙ find_call entries key

-- entries that differ at one key make maps that differ there
pub one_kept : (entries after : List (Key × List Kept)) (key : Key) (kept : List Kept)
    → ((q : Key) → call_at after q ≡ cond (is_at (key_cmp key) q) (Some kept) (call_at entries q))
    → map.from_entries {R = key_cmp} after ≡ map.insert (map.from_entries entries) key kept
one_kept entries after key kept differs =
    same_map keys_total exact_keys _ _ (λ q.
    get_call after q ∙ differs q
    ∙ ap (λ level. cond level (Some kept) (call_at entries q)) ((eq_by_cmp_equiv keys_total).symm key q)
    ∙ sym (get-insert keys_total (map.from_entries entries) key kept q ∙ ap (cond (is_at (key_cmp q) key) (Some kept)) (get_call entries q)))

-- what is kept of each key after a call of one
pub get_kept : (calls : map.FinMap key_cmp (List Kept)) (key : Key) (kept : List Kept) (asked : Key)
    → map.get (map.insert calls key kept) asked ≡ (if same_key asked key then Some kept else map.get calls asked)
get_kept calls key kept asked =
    get-insert keys_total calls key kept asked ∙ ap (λ level. cond level (Some kept) (map.get calls asked)) (eq_by_cmp-keys asked key)

unless : {X : Type 0} (test : Bool) (x y : X) → (test ≡ true → ⊥) → cond test x y ≡ y
unless true x y never = absurd (never refl)
unless false x y never = refl

pub get_other : (calls : map.FinMap key_cmp (List Kept)) (key other : Key) (kept : List Kept) → other ≢ key
    → map.get (map.insert calls key kept) other ≡ map.get calls other
get_other calls key other kept apart =
    get-insert keys_total calls key kept other
    ∙ unless (eq_by_cmp key_cmp other key) (Some kept) (map.get calls other) (λ level. apart (tells_apart exact_keys other key level))

-- what a look-up of the entries finds is what is kept of the key
pub found_call : (entries : List (Key × List Kept)) (key : Key) (found : Option (List Kept)) (calls : map.FinMap key_cmp (List Kept))
    → found ≡ call_at entries key → map.from_entries entries ≡ calls → unwrap_or found [] ≡ calls_of calls key
found_call entries key found calls is view =
    ap (λ o. unwrap_or o []) (is ∙ sym (get_call entries key) ∙ ap (λ calls. map.get calls key) view)
