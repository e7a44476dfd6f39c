-- Tables that hold the rows of settings and nothing else hold the empty world with these settings.
use Rattle.std.proofs.Common.{◌≡◌, ℕ, zero, suc, Bool, true, false, ◌||◌, List, [], codes, Some, None, option_map, option_and_then, refl, sym, ap, ◌∙◌, true≢false}
use Rattle.std.specs.Str.{bytes_eq}
use Rattle.std.specs.List.{AllByRecursion}
use Rattle.std.proofs.lemmas.Slice.Eq.{bytes_eq-Decides}
use Rattle.sched_book.specs.Places.{nth}
use Rattle.sched_book.specs.Step.{empty_world}
use Rattle.sched_book.specs.declared.settings.Settings.{Settings}
use Rattle.sched_book.proofs.PlacesOf.{nth-suc}
use Rattle.table_meaning.specs.declared.rows.StoredRow.TheVariants as stored
use Rattle.table_meaning.specs.Rows.{RowKey, setting_key, account_key, app_key, version_key, class_key, unit_key, mark_key, host_key, instance_key, kept_key, batch_key, row_key_of, same_row_key}
use Rattle.table_meaning.specs.Holding.{Contents, with_stored_rows}
use Rattle.table_meaning.specs.Worlds.{setting_in, contents_of}
use Rattle.table_meaning.proofs.Keys.{is_put, settled, key_itself}
use Rattle.table_worlds.specs.RowsOf.{setting_rows}

-- an empty list has no item at a place
none_there : {X : Type 0} (n : ℕ) → nth {X = X} [] n ≡ None
none_there zero = refl
none_there (suc i) = nth-suc [] i

module _ (s : Settings) where
  abbrev empty : Contents
  empty = contents_of (empty_world s) (λ _ _. None) (λ _ _. None)

  pub each_stands : AllByRecursion (λ r. empty (row_key_of r) ≡ Some r) (setting_rows s)
  each_stands = (refl, (refl, (refl, (refl, (refl, (refl, (refl, (refl, tt))))))))

  -- a name that is none of these
  other_name : (name other : List ℕ) → same_row_key (setting_key name) (setting_key other) ≡ false → bytes_eq name other ≡ false
  other_name name other apart = cases (bytes_eq name other) refl
    where
      cases : (b : Bool) → bytes_eq name other ≡ b → b ≡ false
      cases true same = absurd (true≢false (sym (ap (λ n. same_row_key (setting_key n) (setting_key other)) ((bytes_eq-Decides name other).0 same) ∙ key_itself (setting_key other)) ∙ apart))
      cases false same = refl

  first : (a b : Bool) → (a || b) ≡ false → a ≡ false
  first true b none = absurd (true≢false none)
  first false b none = refl

  rest : (a b : Bool) → (a || b) ≡ false → b ≡ false
  rest true b none = absurd (true≢false none)
  rest false b none = none

  no_setting : (name : List ℕ) → is_put (setting_rows s) (setting_key name) ≡ false → None ≡ setting_in s name
  no_setting name n0 =
      let n1 = rest _ _ n0 in
      let n2 = rest _ _ n1 in
      let n3 = rest _ _ n2 in
      let n4 = rest _ _ n3 in
      let n5 = rest _ _ n4 in
      let n6 = rest _ _ n5 in
      let n7 = rest _ _ n6 in
      let e0 : bytes_eq name (codes "schema") ≡ false = other_name name (codes "schema") (first _ _ n0) in
      let e1 : bytes_eq name (codes "daily_result_quota") ≡ false = other_name name (codes "daily_result_quota") (first _ _ n1) in
      let e2 : bytes_eq name (codes "max_hosts") ≡ false = other_name name (codes "max_hosts") (first _ _ n2) in
      let e3 : bytes_eq name (codes "max_wus_in_progress") ≡ false = other_name name (codes "max_wus_in_progress") (first _ _ n3) in
      let e4 : bytes_eq name (codes "max_wus_to_send") ≡ false = other_name name (codes "max_wus_to_send") (first _ _ n4) in
      let e5 : bytes_eq name (codes "operator_key") ≡ false = other_name name (codes "operator_key") (first _ _ n5) in
      let e6 : bytes_eq name (codes "request_delay") ≡ false = other_name name (codes "request_delay") (first _ _ n6) in
      let e7 : bytes_eq name (codes "resend_lost_results") ≡ false = other_name name (codes "resend_lost_results") (first _ _ n7) in
      rw (e0, e1, e2, e3, e4, e5, e6, e7) refl

  pub others_none : (key : RowKey) → is_put (setting_rows s) key ≡ false → None ≡ empty key
  others_none (setting_key name) none = ap (option_map (λ v. stored.Setting (record { name = name; value = v }))) (no_setting name none)
  others_none (account_key id) none = ap (option_map _) (sym (none_there id))
  others_none (app_key id) none = ap (option_map _) (sym (none_there id))
  others_none (version_key id) none = ap (option_map _) (sym (none_there id))
  others_none (class_key id) none = ap (option_map _) (sym (none_there id))
  others_none (unit_key id) none = ap (option_map _) (sym (none_there id))
  others_none (mark_key id) none = ap (option_map _) (sym (none_there id))
  others_none (host_key id) none = ap (option_map _) (sym (none_there id))
  others_none (instance_key unit num) none = ap (option_and_then _) (sym (none_there unit))
  others_none (kept_key host slot) none = refl
  others_none (batch_key kind name) none = refl

  pub new_world : (key : RowKey) → with_stored_rows (λ k. None) (setting_rows s) key ≡ empty key
  new_world = settled (λ k. None) empty (setting_rows s) each_stands others_none
