-- Rows that represent items, each at its number.
use Rattle.std.proofs.Common.{◌≡◌, ℕ, zero, suc, ◌+◌, List, [], ◌∷◌, ◌++◌, length, take, Option, Some, refl, sym, ap, subst, ◌∙◌, arith}
use Rattle.std.specs.Prelude.{slice_get, unwrap_or, map, filter_map, option_map}
use Rattle.std.specs.List.{range_with_len, cons_option}
use Rattle.std.proofs.lemmas.List.{take_all}
use Rattle.std.proofs.lemmas.Option.{none-some}
use Rattle.sched_book.specs.Numbered.{map_from}
use Rattle.sched_book.specs.Places.{nth, held_by, host_credit}
use Rattle.sched_book.specs.declared.world.World.{World}
use Rattle.table_meaning.specs.declared.rows.StoredRow.{StoredRow}
use Rattle.table_worlds.specs.declared.keys.NumberedTable.TheVariants as table
use Rattle.table_worlds.specs.declared.keys.WorldKey.{WorldKey}
use Rattle.table_worlds.specs.declared.keys.WorldKey.TheVariants.{Account, App, Version, Class, Unit, Mark, Host}
use Rattle.table_worlds.specs.Keys.{row_in, other_row, numbered}
use Rattle.table_worlds.proofs.ByPlace.{nth_next}
use Rattle.table_worlds.proofs.UnitRowsRead.{take_one_more}
use Rattle.table_decoding.specs.Decoding.{of_account, of_app, of_version, of_class, of_unit, of_mark, of_host}

-- the item that a row represents
item_of : {X Y : Type 0} (f : ℕ → X → Y) (n : ℕ) (xs : List X) (i : ℕ) (y : Y) → slice_get (map_from n f xs) i ≡ Some y → (x : X) × (slice_get xs i ≡ Some x) × (y ≡ f (i + n) x)
item_of f n [] i y is = absurd (none-some y is)
item_of f n (x ∷ xs) zero y is = (x, refl, sym (ap (λ o. unwrap_or o y) is) ∙ ap (λ m. f m x) (let same : n ≡ 0 + n = omega arith in same))
item_of f n (x ∷ xs) (suc i) y is =
    let more = item_of f (n + 1) xs i y is in
    (more.0, more.1, more.2 ∙ ap (λ m. f m more.0) (let same : i + (n + 1) ≡ suc i + n = omega arith in same))

length-map_from : {X Y : Type 0} (f : ℕ → X → Y) (n : ℕ) (xs : List X) → length (map_from n f xs) ≡ length xs
length-map_from f n [] = refl
length-map_from f n (x ∷ xs) = ap suc (length-map_from f (n + 1) xs)

module _ {X Y : Type 0} (f : ℕ → X → Y) (xs : List X) (rows : List Y) (are : rows ≡ map_from 1 f xs) (i : ℕ) where
  -- the item that one of the rows represents
  pub item_at : (row : Y) → slice_get rows i ≡ Some row → (x : X) × (nth xs (i + 1) ≡ Some x) × (row ≡ f (i + 1) x)
  item_at row here = let x = item_of f 1 xs i row (sym (ap (λ l. slice_get l i) are) ∙ here) in (x.0, nth_next xs i ∙ x.1, x.2)

  -- the items that the rows so far represent, with one more
  pub one_more : (row : Y) (items more : List X) (item : X) → slice_get rows i ≡ Some row → items ≡ take i xs → more ≡ items ++ item ∷ []
      → ((x : X) → nth xs (i + 1) ≡ Some x → row ≡ f (i + 1) x → item ≡ x) → more ≡ take (i + 1) xs
  one_more row items more item here so_far pushed tells =
      let x = item_at row here in
      pushed ∙ ap (λ l. l ++ item ∷ []) so_far ∙ ap (λ y. take i xs ++ y ∷ []) (tells x.0 x.1 x.2) ∙ sym (take_one_more xs i x.0 (sym (nth_next xs i) ∙ x.1))

  -- all of them
  pub all_items : length rows ≡ i → take i xs ≡ xs
  all_items all = take_all i xs (let same = sym (length-map_from f 1 xs) ∙ sym (ap length are) ∙ all in omega (arith, same))

-- ---- the rows of a world, by number

numbered_rows : {X : Type 0} (row : WorldKey → Option StoredRow) (key : ℕ → WorldKey) (f : ℕ → X → StoredRow) (n : ℕ) (xs : List X)
    → ((i : ℕ) → row (key (i + n)) ≡ option_map (f (i + n)) (slice_get xs i)) → filter_map row (map key (range_with_len n (length xs))) ≡ map_from n f xs
numbered_rows row key f n [] each = refl
numbered_rows row key f n (x ∷ xs) each =
    ap (λ o. cons_option o (filter_map row (map key (range_with_len (n + 1) (length xs)))))
    (let same : n ≡ 0 + n = omega arith in subst (λ m. row (key m) ≡ Some (f m x)) (sym same) (each 0))
    ∙ ap (λ l. f n x ∷ l) (numbered_rows row key f (n + 1) xs (λ i. let same : suc i + n ≡ i + (n + 1) = omega arith in subst (λ m. row (key m) ≡ option_map (f m) (slice_get xs i)) same (each (suc i))))

module _ (w : World) where
  pub account_rows : filter_map (other_row w) (numbered table.Account (length w.accounts)) ≡ map_from 1 of_account w.accounts
  account_rows = numbered_rows (other_row w) Account of_account 1 w.accounts (λ i. ap (option_map (of_account (i + 1))) (nth_next w.accounts i))

  pub app_rows : filter_map (other_row w) (numbered table.App (length w.apps)) ≡ map_from 1 of_app w.apps
  app_rows = numbered_rows (other_row w) App of_app 1 w.apps (λ i. ap (option_map (of_app (i + 1))) (nth_next w.apps i))

  pub version_rows : filter_map (other_row w) (numbered table.Version (length w.versions)) ≡ map_from 1 (of_version w) w.versions
  version_rows = numbered_rows (other_row w) Version (of_version w) 1 w.versions (λ i. ap (option_map (of_version w (i + 1))) (nth_next w.versions i))

  pub class_rows : filter_map (other_row w) (numbered table.Class (length w.versions)) ≡ map_from 1 of_class w.versions
  class_rows = numbered_rows (other_row w) Class of_class 1 w.versions (λ i. ap (option_map (of_class (i + 1))) (nth_next w.versions i))

  pub unit_rows : filter_map (row_in w) (numbered table.Unit (length w.units)) ≡ map_from 1 (of_unit w) w.units
  unit_rows = numbered_rows (row_in w) Unit (of_unit w) 1 w.units (λ i. ap (option_map (of_unit w (i + 1))) (nth_next w.units i))

  pub mark_rows : filter_map (row_in w) (numbered table.Mark (length w.units)) ≡ map_from 1 of_mark w.units
  mark_rows = numbered_rows (row_in w) Mark of_mark 1 w.units (λ i. ap (option_map (of_mark (i + 1))) (nth_next w.units i))

  pub host_rows : filter_map (other_row w) (numbered table.Host (length w.hosts)) ≡ map_from 1 (of_host (λ id. length (held_by w id)) (host_credit w)) w.hosts
  host_rows = numbered_rows (other_row w) Host (of_host (λ id. length (held_by w id)) (host_credit w)) 1 w.hosts (λ i. ap (option_map (of_host (λ id. length (held_by w id)) (host_credit w) (i + 1))) (nth_next w.hosts i))
