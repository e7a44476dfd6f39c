-- Rows made from items, each by its number, compared with these items.
use Rattle.std.proofs.Common.{◌≡◌, ◌≢◌, ℕ, suc, ◌+◌, List, [], ◌∷◌, ◌++◌, length, take, Some, option_map, refl, sym, ap, ◌∙◌, arith}
use Rattle.std.specs.Prelude.{slice_get, unwrap_or}
use Rattle.std.proofs.lemmas.List.{take_more, take_all, length-take-le}
use Rattle.std.proofs.lemmas.Option.{slice_get_within, get_or_from_slice_get}
use Rattle.sched_book.specs.Numbered.{map_from}
use Rattle.table_worlds.proofs.HostTotals.{slice_get-map_from}

-- the first `i` items and one more
pub take_one_more : {X : Type 0} (xs : List X) (i : ℕ) (x : X) → slice_get xs i ≡ Some x → take (i + 1) xs ≡ take i xs ++ x ∷ []
take_one_more xs i x is = take_more xs i x (slice_get_within xs i x is) ∙ ap (λ y. take i xs ++ y ∷ []) (get_or_from_slice_get xs i x x is)

module _ {X Y : Type 0} (f : ℕ → X → Y) where
  pub length-map_from : (n : ℕ) (xs : List X) → length (map_from n f xs) ≡ length xs
  length-map_from n [] = refl
  length-map_from n (x ∷ xs) = ap suc (length-map_from (n + 1) xs)

  pub map_from_more : (n : ℕ) (xs : List X) (x : X) → map_from n f (xs ++ x ∷ []) ≡ map_from n f xs ++ f (length xs + n) x ∷ []
  map_from_more n [] x = ap (λ m. f m x ∷ []) (let same : n ≡ 0 + n = omega arith in same)
  map_from_more n (y ∷ xs) x =
      ap (λ l. f n y ∷ l) (map_from_more (n + 1) xs x ∙ ap (λ m. map_from (n + 1) f xs ++ f m x ∷ []) (let same : length xs + (n + 1) ≡ suc (length xs) + n = omega arith in same))

  module _ (ys : List Y) (xs : List X) (i : ℕ) where
    -- the row at an index is made from the item there
    pub written_at : ys ≡ map_from 1 f xs → slice_get ys i ≡ option_map (f (i + 1)) (slice_get xs i)
    written_at are = ap (λ l. slice_get l i) are ∙ slice_get-map_from f 1 xs i

    -- if the first `i` rows are those of the first `i` items, and these are all, so are all rows
    pub first_all : length ys ≡ length xs → length xs ≡ i → take i ys ≡ map_from 1 f (take i xs) → ys ≡ map_from 1 f xs
    first_all few all are =
        sym (take_all i ys (omega (arith, few, all))) ∙ are ∙ ap (map_from 1 f) (take_all i xs (omega (arith, all)))

    module _ (y : Y) (x : X) (row : slice_get ys i ≡ Some y) (item : slice_get xs i ≡ Some x) where
      -- the first `i` rows, and one more
      pub first_more : y ≡ f (i + 1) x → take i ys ≡ map_from 1 f (take i xs) → take (i + 1) ys ≡ map_from 1 f (take (i + 1) xs)
      first_more is are =
          let within = slice_get_within xs i x item in
          let count : length (take i xs) ≡ i = length-take-le i xs (omega (arith, within)) in
          take_one_more ys i y row ∙ ap (λ l. l ++ y ∷ []) are ∙ ap (λ z. map_from 1 f (take i xs) ++ z ∷ []) (is ∙ ap (λ n. f (n + 1) x) (sym count)) ∙ sym (map_from_more 1 (take i xs) x)
          ∙ ap (map_from 1 f) (sym (take_one_more xs i x item))

      -- one row that is another
      pub one_other : y ≢ f (i + 1) x → ys ≢ map_from 1 f xs
      one_other other are = other (ap (λ o. unwrap_or o y) (sym row ∙ written_at are ∙ ap (option_map (f (i + 1))) item))
