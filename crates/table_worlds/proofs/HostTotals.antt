-- The totals of hosts, by their numbers.
use Rattle.std.proofs.Common.{◌≡◌, ℕ, zero, suc, ◌+◌, List, [], ◌∷◌, Some, option_map, length, refl, sym, ap, ◌∙◌, arith}
use Rattle.std.specs.Prelude.{slice_get, unwrap_or}
use Rattle.sched_book.specs.Numbered.{map_from}
use Rattle.sched_book.specs.Places.{nth, host_at, held_by, host_credit}
use Rattle.sched_book.specs.declared.rows.HostRow.{HostRow}
use Rattle.sched_book.specs.declared.world.World.{World}
use Rattle.table_meaning.specs.declared.rows.StoredRow.{StoredRow}
use Rattle.table_meaning.specs.declared.rows.StoredRow.TheVariants as stored
use Rattle.table_meaning.specs.Worlds.{host_row}
use Rattle.sched_book.proofs.PlacesOf.{nth-suc}
use Rattle.table_worlds.specs.Totals.{total_of, totals_of}
use Rattle.table_worlds.specs.declared.totals.Total.{Total}

pub slice_get-map_from : {X Y : Type 0} (f : ℕ → X → Y) (n : ℕ) (xs : List X) (i : ℕ) → slice_get (map_from n f xs) i ≡ option_map (f (i + n)) (slice_get xs i)
slice_get-map_from f n [] i = refl
slice_get-map_from f n (x ∷ xs) zero = ap (λ m. Some (f m x)) (let same : n ≡ 0 + n = omega arith in same)
slice_get-map_from f n (x ∷ xs) (suc i) = slice_get-map_from f (n + 1) xs i ∙ ap (λ m. option_map (f m) (slice_get xs i)) (let same : i + (n + 1) ≡ suc i + n = omega arith in same)

nth-map_from : {X Y : Type 0} (f : ℕ → X → Y) (xs : List X) (n : ℕ) → nth (map_from 1 f xs) n ≡ option_map (f n) (nth xs n)
nth-map_from f xs zero = refl
nth-map_from f xs (suc i) =
    nth-suc (map_from 1 f xs) i
    ∙ slice_get-map_from f 1 xs i
    ∙ ap (λ m. option_map (f m) (slice_get xs i)) (let more : i + 1 ≡ suc i = omega arith in more)
    ∙ ap (option_map (f (suc i))) (sym (nth-suc xs i))

-- the row made of a host and its total is the world's row of that host
pub host_row_counted : (w : World) (totals : List Total) (id : ℕ) (h : HostRow) (t : Total) (row : StoredRow) → host_at w id ≡ Some h → nth totals id ≡ Some t → totals ≡ totals_of w
    → row ≡ stored.Host (host_row t.held t.credit id h) → Some row ≡ option_map (λ g. stored.Host (host_row (length (held_by w id)) (host_credit w id) id g)) (host_at w id)
host_row_counted w totals id h t row stands total counted is =
    let found : Some t ≡ Some (total_of w id) =
    sym total ∙ ap (λ ts. nth ts id) counted ∙ nth-map_from (λ n g. total_of w n) w.hosts id ∙ ap (option_map (λ (g : HostRow). total_of w id)) stands in
    let same : t ≡ total_of w id = ap (λ o. unwrap_or o t) found in
    ap Some (is ∙ ap (λ (u : Total). stored.Host (host_row u.held u.credit id h)) same)
    ∙ ap (option_map (λ (g : HostRow). stored.Host (host_row (length (held_by w id)) (host_credit w id) id g))) (sym stands)
