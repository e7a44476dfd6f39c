-- Totals of hosts: one instance more, one workunit more, and how the totals of a world are reached.
use Rattle.std.proofs.Common.{◌≡◌, ℕ, ◌+◌, ◌*◌, Bool, true, false, cond, eqb, ◌&&◌, List, [], ◌∷◌, length, Option, Some, None, refl, sym, ap, ◌∙◌, arith}
use Rattle.std.proofs.Math.Nat.{mul-add}
use Rattle.std.proofs.lemmas.List.Sums.{sum_by-cons}
use Rattle.std.specs.Prelude.{replicate, count_by}
use Rattle.sched_book.specs.Count.{is_held}
use Rattle.sched_book.specs.Numbered.{map_from}
use Rattle.sched_book.specs.Places.{host_of, is_owned_by, is_held_by, option_any, credit_in}
use Rattle.sched_book.specs.Reports.{modify_nth}
use Rattle.sched_book.specs.declared.instance.Instance.{Instance}
use Rattle.sched_book.specs.declared.instance.UnitBook.{UnitBook}
use Rattle.sched_book.specs.declared.rows.App.{App}
use Rattle.sched_book.specs.declared.world.World.{World}
use Rattle.sched_book.proofs.PlaceLists.{places_counted}
use Rattle.sched_book.proofs.Numbered.{map_from-same, map_from-then, map_from-none, modify_nth-map_from}
use Rattle.table_worlds.specs.Totals.{more, with_instance, with_instances, with_unit, with_units, totals_of}
use Rattle.table_worlds.specs.declared.totals.Total.{Total}

abbrev pub total : ℕ → ℕ → Total
total held credit = record { held = held; credit = credit }

pub same_total : (h k c d : ℕ) → h ≡ k → c ≡ d → total h c ≡ total k d
same_total h k c d held credit = ap (λ m. total m c) held ∙ ap (total k) credit

-- an instance without an owner is counted for no host
pub none_more : (x : Instance) (credit : ℕ) (ts : List Total) → host_of x ≡ None → ts ≡ map_from 1 (with_instance x credit) ts
none_more x credit ts is =
    sym (map_from-none 1 _ (λ n t. ap (λ (o : Option ℕ). cond (option_any (λ m. eqb m n) o) (more t (cond (is_held x) 1 0) credit) t) is) ts)

-- any other instance is counted for its owner's host
pub one_more : (x : Instance) (host held credit : ℕ) (ts : List Total) → host_of x ≡ Some host → held ≡ cond (is_held x) 1 0
    → modify_nth (λ t. more t held credit) ts host ≡ map_from 1 (with_instance x credit) ts
one_more x host held credit ts is counts =
    modify_nth-map_from (λ t. more t held credit) ts host
    ∙ map_from-same 1 _ _ (λ n t. ap (λ (o : Option ℕ). cond (option_any (λ m. eqb m n) o) (more t held credit) t) (sym is)
    ∙ ap (λ m. cond (is_owned_by n x) (more t m credit) t) counts) ts

-- one instance and then the others are all of them
pub instance_first : (valid : Instance → Bool) (credit earned : ℕ) (x : Instance) (xs : List Instance) (n : ℕ) (t : Total) → earned ≡ cond (valid x) credit 0
    → with_instances valid credit xs n (with_instance x earned n t) ≡ with_instances valid credit (x ∷ xs) n t
instance_first valid credit earned x xs n t earns =
    cases (is_owned_by n x) (is_held x) (valid x) t (count_by (is_held_by n) xs) (count_by (λ y. is_owned_by n y && valid y) xs) earned earns
    ∙ same_total _ _ _ _ (ap (λ m. t.held + m) (sym (sum_by-cons (λ y. cond (is_held_by n y) 1 0) x xs)))
    (ap (λ m. t.credit + credit * m) (sym (sum_by-cons (λ y. cond (is_owned_by n y && valid y) 1 0) x xs)))
  where
    cases : (o h v : Bool) (t : Total) (a b c : ℕ) → c ≡ cond v credit 0
        → more (cond o (more t (cond h 1 0) c) t) a (credit * b) ≡ more t (cond (o && h) 1 0 + a) (credit * (cond (o && v) 1 0 + b))
    cases false h v t a b c is = same_total _ _ _ _ (omega arith) (ap (λ m. t.credit + credit * m) (let same : b ≡ 0 + b = omega arith in same))
    cases true h false t a b c is =
        same_total _ _ _ _ (omega arith) (ap (λ m. t.credit + m + credit * b) is ∙ ap (λ m. m + credit * b) (let same : t.credit + 0 ≡ t.credit = omega arith in same)
        ∙ ap (λ m. t.credit + credit * m) (let same : b ≡ 0 + b = omega arith in same))
    cases true h true t a b c is =
        same_total _ _ _ _ (omega arith) (ap (λ m. t.credit + m + credit * b) is
        ∙ (let all : credit * (1 + b) ≡ credit * 1 + credit * b = mul-add credit 1 b in
        let once : credit * 1 ≡ credit = omega arith in omega (arith, all, once)))

-- the counted and the remaining instances are still all of them, after one more is counted
pub instance_more : (valid : Instance → Bool) (credit earned : ℕ) (x : Instance) (xs : List Instance) (before after : List Total)
    → earned ≡ cond (valid x) credit 0 → after ≡ map_from 1 (with_instance x earned) before
    → map_from 1 (with_instances valid credit xs) after ≡ map_from 1 (with_instances valid credit (x ∷ xs)) before
instance_more valid credit earned x xs before after earns made =
    ap (map_from 1 (with_instances valid credit xs)) made
    ∙ map_from-then 1 _ _ before
    ∙ map_from-same 1 _ _ (λ n t. instance_first valid credit earned x xs n t earns) before

-- one workunit more is counted
pub unit_more : (apps : List App) (b : UnitBook) (bs : List UnitBook) (before after : List Total) → after ≡ map_from 1 (with_unit apps b) before
    → map_from 1 (with_units apps bs) after ≡ map_from 1 (with_units apps (b ∷ bs)) before
unit_more apps b bs before after made =
    ap (map_from 1 (with_units apps bs)) made
    ∙ map_from-then 1 _ _ before
    ∙ map_from-same 1 _ _ (λ n t. let held = sum_by-cons (λ (e : UnitBook). count_by (is_held_by n) e.instances) b bs in
    let credit = sum_by-cons (credit_in apps n) b bs in
    same_total _ _ _ _ (omega (arith, held)) (omega (arith, credit))) before

-- none is left
pub nothing_more : (t : Total) → more t 0 0 ≡ t
nothing_more t = same_total (t.held + 0) t.held (t.credit + 0) t.credit (omega arith) (omega arith)

pub no_instance_first : (valid : Instance → Bool) (credit n : ℕ) (t : Total) → with_instances valid credit [] n t ≡ t
no_instance_first valid credit n t = ap (more t 0) (let none : credit * 0 ≡ 0 = omega arith in none) ∙ nothing_more t

pub no_instance_left : (valid : Instance → Bool) (credit : ℕ) (ts : List Total) → map_from 1 (with_instances valid credit []) ts ≡ ts
no_instance_left valid credit ts = map_from-none 1 _ (no_instance_first valid credit) ts

pub no_unit_left : (apps : List App) (ts : List Total) → map_from 1 (with_units apps []) ts ≡ ts
no_unit_left apps ts = map_from-none 1 _ (λ n t. nothing_more t) ts

-- counted from zero, all workunits give the totals
from_replicate : {X Y Z : Type 0} (n : ℕ) (f : ℕ → Y → Z) (y : Y) (xs : List X) → map_from n f (replicate (length xs) y) ≡ map_from n (λ m x. f m y) xs
from_replicate n f y [] = refl
from_replicate n f y (x ∷ xs) = ap (λ zs. f n y ∷ zs) (from_replicate (n + 1) f y xs)

pub all_counted : (w : World) → map_from 1 (with_units w.apps w.units) (replicate (length w.hosts) (total 0 0)) ≡ totals_of w
all_counted w =
    from_replicate 1 (with_units w.apps w.units) (total 0 0) w.hosts
    ∙ map_from-same 1 _ _ (λ n h. let held = places_counted (is_held_by n) 1 w.units in same_total _ _ _ _ (omega (arith, held)) (omega arith)) w.hosts
