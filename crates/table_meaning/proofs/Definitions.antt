-- What each CREATE text makes, and what all of them make from an empty database or from the tables of an earlier schema.
use Rattle.std.proofs.Common.{◌≡◌, ℕ, zero, suc, ◌+◌, ◌≤◌, cond, List, [], ◌∷◌, ◌++◌, length, take, refl, sym, ap, subst, arith}
use Rattle.std.specs.List.{AllByRecursion}
use Rattle.std.proofs.lemmas.List.{length-take}
use Rattle.sqlite_schema.specs.declared.schema.Schema.{Schema}
use Rattle.sqlite_trees.specs.Tree.{Trees}
use Rattle.sqlite_tied.specs.Compute.{everything}
use Rattle.sqlite.specs.Effect.{Database}
use Rattle.sqlite.specs.Listing.{understood}
use Rattle.table_meaning.specs.Schema.{no_schema, parts, parts_at, schema_at, newest}
use Rattle.table_meaning.specs.Texts.{Made, definitions}
use Rattle.table_meaning.specs.Making.{with_made, MakeInTurn, AreFree, AreStillToMake, no_rows, rows_at}
use Rattle.table_meaning.specs.Schemas.{IsEarlier, definitions_between}
use Rattle.table_meaning.proofs.EachSchema.{made_by, of_schema, of_step}
use Rattle.table_meaning.proofs.SchemaTables.{each_tree}

-- the texts of the first schema make it, in turn
first_make : MakeInTurn no_schema (definitions_between 0 1)
unfolding understood everything
first_make =
    ((refl, refl, refl), refl, (refl, refl), ((refl, refl, refl), refl, (refl, refl), ((refl, refl, refl), refl, (refl, refl), ((refl, refl, refl), refl, (refl, refl), ((refl, refl, refl), refl, (refl, refl), ((refl, refl, refl), refl, (refl, refl), ((refl, refl, refl), refl, (refl, refl), ((refl, refl, refl), refl, (refl, refl), ((refl, refl, refl), refl, (refl, refl), ((refl, refl, refl), refl, (refl, refl), ((refl, refl, refl), refl, (refl, refl), ((refl, refl, refl), refl, (refl, refl), ((refl, refl, refl), refl, (refl, refl), tt)))))))))))))

make_then : (schema : Schema) (first more : List (List ℕ × Made)) → MakeInTurn schema first → MakeInTurn (made_by schema first) more → MakeInTurn schema (first ++ more)
make_then schema [] more makes then = then
make_then schema (d ∷ first) more makes then = (makes.0, makes.1, makes.2, make_then (with_made schema d.1) first more makes.3 then)

-- and so do the texts of each schema, one step after another
make_in_turn : (n : ℕ) → n ≤ newest → MakeInTurn no_schema (definitions_between 0 n)
make_in_turn zero within = tt
make_in_turn (suc zero) within = first_make
make_in_turn (suc (suc n)) within =
    let it = of_step (suc n) (omega arith, omega (arith, within)) in
    let next : suc n + 1 ≡ suc (suc n) = omega arith in
    let made = (of_schema (suc n) (omega arith, omega (arith, within))).made in
    let both = make_then no_schema (definitions_between 0 (suc n)) (definitions_between (suc n) (suc n + 1)) (make_in_turn (suc n) (omega (arith, within)))
    (subst (λ s. MakeInTurn s (definitions_between (suc n) (suc n + 1))) (sym made) it.makes) in
    subst (λ m. MakeInTurn no_schema (definitions_between 0 m)) next (subst (MakeInTurn no_schema) (sym it.split) both)

-- the texts of each schema make that schema
makes_schema : (n : ℕ) → n ≤ newest → made_by no_schema (definitions_between 0 n) ≡ schema_at n
makes_schema zero within = refl
makes_schema (suc n) within = (of_schema (suc n) (omega arith, within)).made

take_within : {X : Type 0} (k : ℕ) (xs : List X) → length (take k xs) ≤ length xs
take_within k xs = omega (arith, length-take k xs)

pub parts_within : (n : ℕ) → length (parts_at n) ≤ length definitions
parts_within n = take_within _ parts

-- ---- an empty database

none_have : (schema : Schema) (all : List (List ℕ × Made)) → AreFree no_rows schema all
none_have schema [] = tt
none_have schema (d ∷ all) = (refl, none_have (with_made schema d.1) all)

pub none_made : (n : ℕ) → n ≤ newest → (db : Database) → db.schema ≡ no_schema → AreStillToMake (schema_at n) no_rows (definitions_between 0 n) db
none_made n within db none = record {
  makes = subst (λ s. MakeInTurn s (definitions_between 0 n)) (sym none) (make_in_turn n within);
  whole = subst (λ s. made_by s (definitions_between 0 n) ≡ schema_at n) (sym none) (makes_schema n within);
  free = subst (λ s. AreFree no_rows s (definitions_between 0 n)) (sym none) (none_have no_schema (definitions_between 0 n));
  same = subst (λ s. AllByRecursion (λ t. db.trees t.tree ≡ []) s.tables) (sym none) tt;
}

-- ---- tables of an earlier schema

-- its tables keep the rows that they have
rows_stay : (n : ℕ) (trees : Trees) → AllByRecursion (λ t. trees t.tree ≡ rows_at n trees t.tree) (schema_at n).tables
rows_stay n trees = each_tree n (λ tree. trees tree ≡ rows_at n trees tree) (λ tree has. sym (ap (λ b. cond b (trees tree) []) has))

pub next_left : (n : ℕ) → IsEarlier n → (db : Database) → db.schema ≡ schema_at n → AreStillToMake (schema_at (n + 1)) (rows_at n db.trees) (definitions_between n (n + 1)) db
next_left n earlier db is =
    let it = of_step n earlier in
    record {
      makes = subst (λ s. MakeInTurn s (definitions_between n (n + 1))) (sym is) it.makes;
      whole = subst (λ s. made_by s (definitions_between n (n + 1)) ≡ schema_at (n + 1)) (sym is) it.whole;
      free = subst (λ s. AreFree (rows_at n db.trees) s (definitions_between n (n + 1))) (sym is) (it.free db.trees);
      same = subst (λ s. AllByRecursion (λ t. db.trees t.tree ≡ rows_at n db.trees t.tree) s.tables) (sym is) (rows_stay n db.trees);
    }
