-- What a step of an upgrade leaves, and what an upgrade leaves that made several steps or read the tables first.
use Rattle.std.proofs.Common.{◌≡◌, ◌⊎◌, ◌+◌, ◌-◌, ◌≤◌, ◌<◌, ℕ, suc, IsTrue, refl, sym, subst, ◌∙◌, inl, inr, arith}
use Rattle.sqlite.specs.Effect.{Database}
use Rattle.sqlite.specs.State.{State, HasCleanDisk, Survives}
use Rattle.sqlite.proofs.StateLemmas.{survives_then, survives_weaker}
use Rattle.table_meaning.specs.Schema.{newest, schema_at}
use Rattle.table_meaning.specs.Schemas.{IsSchema, IsEarlier}
use Rattle.table_meaning.specs.Reads.{Reads}
use Rattle.table_meaning.specs.Upgrades.{MakesNext, Goes, IsLeftFrom, IsLeftBehind, StopsBetween}
use Rattle.table_meaning.proofs.StepLemmas.{survives_itself}
use Rattle.table_meaning.proofs.Listings.{here_or_later}
use Rattle.table_upgrades.specs.Frames.{IsAllCommitted, OutsideTransaction}

-- ---- one step

-- a step put its rows, and was committed or stopped before that
pub step_stopped : (n : ℕ) (old mid new : State) → (HasCleanDisk mid → IsTrue old.is_open × MakesNext n old.now mid.now) → Survives old mid (λ _. ⊥) → Survives mid new (λ trees. trees ≡ mid.now.trees)
    → Survives old new (λ trees. IsTrue old.is_open × (db : Database) × MakesNext n old.now db × (trees ≡ db.trees))
step_stopped n old mid new made one two = survives_then old mid new _ _ _ (λ _ db none. absurd none)
    (λ clean db is.
    let early : HasCleanDisk mid = omega (arith, two.clean) in
    ((made early).0, mid.now, (made early).1, is)) one two

-- ---- several steps

-- Tables of a schema have become those of another one, each step committed.
pub record HasTakenSteps (n next : ℕ) (old now : State) : Type 0 where
  pub from : n ≤ next
  pub within : next ≤ newest
  pub survives : Survives old now (λ trees. IsTrue old.is_open × (db : Database) × IsLeftFrom n old.now db × (trees ≡ db.trees))
  pub outside : OutsideTransaction old now
  pub goes : HasCleanDisk now → Goes n (next - n) old.now now.now
  pub first : next ≡ n → HasCleanDisk now → now.committed ≡ old.committed
  pub later : n < next → HasCleanDisk now → IsAllCommitted now

pub gone_nowhere : (n : ℕ) → IsEarlier n → (old : State) → HasTakenSteps n n old old
gone_nowhere n earlier old = record {
  from = omega arith;
  within = omega (arith, earlier.1);
  survives = survives_weaker old old _ _ (λ _ db none. absurd none) (survives_itself old);
  outside = record { was_open = λ clean is_open. is_open; idle = λ is. is };
  goes = λ clean. let none : 0 ≡ n - n = omega arith in subst (λ k. Goes n k old.now old.now) none refl;
  first = λ same clean. refl;
  later = λ less. absurd (omega (arith, less));
}

module _ (n next : ℕ) (old mid new : State) (gone : HasTakenSteps n next old mid) (less : next < newest)
    (step : Survives mid new (λ trees. IsTrue mid.is_open × (db : Database) × MakesNext next mid.now db × (trees ≡ db.trees))) where
  -- the next step was made
  one_more : HasCleanDisk mid → (db : Database) → MakesNext next mid.now db → Goes n (suc (next - n)) old.now db
  one_more clean db makes = let at : next ≡ n + (next - n) = omega (arith, gone.from) in (mid.now, gone.goes clean, subst (λ m. MakesNext m mid.now db) at makes)

  pub gone_survives : Survives old new (λ trees. IsTrue old.is_open × (db : Database) × IsLeftFrom n old.now db × (trees ≡ db.trees))
  gone_survives = survives_then old mid new _ _ _ (λ _ db it. it)
      (λ clean db it.
      let early : HasCleanDisk mid = omega (arith, step.clean) in
      (gone.outside.was_open early it.0, it.1, (next - n, omega (arith, gone.from, less), one_more early it.1 it.2), it.3)) gone.survives step

  pub gone_further : OutsideTransaction mid new → (HasCleanDisk new → MakesNext next mid.now new.committed) → (HasCleanDisk new → IsAllCommitted new) → HasTakenSteps n (next + 1) old new
  gone_further outside makes committed = record {
    from = omega (arith, gone.from);
    within = omega (arith, less);
    survives = gone_survives;
    outside = record { was_open = λ clean is_open. gone.outside.was_open (early clean) (outside.was_open clean is_open); idle = λ is. outside.idle (gone.outside.idle is) };
    goes = λ clean.
        let further : suc (next - n) ≡ next + 1 - n = omega (arith, gone.from) in
        subst (λ k. Goes n k old.now new.now) further (one_more (early clean) new.now (subst (MakesNext next mid.now) (sym (committed clean).rest) (makes clean)));
    first = λ same. absurd (omega (arith, same, gone.from));
    later = λ less. committed;
  }
    where
      early : HasCleanDisk new → HasCleanDisk mid
      early clean = omega (arith, step.clean)

  -- the next step was refused
  pub gone_no_further : HasCleanDisk new → (new.now ≡ mid.now) × (new.committed ≡ mid.committed) → StopsBetween n old new
  gone_no_further clean same = elim (here_or_later n next gone.from) [
    | inl at ↦
        let none : next - n ≡ 0 = omega (arith, at) in
        inl (same.0 ∙ subst (λ k. Goes n k old.now mid.now) none (gone.goes early), same.1 ∙ gone.first at early)
    | inr past ↦
        let rests = (gone.later past early).rest in
        let some : next - n ≡ suc (next - n - 1) = omega (arith, past) in
        let goes = subst (λ k. Goes n k old.now mid.now) some (gone.goes early) in
        inr ((next - n - 1, omega (arith, past, less), subst (λ (db : Database). Goes n (suc (next - n - 1)) old.now db) (rests ∙ sym same.1) goes), same.0 ∙ rests ∙ sym same.1)
  ]
    where
      early : HasCleanDisk mid
      early = omega (arith, step.clean)

-- the last step was made
pub gone_all : (n next : ℕ) → IsEarlier n → (old now : State) → HasTakenSteps n next old now → newest ≤ next → HasCleanDisk now → Goes n (newest - n) old.now now.committed × IsAllCommitted now
gone_all n next earlier old now gone past clean =
    let last : next ≡ newest = omega (arith, past, gone.within) in
    let committed = gone.later (omega (arith, past, earlier.1)) clean in
    (subst (λ m. Goes n (m - n) old.now now.committed) last (subst (λ (db : Database). Goes n (next - n) old.now db) committed.rest (gone.goes clean)), committed)

-- ---- the tables were read first

module _ (n : ℕ) (is_n : IsSchema n) (old mid new : State) (is : old.now.schema ≡ schema_at n) (reads : Reads old mid) (rests : IsTrue old.is_open → old.now ≡ old.committed) where
  -- what was read is as it was
  pub looked_at : HasCleanDisk mid → IsTrue mid.is_open → (mid.now ≡ old.now) × (mid.committed ≡ old.committed)
  looked_at clean is_open = reads.same clean is_open (rests (reads.was_open clean is_open))

  pub upgrade_stopped : Survives mid new (λ trees. IsTrue mid.is_open × (db : Database) × IsLeftFrom n mid.now db × (trees ≡ db.trees))
      → Survives old new (λ trees. IsTrue old.is_open × (db : Database) × IsLeftBehind old.now db × (trees ≡ db.trees))
  upgrade_stopped stop = survives_then old mid new _ _ _ (λ _ db none. absurd none)
      (λ clean db it.
      let early : HasCleanDisk mid = omega (arith, stop.clean) in
      (reads.was_open early it.0, it.1, (n, is_n, is, subst (λ (before : Database). IsLeftFrom n before it.1) (looked_at early it.0).0 it.2), it.3)) reads.survives stop
