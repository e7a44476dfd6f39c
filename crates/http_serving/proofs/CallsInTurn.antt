-- Calls, one after another.
use Rattle.std.proofs.Common.{ℕ, ◌+◌, refl, add-one}
use Rattle.http_serving.specs.Streams.{StepsInTurn}

pub StepsInTurn-none : {S : Type 0} (step : S → S → Type 0) (a : S) → StepsInTurn step 0 a a
unfolding StepsInTurn
StepsInTurn-none step a = refl

pub StepsInTurn-more : {S : Type 0} (step : S → S → Type 0) (n : ℕ) (a b c : S) → StepsInTurn step n a b → step b c → StepsInTurn step (n + 1) a c
unfolding StepsInTurn
StepsInTurn-more step n a b c calls last = rw (add-one n) (b, calls, last)
