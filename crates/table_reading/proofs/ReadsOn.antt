-- What several reads show, one after another.
use Rattle.std.proofs.Common.{◌≡◌, Ok, Err, IfErr, sym, subst, ◌∙◌, arith}
use Rattle.std.specs.declared.result.Result.{Result}
use Rattle.std.specs.Result.{IsErrAnd}
use Rattle.sqlite.specs.Effect.{Database}
use Rattle.sqlite.specs.State.{State}
use Rattle.table_meaning.specs.Holding.{AreKnown}
use Rattle.table_meaning.specs.Reads.{Reads}
use Rattle.table_reading.specs.Reading.{WereKnown}

-- a connection at first, after some reads, and after one more
module _ (first before after : State) (kept : Reads first before) (read : Reads before after) (was : WereKnown first after) where
  -- its tables were known in between
  pub known_before : WereKnown first before
  known_before = record { clean = omega (arith, read.survives.clean, was.clean); is_open = read.was_open was.clean was.is_open; rests = was.rests; known = was.known }

  pub shows_first : before.now ≡ first.now
  shows_first = (kept.same known_before.clean known_before.is_open was.rests).0

  -- and they are for the last read
  pub known_after : WereKnown before after
  known_after = record {
    clean = was.clean;
    is_open = was.is_open;
    rests = shows_first ∙ was.rests ∙ sym (kept.same known_before.clean known_before.is_open was.rests).1;
    known = subst AreKnown (sym shows_first) was.known;
  }

  -- what the last read says about the rows holds for the rows at first
  pub of_first : (P : Database → Type 0) → P before.now → P first.now
  of_first P says = subst P shows_first says

-- if a call is refused and the reason is passed on, what is known about the reason still holds
pub refused_on : {A E : Type 0} (r : Result A E) (P : E → Type 0) (e : E) → IsErrAnd r (λ why. why ≡ e) → P e → IfErr r P
refused_on (Ok x) P e is says = absurd is
refused_on (Err why) P e is says = subst P (sym is) says
