-- Bytes that come in several reads, and how many are missing.
use Rattle.std.proofs.Common.{ℕ, ◌<◌, ◌-◌, List, [], ◌++◌, length, refl, sym, subst, inl, inr, arith, append-nil, append_assoc, length-append}
use Rattle.std.proofs.KnownBytes.{Consumes-nil, Consumes-trans}
use Rattle.std.specs.Prelude.{Option}
use Rattle.http_serving.specs.Missing.{Misses}
use Rattle.http_serving.specs.Reading.{ReadGives}
use Rattle.http_serving.specs.Serving.{Comes}

pub Comes-none : (wanting : List ℕ → Type 0) (a : Option (List ℕ)) → Comes wanting a a []
Comes-none wanting a = (Consumes-nil a, inl refl)

-- one more read, which was wanted
pub Comes-more : (wanting : List ℕ → Type 0) (a b c : Option (List ℕ)) (front last : List ℕ)
    → Comes wanting a b front → ReadGives b c last → wanting front → Comes wanting a c (front ++ last)
Comes-more wanting a b c front last came gave wanted =
    (Consumes-trans a b c front last came.0 gave.0, inr (front, last, refl, gave.1, wanted))

-- if some bytes are missing, the bytes await more now
pub Misses-now : (wanting : List ℕ → Type 0) (bytes : List ℕ) (count : ℕ) → Misses wanting bytes count → 0 < count → wanting bytes
Misses-now wanting bytes count missed some = subst wanting (append-nil bytes) (missed [] some)

-- bytes that came are no longer missing
pub Misses-less : (wanting : List ℕ → Type 0) (bytes last : List ℕ) (count : ℕ)
    → Misses wanting bytes count → Misses wanting (bytes ++ last) (count - length last)
Misses-less wanting bytes last count missed more few =
    subst wanting (sym (append_assoc bytes last more)) (missed (last ++ more) (omega (arith, few, length-append last more)))
