-- What holds of a call's answer.
use Rattle.std.proofs.Common.{◌≡◌, true, false, refl, sym, subst, true≢false}
use Rattle.std.specs.Prelude.{Result, Ok, Err, is_ok, IfOk, OnOk, OnErr}

-- what holds of an answer under a premise that is known
pub given : {A E : Type 0} (result : Result A E) (P : Type 0) (Q : A → Type 0) → P → IfOk result (λ answer. P → Q answer) → IfOk result Q
given (Ok answer) P Q known says = says known
given (Err e) P Q known says = tt

-- the same under a premise from which that one follows
pub given_more : {A E : Type 0} (result : Result A E) (P R : Type 0) (Q : A → Type 0) → (R → P) → IfOk result (λ answer. P → Q answer) → IfOk result (λ answer. R → Q answer)
given_more (Ok answer) P R Q known says = λ r. says (known r)
given_more (Err e) P R Q known says = tt

-- the same with the first of two premises added
pub added : {A E : Type 0} (result : Result A E) (P R : Type 0) (Q : A → Type 0) → R → IfOk result (λ answer. P → R → Q answer) → IfOk result (λ answer. P → Q answer)
added (Ok answer) P R Q known says = λ p. says p known
added (Err e) P R Q known says = tt

-- what holds of an answer that is this one
pub only : {A E : Type 0} (result : Result A E) (a : A) (Q : A → Type 0) → IfOk result (λ answer. answer ≡ a) → Q a → IfOk result Q
only (Ok answer) a Q is says = subst Q (sym is) says
only (Err e) a Q is says = tt

-- ---- from the test for good answers

pub on_ok : {A E : Type 0} (r : Result A E) (P : Type 0) → OnOk r P → is_ok r ≡ true → P
on_ok (Ok x) P holds good = holds
on_ok (Err e) P holds good = absurd (true≢false (sym good))

pub on_err : {A E : Type 0} (r : Result A E) (P : Type 0) → OnErr r P → is_ok r ≡ false → P
on_err (Ok x) P holds bad = absurd (true≢false bad)
on_err (Err e) P holds bad = holds

pub err_on : {A E : Type 0} (r : Result A E) (P : Type 0) → (is_ok r ≡ false → P) → OnErr r P
err_on (Ok x) P says = tt
err_on (Err e) P says = says refl
