-- What `matchit` finds in single rows: a literal, a parameter, and two parameters with a slash between them.
use Rattle.std.proofs.Common.{◌≡◌, ℕ, suc, ◌-◌, ◌<◌, List, [], ◌∷◌, ◌++◌, length, Option, Some, None, Bool, true, false, cond, refl, length-append, ap, ◌∙◌, arith, ◌==◌, ltb}
use Rattle.std.proofs.lemmas.Bool.Decides.{nat_tests}
use Rattle.std.proofs.lemmas.List.{drop_all}
use Rattle.std.proofs.Math.Seq.{drop-append_seam}
use Rattle.std.specs.Prelude.{nat_lt, ◌&&◌, not, ◌||◌, if◌then◌else◌}
use Rattle.std.specs.List.{list_all, list_any}
use Rattle.std.specs.Str.{bytes_eq}
use Rattle.matchit.specs.Level.{IsText}
use Rattle.matchit.specs.Router.{map_key}
use Rattle.matchit.specs.Rows.{Rows, param_token, catch_all_token}
use Rattle.matchit.specs.Seek.{step, or_else, seek, first, param_step, has_slash, segment, cuts, longest_suffix}
use Rattle.matchit.proofs.SeekLemmas.{seek-empty, seek-drop, param_step-empty, or_else-none}
use Rattle.matchit.proofs.RenameLemmas.{first-rename}

-- these are bytes
pub is_text : (w : List ℕ) → list_all (λ b. nat_lt b 256) w ≡ true → IsText w
is_text [] h = tt
is_text (b ∷ w) h = (first_of (nat_lt b 256) _ h refl, is_text w (rest_of (nat_lt b 256) _ h))
  where
    first_of : (x y : Bool) → (x && y) ≡ true → x ≡ nat_lt b 256 → b < 256
    first_of true y h e = grind (arith, nat_tests)
    first_of false y h e = cc

    rest_of : (x y : Bool) → (x && y) ≡ true → y ≡ true
    rest_of true y h = h
    rest_of false y h = cc

-- if no row continues with a parameter, the byte decides
pub seek-byte : (rs : Rows) (b : ℕ) (path : List ℕ) → step param_token rs ≡ [] → step catch_all_token rs ≡ []
    → first rs (b ∷ path) ≡ first (step b rs) path
unfolding seek
seek-byte rs b path no_param no_rest =
    rw (no_param, no_rest) (simp (param_step-empty (b ∷ path), seek-empty ((param_step {K = ℕ} [] (b ∷ path)).0 - 1) path, or_else-none))

pub seek-literal : (w : List ℕ) (k : ℕ) (path : List ℕ) → IsText w → first ((w, k) ∷ []) path ≡ (if bytes_eq path w then Some k else None)
unfolding seek
seek-literal [] k [] h = refl
seek-literal [] k (b ∷ path) h = seek-byte (([], k) ∷ []) b path refl refl ∙ seek-empty 0 path
seek-literal (x ∷ w) k [] h = refl
seek-literal (x ∷ w) k (b ∷ path) h =
    let below = h.0 in
    let no_param : (x == param_token) ≡ false = grind (arith, nat_tests, below) in
    let no_rest : (x == catch_all_token) ≡ false = grind (arith, nat_tests, below) in
    seek-byte ((x ∷ w, k) ∷ []) b path (rw no_param refl) (rw no_rest refl) ∙ by (x == b) refl (seek-literal w k path h.1)
  where
    by : (v : Bool) → (x == b) ≡ v → first ((w, k) ∷ []) path ≡ (if bytes_eq path w then Some k else None) → first (cond (x == b) ((w, k) ∷ []) []) path ≡ (if bytes_eq (b ∷ path) (x ∷ w) then Some k else None)
    by true e ih = let f : (b == x) ≡ true = grind (arith, nat_tests) in rw (e, f) ih
    by false e ih = let f : (b == x) ≡ false = grind (arith, nat_tests) in rw (e, f) (seek-empty 0 path)

-- a row finds its own value or nothing
pub one_value : (w : List ℕ) (k : ℕ) (path : List ℕ) → first ((w, k) ∷ []) path ≡ map_key (λ _. k) (first ((w, k) ∷ []) path)
one_value w k path = first-rename (λ _. k) ((w, k) ∷ []) path

pub any_slash : (text : List ℕ) → has_slash text ≡ list_any (λ b. b == 47) text
any_slash [] = refl
any_slash (b ∷ text) = by (b == 47) (any_slash text)
  where
    by : (v : Bool) → has_slash text ≡ list_any (λ b. b == 47) text → cond v true (has_slash text) ≡ (v || list_any (λ b. b == 47) text)
    by true ih = refl
    by false ih = ih

to_end : (k : ℕ) (path : List ℕ) → seek (length path) (([], k) ∷ []) path ≡ Some k
unfolding seek
to_end k path = seek-drop (length path) (([], k) ∷ []) path ∙ ap (seek 0 (([], k) ∷ [])) (drop_all (length path) path (omega arith))

-- a byte that is no parameter's token does not end the path before its slash
no_end : (k b : ℕ) (path : List ℕ) → has_slash (b ∷ path) ≡ true → (param_token == b) ≡ true → first (([], k) ∷ []) path ≡ None
no_end k b [] slash same =
    let other : (b == 47) ≡ false = grind (arith, nat_tests, same) in
    absurd (let h = rw other at slash in cc)
no_end k b (c ∷ path) slash same = seek-literal [] k (c ∷ path) tt

-- a parameter takes a part of a path that has no slash
pub seek-part : (k : ℕ) (path : List ℕ) → first ((param_token ∷ [], k) ∷ []) path ≡ (if nat_lt 0 (length path) && not (list_any (λ b. b == 47) path) then Some k else None)
unfolding seek param_step
seek-part k [] = refl
seek-part k (b ∷ path) = by (has_slash (b ∷ path)) refl (param_token == b) refl
  where
    tail : suc (length path) - 1 ≡ length path
    tail = omega arith

    some : nat_lt 0 (suc (length path)) ≡ true
    some = grind (arith, nat_tests)

    over : (bytes : List ℕ) → or_else (first (([], k) ∷ []) bytes) (Some k) ≡ Some k
    over [] = refl
    over (c ∷ bytes) = rw (seek-literal [] k (c ∷ bytes) tt) refl

    by : (u : Bool) → has_slash (b ∷ path) ≡ u → (v : Bool) → (param_token == b) ≡ v
        → first ((param_token ∷ [], k) ∷ []) (b ∷ path) ≡ (if nat_lt 0 (suc (length path)) && not (list_any (λ b. b == 47) (b ∷ path)) then Some k else None)
    by true e true f = rw (e, f, some, ← any_slash (b ∷ path), e, no_end k b path e f, seek-empty 0 path) refl
    by true e false f = rw (e, f, some, ← any_slash (b ∷ path), e, seek-empty 0 path) refl
    by false e true f = rw (e, f, some, ← any_slash (b ∷ path), e, tail, to_end k path) (over path)
    by false e false f = rw (e, f, some, ← any_slash (b ∷ path), e, tail, to_end k path, seek-empty 0 path) refl

segment_to : (w rest : List ℕ) → has_slash w ≡ false → segment (w ++ 47 ∷ rest) ≡ w ++ 47 ∷ []
segment_to [] rest none = refl
segment_to (b ∷ w) rest none = by (b == 47) none (segment_to w rest)
  where
    by : (v : Bool) → cond v true (has_slash w) ≡ false → (has_slash w ≡ false → segment (w ++ 47 ∷ rest) ≡ w ++ 47 ∷ [])
        → cond v (b ∷ []) (b ∷ segment (w ++ 47 ∷ rest)) ≡ b ∷ (w ++ 47 ∷ [])
    by true h ih = cc
    by false h ih = ap (λ xs. b ∷ xs) (ih h)

cuts_slash : (b : ℕ) (w : List ℕ) → cuts ((b ∷ w) ++ 47 ∷ []) (47 ∷ []) ≡ true
cuts_slash b w =
    let count = length-append (b ∷ w) (47 ∷ []) in
    let longer : ltb 1 (length ((b ∷ w) ++ 47 ∷ [])) ≡ true = grind (arith, nat_tests, count) in
    let front : length ((b ∷ w) ++ 47 ∷ []) - 1 ≡ length (b ∷ w) = omega (arith, count) in
    rw (longer, front, drop-append_seam (b ∷ w) (47 ∷ [])) refl

-- the row of a slash and a parameter
abbrev behind_slash : ℕ → Rows
behind_slash k = (47 ∷ param_token ∷ [], k) ∷ []

param_to_slash : (k b : ℕ) (w rest : List ℕ) → has_slash (b ∷ w) ≡ false
    → param_step (behind_slash k) ((b ∷ w) ++ 47 ∷ rest) ≡ (suc (length w), behind_slash k)
unfolding param_step
param_to_slash k b w rest none =
    let whole = segment_to (b ∷ w) rest none in
    let suffix : longest_suffix (segment ((b ∷ w) ++ 47 ∷ rest)) (behind_slash k) ≡ 47 ∷ [] = rw (whole, cuts_slash b w) refl in
    let count = length-append (b ∷ w) (47 ∷ []) in
    let taken : length ((b ∷ w) ++ 47 ∷ []) - 1 ≡ suc (length w) = omega (arith, count) in
    rw (suffix, whole, taken) refl

-- two parameters take what is before the first slash, and what is after it
pub seek-two : (k b : ℕ) (w rest : List ℕ) → has_slash (b ∷ w) ≡ false → (nat_lt 0 (length rest) && not (list_any (λ b. b == 47) rest)) ≡ true
    → first ((param_token ∷ 47 ∷ param_token ∷ [], k) ∷ []) ((b ∷ w) ++ 47 ∷ rest) ≡ Some k
unfolding seek
seek-two k b w rest none part =
    one_value (param_token ∷ 47 ∷ param_token ∷ []) k ((b ∷ w) ++ 47 ∷ rest) ∙ ap (map_key (λ _. k)) reached ∙ over (first (cond (param_token == b) (behind_slash k) []) (w ++ 47 ∷ rest))
  where
    over : (o : Option ℕ) → map_key (λ _. k) (or_else o (Some k)) ≡ Some k
    over None = refl
    over (Some j) = refl

    skip : suc (length w) - 1 ≡ length w
    skip = omega arith

    behind : seek (length w) (behind_slash k) (w ++ 47 ∷ rest) ≡ Some k
    behind =
        seek-drop (length w) (behind_slash k) (w ++ 47 ∷ rest) ∙ ap (seek 0 (behind_slash k)) (drop-append_seam w (47 ∷ rest))
        ∙ seek-byte (behind_slash k) 47 rest refl refl ∙ seek-part k rest ∙ (rw part refl)

    reached : first ((param_token ∷ 47 ∷ param_token ∷ [], k) ∷ []) ((b ∷ w) ++ 47 ∷ rest)
        ≡ or_else (first (cond (param_token == b) (behind_slash k) []) (w ++ 47 ∷ rest)) (Some k)
    reached = rw (param_to_slash k b w rest none, skip, behind) refl
