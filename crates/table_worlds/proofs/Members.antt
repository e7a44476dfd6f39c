-- Members of lists, as loops see them.
use Rattle.std.proofs.Common.{◌≡◌, ◌≢◌, ◌⊎◌, Bool, true, false, true≢false, List, [], ◌∷◌, filter_map, Option, refl, sym, subst, ◌∙◌, inl, inr}
use Rattle.std.specs.Bool.{Decides}
use Rattle.std.specs.List.{cons_option}
use Rattle.sqlite_rules.specs.Lists.{Has}

-- each member is still to be looked at, or passes
abbrev pub LeftOr : {X : Type 0} → (X → Type 0) → List X → List X → Type 0
LeftOr {X} P xs left = (x : X) → Has xs x → Has left x ⊎ P x

pub all_seen : {X : Type 0} (P : X → Type 0) (xs left : List X) → left ≡ [] → LeftOr P xs left → (x : X) → Has xs x → P x
all_seen {X} P xs left none before = λ x has. elim (before x has) [
  | inl here ↦ absurd (subst (λ (l : List X). Has l x) none here)
  | inr good ↦ good
]

pub never : (P : Type 0) → (P → ⊥) → Decides false P
never P not = (λ no. absurd (true≢false (sym no)), λ holds. absurd (not holds))

-- one member that fails is enough
pub one_fails : {X : Type 0} (P : X → Type 0) (xs : List X) (x : X) (passes : Bool) → passes ≡ false → Decides passes (P x) → Has xs x → Decides false ((y : X) → Has xs y → P y)
one_fails {X} P xs x passes fails is has = never ((y : X) → Has xs y → P y) (λ all. true≢false (sym (is.1 (all x has)) ∙ fails))

pub found_here : {X : Type 0} (xs : List X) (x y : X) → x ≡ y → Has xs y → Decides true (Has xs x)
found_here xs x y same has = (λ _. subst (Has xs) (sym same) has, λ _. refl)

-- ---- rows that begin with what a function returns for each key in turn

-- the rows are those of all keys exactly if the rows that are left are those of the keys that are left
abbrev pub SameLeft : {X Y : Type 0} → (X → Option Y) → List Y → List Y → List X → List X → Type 0
SameLeft f rows left keys more = (rows ≡ filter_map f keys → left ≡ filter_map f more) × (left ≡ filter_map f more → rows ≡ filter_map f keys)

module _ {X Y : Type 0} (f : X → Option Y) (rows left : List Y) (keys more : List X) (x : X) where
  pub none_after : ((rest : List Y) → left ≢ cons_option (f x) rest) → SameLeft f rows left keys (x ∷ more) → rows ≢ filter_map f keys
  none_after none before = λ same. none (filter_map f more) (before.0 same)
