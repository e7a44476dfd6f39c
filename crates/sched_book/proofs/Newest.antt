-- The version for a host is the newest for the first platform that has any.
use Rattle.std.proofs.Common.{◌≡◌, ℕ, zero, suc, ◌<◌, ◌≤◌, ◌⊎◌, inl, inr, Bool, true, false, cond, List, [], ◌∷◌, length, get_or, Option, Some, None, sym, refl, ap, ◌∙◌, subst, arith, MatchOption}
use Rattle.std.specs.Prelude.{fold, filter, is_some, nat_le, Contains}
use borrow.Author.Tests.{leb-true, leb-false}
use Rattle.std.proofs.lemmas.List.Elements.{Contains-append_right, All-contains, All-contains_itself, All-filter, filter_passes}
use Rattle.sched_book.specs.Fits.{is_version_for, newer, newest_version, version_among}
use Rattle.sched_book.specs.Laws.{HasNoVersion, IsVersionFor, VersionIsNewestOfFirst}
use Rattle.sched_book.specs.declared.rows.Version.{Version}

-- what a list with one element in front contains
pub front_of : {X : Type 0} (x : X) (xs : List X) → Contains (x ∷ xs) x
front_of x xs = (0, omega arith, refl)

pub behind : {X : Type 0} (x : X) (xs : List X) (y : X) → Contains xs y → Contains (x ∷ xs) y
behind x xs y h = Contains-append_right (x ∷ []) xs y h

at_index : {X : Type 0} (x : X) (xs : List X) (y : X) (k : ℕ) → k < length (x ∷ xs) → get_or (x ∷ xs) k y ≡ y → (x ≡ y) ⊎ Contains xs y
at_index x xs y zero within is = inl is
at_index x xs y (suc k) within is = inr (k, omega arith, is)

pub in_front : {X : Type 0} (x : X) (xs : List X) (y : X) → Contains (x ∷ xs) y → (x ≡ y) ⊎ Contains xs y
in_front x xs y h = at_index x xs y h.0 h.1 h.2

pub none_in_nothing : {X : Type 0} (x : X) → Contains [] x → ⊥
none_in_nothing x h = let within : h.0 < 0 = h.1 in omega arith

-- what a filter contains
pub passes_filter : {X : Type 0} (q : X → Bool) (xs : List X) (x : X) → Contains xs x → q x ≡ true → Contains (filter q xs) x
passes_filter q [] x h pass = absurd (none_in_nothing x h)
passes_filter {X} q (y ∷ ys) x h pass = elim (in_front y ys x h) [
  | inl same ↦ subst (λ b. Contains (cond b (y ∷ filter q ys) (filter q ys)) x) (sym (ap q same ∙ pass))
      (subst (λ z. Contains (y ∷ filter q ys) z) same (front_of y (filter q ys)))
  | inr there ↦ kept (q y) (passes_filter q ys x there pass)
]
  where
    kept : (b : Bool) → Contains (filter q ys) x → Contains (cond b (y ∷ filter q ys) (filter q ys)) x
    kept true there = behind y (filter q ys) x there
    kept false there = there

pub in_filter : {X : Type 0} (q : X → Bool) (xs : List X) (x : X) → Contains (filter q xs) x → Contains xs x
in_filter q xs x h = All-contains (Contains xs) (filter q xs) x (All-filter q (Contains xs) xs (All-contains_itself xs)) h

pub passed_filter : {X : Type 0} (q : X → Bool) (xs : List X) (x : X) → Contains (filter q xs) x → q x ≡ true
passed_filter q xs x h = All-contains (λ y. q y ≡ true) (filter q xs) x (filter_passes q xs) h

-- the best of these and the best so far
record IsBest (o : Option Version) (vs : List Version) (v : Version) : Type 0 where
  stands : (o ≡ Some v) ⊎ Contains vs v
  before : (b : Version) → o ≡ Some b → b.version_num ≤ v.version_num
  newest : (other : Version) → Contains vs other → other.version_num ≤ v.version_num

abbrev Best : Option Version → List Version → Option Version → Type 0
Best o vs r = MatchOption r ((o ≡ None) × (vs ≡ [])) (IsBest o vs)

alone : (b c : Version) → Some b ≡ Some c → b.version_num ≤ c.version_num
alone b c same = let equal : b ≡ c = cc in subst (λ z. b.version_num ≤ z.version_num) equal (omega arith)

-- one more version
first_one : (v : Version) (vs : List Version) (r : Option Version) → Best (Some v) vs r → Best None (v ∷ vs) r
first_one v vs None h = let never : Some v ≡ None = h.0 in absurd cc
first_one v vs (Some w) h = record {
  stands = inr (elim h.stands [ inl same ↦ (let equal : v ≡ w = cc in subst (λ z. Contains (v ∷ vs) z) equal (front_of v vs)) | inr there ↦ behind v vs w there ]);
  before = λ b never. absurd cc;
  newest = λ other h'. elim (in_front v vs other h') [
    | inl same ↦ subst (λ z. z.version_num ≤ w.version_num) same (h.before v refl)
    | inr there ↦ h.newest other there
  ];
}

stays : (b v : Version) (vs : List Version) (r : Option Version) → v.version_num ≤ b.version_num → Best (Some b) vs r → Best (Some b) (v ∷ vs) r
stays b v vs None older h = let never : Some b ≡ None = h.0 in absurd cc
stays b v vs (Some w) older h = record {
  stands = elim h.stands [ inl same ↦ inl same | inr there ↦ inr (behind v vs w there) ];
  before = h.before;
  newest = λ other h'. elim (in_front v vs other h') [
    | inl same ↦ subst (λ z. z.version_num ≤ w.version_num) same (omega (arith, h.before b refl))
    | inr there ↦ h.newest other there
  ];
}

replaced : (b v : Version) (vs : List Version) (r : Option Version) → b.version_num < v.version_num → Best (Some v) vs r → Best (Some b) (v ∷ vs) r
replaced b v vs None newer h = let never : Some v ≡ None = h.0 in absurd cc
replaced b v vs (Some w) newer h = record {
  stands = inr (elim h.stands [ inl same ↦ (let equal : v ≡ w = cc in subst (λ z. Contains (v ∷ vs) z) equal (front_of v vs)) | inr there ↦ behind v vs w there ]);
  before = λ c same. let low : c.version_num ≤ b.version_num = alone c b (sym same) in omega (arith, h.before v refl);
  newest = λ other h'. elim (in_front v vs other h') [
    | inl same ↦ subst (λ z. z.version_num ≤ w.version_num) same (h.before v refl)
    | inr there ↦ h.newest other there
  ];
}

best : (o : Option Version) (vs : List Version) → Best o vs (fold newer o vs)
best None [] = (refl, refl)
best (Some b) [] = record { stands = inl refl; before = λ c same. alone c b (sym same); newest = λ other h. absurd (none_in_nothing other h) }
best None (v ∷ vs) = first_one v vs (fold newer (Some v) vs) (best (Some v) vs)
best (Some b) (v ∷ vs) = cases (nat_le v.version_num b.version_num) refl (best (Some b) vs) (best (Some v) vs)
  where
    cases : (t : Bool) → nat_le v.version_num b.version_num ≡ t → Best (Some b) vs (fold newer (Some b) vs) → Best (Some v) vs (fold newer (Some v) vs)
        → Best (Some b) (v ∷ vs) (fold newer (cond t (Some b) (Some v)) vs)
    cases true is kept gone = stays b v vs (fold newer (Some b) vs) (leb-true _ _ is) kept
    cases false is kept gone = replaced b v vs (fold newer (Some v) vs) (leb-false _ _ is) gone

-- a platform has no version, or this is the newest for it
pub record IsNewestFor (versions : List Version) (app platform : List ℕ) (v : Version) : Type 0 where
  pub stands : Contains versions v
  pub matches : is_version_for app platform v ≡ true
  pub newest : (other : Version) → Contains versions other → is_version_for app platform other ≡ true → other.version_num ≤ v.version_num

abbrev HasNone : List Version → List ℕ → List ℕ → Type 0
HasNone versions app platform = (v : Version) → Contains versions v → is_version_for app platform v ≡ false

no_pass : (versions : List Version) (app platform : List ℕ) (v : Version) (b : Bool) → is_version_for app platform v ≡ b → Contains versions v
    → filter (is_version_for app platform) versions ≡ [] → b ≡ false
no_pass versions app platform v true is there empty =
    absurd (none_in_nothing v (subst (λ xs. Contains xs v) empty (passes_filter (is_version_for app platform) versions v there is)))
no_pass versions app platform v false is there empty = refl

for_platform : (versions : List Version) (app platform : List ℕ) (r : Option Version)
    → Best None (filter (is_version_for app platform) versions) r → MatchOption r (HasNone versions app platform) (IsNewestFor versions app platform)
for_platform versions app platform None h = λ v there. no_pass versions app platform v (is_version_for app platform v) refl there h.1
for_platform versions app platform (Some v) h =
    let q = is_version_for app platform in
    let there : Contains (filter q versions) v = elim h.stands [ inl never ↦ absurd cc | inr there ↦ there ] in
    record {
      stands = in_filter q versions v there;
      matches = passed_filter q versions v there;
      newest = λ other stands pass. h.newest other (passes_filter q versions other stands pass);
    }

-- no version for the first platform, and what follows for the other platforms
further : (versions : List Version) (app p : List ℕ) (ps : List (List ℕ)) → HasNone versions app p → (o : Option Version)
    → MatchOption o (HasNoVersion versions app ps) (IsVersionFor versions app ps)
    → MatchOption o (HasNoVersion versions app (p ∷ ps)) (IsVersionFor versions app (p ∷ ps))
further versions app p ps none None rest = λ platform v among there. elim (in_front p ps platform among) [
  | inl same ↦ subst (λ z. is_version_for app z v ≡ false) same (none v there)
  | inr later ↦ rest platform v later there
]
further versions app p ps none (Some v) rest = record {
  earlier = p ∷ rest.earlier;
  platform = rest.platform;
  later = rest.later;
  split = ap (λ qs. p ∷ qs) rest.split;
  none_earlier = λ platform other among there. elim (in_front p rest.earlier platform among) [
    | inl same ↦ subst (λ z. is_version_for app z other ≡ false) same (none other there)
    | inr later ↦ rest.none_earlier platform other later there
  ];
  stands = rest.stands;
  matches = rest.matches;
  newest = rest.newest;
}

choose : (versions : List Version) (app p : List ℕ) (ps : List (List ℕ)) (r : Option Version)
    → MatchOption r (HasNone versions app p) (IsNewestFor versions app p) → (o : Option Version)
    → MatchOption o (HasNoVersion versions app ps) (IsVersionFor versions app ps)
    → MatchOption (cond (is_some r) r o) (HasNoVersion versions app (p ∷ ps)) (IsVersionFor versions app (p ∷ ps))
choose versions app p ps None none o rest = further versions app p ps none o rest
choose versions app p ps (Some v) here o rest = record {
  earlier = [];
  platform = p;
  later = ps;
  split = refl;
  none_earlier = λ platform other among there. absurd (none_in_nothing platform among);
  stands = here.stands;
  matches = here.matches;
  newest = here.newest;
}

pub version_is_newest_of_first : VersionIsNewestOfFirst
version_is_newest_of_first versions app [] = λ platform v among there. absurd (none_in_nothing platform among)
version_is_newest_of_first versions app (p ∷ ps) =
    let q = is_version_for app p in
    choose versions app p ps (newest_version (filter q versions)) (for_platform versions app p (newest_version (filter q versions)) (best None (filter q versions)))
    (version_among versions app ps) (version_is_newest_of_first versions app ps)
