-- A world stays well if one instance is changed and keeps what well worlds say of it.
use Rattle.std.proofs.Common.{◌≡◌, ℕ, ◌+◌, ◌<◌, ◌≤◌, ◌⊎◌, inl, inr, Bool, true, false, ltb, List, length, Option, Some, None, sym, refl, ap, ◌∙◌, subst, arith}
use Rattle.std.proofs.lemmas.List.Elements.{All-weaker}
use Rattle.std.specs.Prelude.{◌==◌, All, IsTrue, count_by, is_some, option_and_then, slice_get, IfSome}
use Rattle.std.proofs.lemmas.Option.{IfSome_then}
use borrow.Author.Tests.{ltb-true, ltb-false, eq-eqb}
use Rattle.sched_book.specs.Count.{is_judged, report_place}
use Rattle.sched_book.specs.Limits.{most_instances, IsInstanceInLimits}
use Rattle.sched_book.specs.Places.{nth, unit_at, option_any, host_of, account_at}
use Rattle.sched_book.specs.Reports.{modify_at, with_number, with_changed}
use Rattle.sched_book.specs.Sound.{AreOfOtherUsers, IsBare, HasOwnerAmong, has_place, IsWellUnit, IsWell}
use Rattle.sched_book.specs.declared.instance.Instance.{Instance}
use Rattle.sched_book.specs.declared.instance.Place.{Place}
use Rattle.sched_book.specs.declared.instance.UnitBook.{UnitBook}
use Rattle.sched_book.specs.declared.rows.App.{App}
use Rattle.sched_book.specs.declared.rows.HostRow.{HostRow}
use Rattle.sched_book.specs.declared.world.World.{World}
use Rattle.sched_book.proofs.PlacesOf.{length-modify_at}
use Rattle.sched_book.proofs.ByPlace.{all_get}
use Rattle.sched_machine.proofs.Rows.Kept.{rows_changed}
use Rattle.sched_machine.proofs.Rows.Listed.{all_changed, all_changed_nth, pairs_changed}
use Rattle.sched_machine.proofs.Units.Alike.{modify_at-none, count_same, count_more, any_kept, any_here}

-- the changed instance has the same host, and stays bare and within limits
pub record Keeps (x y : Instance) : Type 0 where
  pub host : host_of y ≡ host_of x
  pub bare : IsBare x → IsBare y
  pub limits : IsInstanceInLimits x → IsInstanceInLimits y

-- it is judged as before, or newly at the next place
abbrev pub IsJudgedAlike : Instance → Instance → Type 0
IsJudgedAlike x y = report_place y ≡ report_place x

abbrev pub IsNewlyJudged : ℕ → Instance → Instance → Type 0
IsNewlyJudged n x y = (report_place x ≡ None) × (report_place y ≡ Some (n + 1))

abbrev pub IsGoodChange : UnitBook → Instance → Instance → Type 0
IsGoodChange b x y = Keeps x y × (IsJudgedAlike x y ⊎ IsNewlyJudged (count_by is_judged b.instances) x y)

-- the judged reports have the places up to their count
pub record ArePlaced (xs : List Instance) : Type 0 where
  pub places : (n : ℕ) → n < count_by is_judged xs → IsTrue (has_place xs (n + 1))
  pub in_range : All (λ x. IfSome (report_place x) (λ place. place ≤ count_by is_judged xs)) xs

abbrev IsInRange : ℕ → Instance → Type 0
IsInRange n x = IfSome (report_place x) (λ place. place ≤ n)

-- its report has the place n
abbrev IsAt : ℕ → Instance → Bool
IsAt n x = option_any (λ place. place == n) (report_place x)

-- the instance at an index is changed
module _ (f : Instance → Instance) (xs : List Instance) (i : ℕ) (x : Instance) (stands : slice_get xs i ≡ Some x) (placed : ArePlaced xs) where
  in_range_after : (m : ℕ) → count_by is_judged xs ≤ m → IsInRange m (f x) → All (IsInRange m) (modify_at f xs i)
  in_range_after m more now =
      let n : ℕ = count_by is_judged xs in
      all_changed (IsInRange m) f xs i
      (All-weaker (IsInRange n) (IsInRange m) (λ y low. IfSome_then (report_place y) low (λ place below. omega arith)) xs placed.in_range)
      (λ y is before. (let same : x ≡ y = cc in subst (λ z. IsInRange m (f z)) same now))

  placed_alike : IsJudgedAlike x (f x) → ArePlaced (modify_at f xs i)
  placed_alike alike =
      let many : count_by is_judged (modify_at f xs i) ≡ count_by is_judged xs = count_same is_judged f xs i x stands (ap is_some alike) in
      record {
        places = λ n within.
            any_kept (IsAt (n + 1)) f xs i
            (λ y is passes.
            (let same : x ≡ y = cc in
            subst (λ z. IsAt (n + 1) (f z) ≡ true) same
            (ap (option_any (λ place. place == n + 1)) alike ∙ subst (λ z. IsAt (n + 1) z ≡ true) (sym same) passes)))
            (placed.places n (omega arith));
        in_range = subst (λ m. All (IsInRange m) (modify_at f xs i)) (sym many)
            (in_range_after (count_by is_judged xs) (omega arith) (at_most (count_by is_judged xs) (all_here placed.in_range)));
      }
    where
      all_here : All (IsInRange (count_by is_judged xs)) xs → IsInRange (count_by is_judged xs) x
      all_here all = all_get (IsInRange (count_by is_judged xs)) xs i x all stands

      at_most : (n : ℕ) → IsInRange n x → IsInRange n (f x)
      at_most n low = subst (λ o. IfSome o (λ place. place ≤ n)) (sym alike) low

  placed_newly : IsNewlyJudged (count_by is_judged xs) x (f x) → ArePlaced (modify_at f xs i)
  placed_newly new =
      let many : count_by is_judged (modify_at f xs i) ≡ count_by is_judged xs + 1 = count_more is_judged f xs i x stands (ap is_some new.0) (ap is_some new.1) in
      record {
        places = λ n within. cases n (omega arith) (ltb n (count_by is_judged xs)) refl;
        in_range = subst (λ m. All (IsInRange m) (modify_at f xs i)) (sym many)
            (in_range_after (count_by is_judged xs + 1) (omega arith)
            (subst (λ o. IfSome o (λ place. place ≤ count_by is_judged xs + 1)) (sym new.1) (let last : count_by is_judged xs + 1 ≤ count_by is_judged xs + 1 = omega arith in last)));
      }
    where
      cases : (n : ℕ) → n < count_by is_judged xs + 1 → (b : Bool) → ltb n (count_by is_judged xs) ≡ b → IsTrue (has_place (modify_at f xs i) (n + 1))
      cases n within true below =
          any_kept (IsAt (n + 1)) f xs i
          (λ y is passes.
          (let same : x ≡ y = cc in
          let never : false ≡ true =
          sym (ap (option_any (λ place. place == n + 1)) new.0) ∙ subst (λ z. IsAt (n + 1) z ≡ true) (sym same) passes in
          absurd cc))
          (placed.places n (ltb-true n (count_by is_judged xs) below))
      cases n within false past =
          let low : count_by is_judged xs ≤ n = ltb-false n (count_by is_judged xs) past in
          any_here (IsAt (n + 1)) f xs i x stands
          (ap (option_any (λ place. place == n + 1)) new.1 ∙ eq-eqb (count_by is_judged xs + 1) (n + 1) (omega arith))

-- a changed instance, if there is one
placed_after : (f : Instance → Instance) (xs : List Instance) (i : ℕ) → ArePlaced xs
    → ((x : Instance) → slice_get xs i ≡ Some x → IsJudgedAlike x (f x) ⊎ IsNewlyJudged (count_by is_judged xs) x (f x))
    → ArePlaced (modify_at f xs i)
placed_after f xs i placed judged = cases (slice_get xs i) refl
  where
    cases : (o : Option Instance) → slice_get xs i ≡ o → ArePlaced (modify_at f xs i)
    cases None is = subst ArePlaced (sym (modify_at-none f xs i is)) placed
    cases (Some x) is = elim (judged x is) [
      | inl alike ↦ placed_alike f xs i x is placed alike
      | inr new ↦ placed_newly f xs i x is placed new
    ]

-- the owner's host is the same, so its user is the same
other_users : (hosts : List HostRow) (x y a b : Instance) → Keeps x a → Keeps y b → AreOfOtherUsers hosts x y → AreOfOtherUsers hosts a b
other_users hosts x y a b first second others = λ given also same.
    others (sym (ap is_some first.host) ∙ given) (sym (ap is_some second.host) ∙ also)
    (sym (ap (option_and_then (account_at hosts)) first.host) ∙ same ∙ ap (option_and_then (account_at hosts)) second.host)

pub owner_among : (hosts : List HostRow) (x y : Instance) → Keeps x y → HasOwnerAmong hosts x → HasOwnerAmong hosts y
owner_among hosts x y keeps among = subst (λ o. IfSome o (λ host. IsTrue (is_some (nth hosts host)))) (sym keeps.host) among

pub keeps_self : (x : Instance) → Keeps x x
keeps_self x = record { host = refl; bare = λ bare. bare; limits = λ limits. limits }

-- a workunit with one instance changed
unit_well : (hosts : List HostRow) (apps : List App) (f : Instance → Instance) (i : ℕ) (b : UnitBook) → IsWellUnit hosts apps b
    → ((x : Instance) → slice_get b.instances i ≡ Some x → IsGoodChange b x (f x)) → IsWellUnit hosts apps (with_number f i b)
unit_well hosts apps f i b well good =
    let xs : List Instance = b.instances in
    let ys : List Instance = modify_at f b.instances i in
    let placed : ArePlaced ys =
    placed_after f xs i (record { places = well.places; in_range = well.in_range }) (λ x is. (good x is).1) in
    record {
      one_for_each_user = pairs_changed (AreOfOtherUsers hosts) f xs i well.one_for_each_user
          (λ x is k z there. (other_users hosts z x z (f x) (keeps_self z) (good x is).0, other_users hosts x z (f x) z (good x is).0 (keeps_self z)));
      places = placed.places;
      in_range = placed.in_range;
      bare = all_changed IsBare f xs i well.bare (λ x is. (good x is).0.bare);
      owners = all_changed (HasOwnerAmong hosts) f xs i well.owners (λ x is. owner_among hosts x (f x) (good x is).0);
      app = well.app;
      few = (let few : length xs ≤ most_instances = well.few in let same : length ys ≡ length xs = length-modify_at f xs i in omega arith);
      limits = well.limits;
      instances = all_changed IsInstanceInLimits f xs i well.instances (λ x is. (good x is).0.limits);
    }

-- a world with the instance at a place changed
pub changed_well : (f : Instance → Instance) (w : World) (p : Place) → IsWell w
    → ((b : UnitBook) (x : Instance) → IsWellUnit w.hosts w.apps b → unit_at w p.unit ≡ Some b → slice_get b.instances p.number ≡ Some x → IsGoodChange b x (f x))
    → IsWell (with_changed f w p)
changed_well f w p well good = record {
  rows = rows_changed w (with_number f p.number) p.unit (λ b. refl) well.rows;
  units = all_changed_nth (IsWellUnit w.hosts w.apps) (with_number f p.number) w.units p.unit well.units
      (λ b stands unit. unit_well w.hosts w.apps f p.number b unit (λ x is. good b x unit stands is));
}
