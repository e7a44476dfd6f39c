-- What a commit keeps, if its result can be opened again.
use Rattle.std.proofs.Common.{◌≡◌, Bool, true, ◌&&◌, cond, ◌∷◌, take, Some, refl, subst}
use Rattle.std.specs.Prelude.{All, IfSome}
use Rattle.std.specs.Str.{bytes_eq}
use Rattle.std.proofs.lemmas.Bool.{eq-eqb}
use Rattle.std.proofs.lemmas.List.Elements.{All-head}
use Rattle.std.proofs.lemmas.Slice.Eq.{bytes_eq-Decides}
use Rattle.sched_book.specs.declared.world.World.{World}
use Rattle.stores.specs.Eras.{kept_before_last, this_era}
use Rattle.stores.specs.Held.{Calls, Batches, calls_with, batches_with}
use Rattle.stores.specs.Kinds.{same_kind}
use Rattle.stores.specs.Standing.{MayBeKept, MayStand}
use Rattle.stores.specs.declared.entry.Entry.{Entry}
use Rattle.stores.specs.declared.entry.Entry.TheVariants as entry
use Rattle.stores.specs.declared.kind.Kind.{Kind}
use Rattle.stores.specs.declared.kind.Kind.TheVariants.{Accounts, Apps, Versions, Workunits}

kind_itself : (kind : Kind) → same_kind kind kind ≡ true
kind_itself Accounts = refl
kind_itself Apps = refl
kind_itself Versions = refl
kind_itself Workunits = refl

-- if the result can be opened again, what the entry keeps may be kept
pub may_be_kept : (w : World) (e : Entry) (calls : Calls) (batches : Batches) → MayStand (record { world = w; calls = calls_with e calls; batches = batches_with e batches }) → MayBeKept w e
may_be_kept w (entry.Kept host k) calls batches stands =
    let P : Bool → Type 0 = λ b. All (λ x. MayBeKept w (entry.Kept host x)) (cond b (k ∷ take (kept_before_last this_era) (calls host)) (calls host)) in
    All-head (λ x. MayBeKept w (entry.Kept host x)) k (take (kept_before_last this_era) (calls host)) (subst P (eq-eqb host host refl) (stands.calls host))
may_be_kept w (entry.Batch kind name b) calls batches stands =
    let P : Bool → Type 0 = λ s. IfSome (cond (s && bytes_eq name name) (Some b) (batches kind name)) (λ x. MayBeKept w (entry.Batch kind name x)) in
    let Q : Bool → Type 0 = λ t. IfSome (cond t (Some b) (batches kind name)) (λ x. MayBeKept w (entry.Batch kind name x)) in
    subst Q ((bytes_eq-Decides name name).1 refl) (subst P (kind_itself kind) (stands.batches kind name))
may_be_kept w entry.Nothing calls batches stands = tt
