-- Words. What a store over lists in memory holds. (This project's own.)
use Rattle.std.proofs.Common.{sym, subst}
use Rattle.std.specs.Prelude.{◌≡◌, ℕ, Bool, ◌&&◌, ◌==◌, List, map, filter, take, find, Option, option_map}
use Rattle.std.specs.Str.{bytes_eq}
use Rattle.reply_register.specs.Keeping.{most_kept}
use Rattle.reply_register.specs.declared.kept.Kept.{Kept}
use Rattle.sched_book.specs.declared.world.World.{World}
use Rattle.stores.specs.Held.{Held, IsLeft}
use Rattle.stores.specs.Kinds.{same_kind}
use Rattle.stores.specs.Standing.{MayStand}
use Rattle.stores.specs.declared.batch.KeptBatch.{KeptBatch}
use Rattle.stores.specs.declared.kind.Kind.{Kind}
use Rattle.message_engine.specs.declared.list_store.Batch.{Batch}
use Rattle.message_engine.specs.declared.list_store.HostCall.{HostCall}
use Rattle.message_engine.specs.declared.list_store.ListStore.{ListStore}

-- the kept calls of the host of a number; the list has the latest call first
abbrev pub calls_at : List HostCall → ℕ → List Kept
calls_at calls host = take most_kept (map (λ c. c.kept) (filter (λ c. c.host == host) calls))

-- the batch is of this kind and has this name
abbrev pub is_batch : Kind → List ℕ → Batch → Bool
is_batch kind name b = same_kind b.kind kind && bytes_eq b.name name

-- the kept import of a kind and name: the latest one counts
abbrev pub batch_at : List Batch → Kind → List ℕ → Option KeptBatch
batch_at batches kind name = option_map (λ b. b.kept) (find (is_batch kind name) batches)

-- the world that a store holds, and everything that it holds
abbrev pub world_of_list : ListStore → World
world_of_list store = store.desk

abbrev pub held_of_list : ListStore → Held
held_of_list store = record { world = world_of_list store; calls = calls_at store.calls.items; batches = batch_at store.batches.items }

-- a store that is as it was holds what it held
pub stays_left_alone : (a b : ListStore) → a ≡ b → IsLeft (held_of_list a) (held_of_list b)
stays_left_alone a b same = record {
  world_is = λ i. (held_of_list (sym same i)).world;
  calls_are = λ host. λ i. (held_of_list (sym same i)).calls host;
  batches_are = λ kind batch. λ i. (held_of_list (sym same i)).batches kind batch;
}

-- and can be opened again if it could before
pub stays_standing : (a b : ListStore) → a ≡ b → MayStand (held_of_list a) → MayStand (held_of_list b)
stays_standing a b same stands = subst (λ s. MayStand (held_of_list s)) same stands
