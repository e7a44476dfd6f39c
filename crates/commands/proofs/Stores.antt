-- A store that a service was over agrees with what the service agrees with.
use Rattle.std.proofs.Common.{◌≡◌, ◌⊎◌, ℕ, List, [], subst, sym, inl, inr}
use Rattle.sched_book.specs.Sound.{Sound}
use Rattle.stores.specs.Acting.{Parts}
use Rattle.stores.specs.Held.{Held, IsLeft}
use Rattle.stores.proofs.ReadsAct.{left_is}
use Rattle.sched_server.proofs.Lasting.{all_stays_over_stops}
use Rattle.sched_server.specs.Arrivals.{Came, StoreStandsFor, HandledOverStops}
use Rattle.sched_server.specs.Laws.{AllStay, ReadsStand}
use Rattle.sched_server.specs.Serving.{ServiceStandsFor, ServesInTurn}
use Rattle.sched_server.specs.Views.{store_of, operator_key_of}
use Rattle.sched_server.specs.declared.service.Service.{Service}
use Rattle.commands.specs.Databases.{ServesStore}

-- What a store owes after a read, as its laws say.
module _ {S : Type 0} (store : Parts S)
    (stays_clean : (a b : S) → store.reads a b → store.clean b → store.clean a)
    (stays_honest : (a b : S) → store.reads a b → store.honest b → store.honest a)
    (stays_kept : (a b : S) → store.reads a b → store.honest b → store.well_kept a → store.well_kept b)
    (stays_reopened : (a b : S) → store.reads a b → (store.honest a → store.well_kept a) → store.reopens a → store.reopens b)
    (stays_held : (a b : S) → store.reads a b → store.honest b → store.well_kept a → IsLeft (store.holds a) (store.holds b))
    (stays_left : (a b : S) → store.reads a b → (h : Held) → store.may_leave b h → store.may_leave a h)
    (settled : (a : S) → store.honest a → store.well_kept a → Sound (store.holds a).world → (h : Held) → store.may_leave a h → IsLeft (store.holds a) h)
    (reads_stand : ReadsStand store) where
  -- what lasts over messages, between what an open store held and what a stop leaves
  lasts_since : (key points : List ℕ) (before : List Came) (s : S) → StoreStandsFor store key points before s → store.honest s → (h : Held)
      → store.may_leave s h ⊎ ((stretches : List (List Came)) × HandledOverStops key stretches (store.holds s) h) → AllStay (store.holds s).world h.world
  lasts_since key points before s st honest h found =
      let stood = st.held honest in
      let over : (stretches : List (List Came)) × HandledOverStops key stretches (store.holds s) h = elim found [
        | inl may ↦ ([], settled s honest stood.0 stood.1.sound.world h may)
        | inr some ↦ some
      ] in
      all_stays_over_stops key (store.holds s) h points over.0 before stood.1 over.1

  -- no service was made over it
  pub none_handed : (key : List ℕ) (old new : S) → store.reads old new → ServesStore store key [] old new
  none_handed key old new reads = record {
    was_clean = stays_clean old new reads;
    keyed = λ operator points before st clean none. absurd none;
    stays = λ operator points before st honest h may. lasts_since operator points before old st honest h (inl (stays_left old new reads h may));
    stands = λ key points before st clean. reads_stand old new reads key points before st;
    reopens = stays_reopened old new reads;
  }

  pub service_handed : (came : List Came) (old new : S) (first last : Service S) → new ≡ store_of last → store.reads old (store_of first)
      → ((key points : List ℕ) (before : List Came) → StoreStandsFor store key points before old → ServiceStandsFor store key points before first)
      → ServesInTurn store came first last → ServesStore store (operator_key_of first) came old new
  service_handed came old new first last same reads begins serves =
      subst (ServesStore store (operator_key_of first) came old) (sym same) (record {
        was_clean = λ clean. stays_clean old (store_of first) reads (serves.was_clean clean);
        keyed = λ operator points before st clean some. sym ((begins operator points before st).keyed (serves.was_open clean some));
        stays = λ operator points before st honest h may. lasts_since operator points before old st honest h (elim (serves.left h may) [
          | inl earlier ↦ inl (stays_left old (store_of first) reads h earlier)
          | inr ahead ↦
              let kept = (st.held honest).0 in
              let last = ahead.1 (stays_kept old (store_of first) reads ahead.0 kept) in
              let held = left_is (store.holds old) (store.holds (store_of first)) (stays_held old (store_of first) reads ahead.0 kept) in
              inr (
                last.0,
                subst (λ k. HandledOverStops k last.0 (store.holds old) h) (sym ((begins operator points before st).keyed ahead.0))
                    (subst (λ g. HandledOverStops (operator_key_of first) last.0 g h) held last.1),
              )
        ]);
        stands = λ key points before st clean. (serves.stands key points before (begins key points before st) clean).stands;
        reopens = λ kept reopens.
            serves.reopens (λ honest. stays_kept old (store_of first) reads honest (kept (stays_honest old (store_of first) reads honest)))
            (stays_reopened old (store_of first) reads kept reopens);
      })
