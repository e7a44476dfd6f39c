-- A call that only read owes nothing more. One that read before it acted owes what it owes from there on.
use Rattle.std.proofs.Common.{◌≡◌, Bool, true, inl, inr, sym, ◌∙◌, subst}
use Rattle.stores.specs.Acting.{Parts, Acts, ActsWhole}
use Rattle.stores.specs.Held.{Held, IsLeft}

-- what is left as it was is the same
pub left_is : (old new : Held) → IsLeft old new → new ≡ old
left_is old new left = λ i. record {
  world = left.world_is i;
  calls = λ host. left.calls_are host i;
  batches = λ kind batch. left.batches_are kind batch i;
}

pub left_back : (old new : Held) → IsLeft old new → IsLeft new old
left_back old new left = record {
  world_is = sym left.world_is;
  calls_are = λ host. sym (left.calls_are host);
  batches_are = λ kind batch. sym (left.batches_are kind batch);
}

pub left_on : (old mid new : Held) → IsLeft old mid → IsLeft mid new → IsLeft old new
left_on old mid new before left = record {
  world_is = left.world_is ∙ before.world_is;
  calls_are = λ host. left.calls_are host ∙ before.calls_are host;
  batches_are = λ kind batch. left.batches_are kind batch ∙ before.batches_are kind batch;
}

-- What a store owes after a read, as its laws say.
module _ {S : Type 0} (store : Parts S) (old mid : S)
    (was_clean : store.clean mid → store.clean old)
    (was_honest : store.honest mid → store.honest old)
    (stays_kept : store.honest mid → store.well_kept old → store.well_kept mid)
    (stays_open : store.lasting → store.honest old → store.honest mid)
    (stays_held : store.honest mid → store.well_kept old → IsLeft (store.holds old) (store.holds mid))
    (stays_left : (h : Held) → store.may_leave mid h → store.may_leave old h)
    (stays_reopened : (store.honest old → store.well_kept old) → store.reopens old → store.reopens mid) where
  -- an answer that is given only if the store is open owes no more
  pub reads_act : (good : Bool) (P : Held → Type 0) → (store.clean mid → good ≡ true → store.honest mid) → ActsWhole store good P old mid
  reads_act good P is_open = record {
    acts = record {
      was_clean = was_clean;
      was_honest = was_honest;
      is_open = is_open;
      lasts = stays_open;
      stays_kept = stays_kept;
      left = λ h may. inl (stays_left h may);
      reopens = λ reopens more. stays_reopened (λ honest. (more honest).0) reopens;
    };
    unchanged = λ honest kept bad. stays_held honest kept;
  }

  -- what holds of the contents at mid holds of the contents before
  pub said_on : (P : Held → Type 0) → store.honest mid → store.well_kept old → P (store.holds mid) → P (store.holds old)
  said_on P honest kept = subst P (left_is (store.holds old) (store.holds mid) (stays_held honest kept))

  -- A call that acts after the read acts on what was held before it. What Q says of what was held at mid, P says of what was held before.
  pub acts_on : (good : Bool) (Q : Held → Held → Type 0) (P : Held → Type 0) (new : S)
      → (store.honest mid → store.well_kept old → (h : Held) → Q (store.holds old) h → P h)
      → ActsWhole store good (Q (store.holds mid)) mid new → ActsWhole store good P old new
  acts_on good Q P new on whole = record {
    acts = record {
      was_clean = λ clean. was_clean (whole.acts.was_clean clean);
      was_honest = λ honest. was_honest (whole.acts.was_honest honest);
      is_open = whole.acts.is_open;
      lasts = λ lasting honest. whole.acts.lasts lasting (stays_open lasting honest);
      stays_kept = λ honest kept. whole.acts.stays_kept honest (stays_kept (whole.acts.was_honest honest) kept);
      left = λ h may. elim (whole.acts.left h may) [
        | inl before ↦ inl (stays_left h before)
        | inr ahead ↦ inr (
          was_honest ahead.0,
          λ kept. on ahead.0 kept h (said_on (λ held. Q held h) ahead.0 kept (ahead.1 (stays_kept ahead.0 kept))),
        )
      ];
      reopens = λ reopens more.
          whole.acts.reopens (stays_reopened (λ honest. (more honest).0) reopens)
          (λ honest. let kept = (more (was_honest honest)).0 in (
            stays_kept honest kept,
            λ h says. (more (was_honest honest)).1 h (on honest kept h (said_on (λ held. Q held h) honest kept says)),
          ));
    };
    unchanged = λ honest kept bad.
        left_on _ _ _ (stays_held (whole.acts.was_honest honest) kept)
        (whole.unchanged honest (stays_kept (whole.acts.was_honest honest) kept) bad);
  }

-- What P says, Q says. If the new answer is good, so was the old one.
pub acts_too : {S : Type 0} (store : Parts S) (good better : Bool) (P Q : Held → Type 0) (old new : S) → (better ≡ true → good ≡ true) → ((h : Held) → P h → Q h)
    → Acts store good P old new → Acts store better Q old new
acts_too store good better P Q old new tells on acts = record {
  was_clean = acts.was_clean;
  was_honest = acts.was_honest;
  is_open = λ clean is. acts.is_open clean (tells is);
  lasts = acts.lasts;
  stays_kept = acts.stays_kept;
  left = λ h may. elim (acts.left h may) [
    | inl before ↦ inl before
    | inr ahead ↦ inr (ahead.0, λ kept. on h (ahead.1 kept))
  ];
  reopens = λ reopens more. acts.reopens reopens (λ honest. ((more honest).0, λ h says. (more honest).1 h (on h says)));
}

pub whole_too : {S : Type 0} (store : Parts S) (good : Bool) (P Q : Held → Type 0) (old new : S) → ((h : Held) → P h → Q h) → ActsWhole store good P old new → ActsWhole store good Q old new
whole_too store good P Q old new on whole = record { acts = acts_too store good good P Q old new (λ is. is) on whole.acts; unchanged = whole.unchanged }
