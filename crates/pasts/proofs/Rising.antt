-- The numbers of a key's first-heard calls rise.
use Rattle.std.proofs.Common.{◌≡◌, ℕ, List, [], ◌∷◌, ◌++◌, Bool, true, false, nat_lt, refl, sym, ◌∙◌, ap, subst}
use Rattle.std.specs.Prelude.{if◌then◌else◌}
use Rattle.std.proofs.lemmas.Bool.{and_parts, ltb-true}
use Rattle.reply_register.specs.Keys.{same_key}
use Rattle.reply_register.specs.declared.key.Key.{Key}
use Rattle.rpc_records.specs.declared.request.Request.{Request}
use Rattle.sched_book.specs.declared.settings.Settings.{Settings}
use Rattle.pasts.specs.FirstHeard.{above_said, is_above, is_first_heard, first_heard}
use Rattle.pasts.specs.Laws.{NumbersRise}
use Rattle.pasts.specs.Messages.{Rpc, Message, key_of}
use Rattle.pasts.proofs.ToldNone.{call_rises}

-- the head of a part of the first-heard messages is first heard after the rest
abbrev HeadIsFirst : Settings → List Message → Type 0
HeadIsFirst s heard =
    (newer : List Message) (m : Message) (older : List Message) → heard ≡ newer ++ m ∷ older → is_first_heard s older m.said ≡ true

pub head_of : (x y : Message) (xs ys : List Message) → x ∷ xs ≡ y ∷ ys → (x ≡ y) × (xs ≡ ys)
head_of x y xs ys same = (cc, cc)

one_more : (s : Settings) (m : Message) (heard : List Message) (first : Bool) → is_first_heard s heard m.said ≡ first
    → HeadIsFirst s heard → HeadIsFirst s (if first then m ∷ heard else heard)
one_more s m heard false is heads newer n older split = heads newer n older split
one_more s m heard true is heads [] n older split =
    let same : (m ≡ n) × (heard ≡ older) = head_of m n heard older split in
    let P : List Message × Message → Type 0 = λ p. is_first_heard s p.0 p.1.said ≡ true in
    let pair : ◌≡◌ {A = List Message × Message} (heard, m) (older, n) = λ i. (same.1 i, same.0 i) in
    subst P pair is
one_more s m heard true is heads (x ∷ newer) n older split =
    heads newer n older (head_of m x heard (newer ++ n ∷ older) split).1

no_split : (newer : List Message) (m : Message) (older : List Message) → [] ≡ newer ++ m ∷ older → ⊥
no_split [] m older split = cc
no_split (x ∷ newer) m older split = cc

heads_first : (s : Settings) (messages : List Message) → HeadIsFirst s (first_heard s messages)
heads_first s [] = λ newer m older split. absurd (no_split newer m older split)
heads_first s (m ∷ messages) = one_more s m (first_heard s messages) _ refl (heads_first s messages)

above_each : (key : Key) (seqno : ℕ) (between oldest : List Message) (early : Message) (earlier : Request)
    → is_above key seqno (between ++ early ∷ oldest) ≡ true → early.said ≡ Rpc earlier → same_key key (key_of earlier) ≡ true
    → nat_lt earlier.rpc_seqno seqno ≡ true
above_each key seqno [] oldest early earlier above is same =
    let below : above_said key seqno (Rpc earlier) ≡ true =
    ap (above_said key seqno) (sym is) ∙ (and_parts (above_said key seqno early.said) (is_above key seqno oldest) above).0 in
    rw same at below
above_each key seqno (m ∷ between) oldest early earlier above is same =
    above_each key seqno between oldest early earlier
    (and_parts (above_said key seqno m.said) (is_above key seqno (between ++ early ∷ oldest)) above).1 is same

pub numbers_rise : NumbersRise
numbers_rise s messages newer between oldest late early later earlier split late_is early_is same =
    let older : List Message = between ++ early ∷ oldest in
    ltb-true earlier.rpc_seqno later.rpc_seqno
    (above_each (key_of later) later.rpc_seqno between oldest early earlier
    (call_rises s later older (ap (is_first_heard s older) (sym late_is) ∙ heads_first s messages newer late older split)) early_is same)
