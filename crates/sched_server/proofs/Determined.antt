-- The answered arrivals, the upgrade points and the settings determine what a store holds, and the responses.
use Rattle.std.proofs.Common.{◌≡◌, ℕ, List, [], ◌∷◌, length, Result, refl, sym, ◌∙◌, ap, subst}
use Rattle.std.proofs.lemmas.List.{length-map}
use Rattle.http_messages.specs.Deciding.{Asked}
use Rattle.http_messages.specs.Deciding as asks
use Rattle.http_messages.specs.Meaning.{Means, MessagesHaveOneMeaning}
use Rattle.office_files.proofs.TextRecords.{text_has_one_list}
use Rattle.rpc_records.specs.declared.fault.Fault.{Fault}
use Rattle.sched_book.specs.declared.rows.Rows.{Rows}
use Rattle.stores.specs.Eras.{era_at}
use Rattle.stores.specs.declared.kind.Kind.{Kind}
use Rattle.pasts.specs.Messages.{Said, Import}
use Rattle.pasts.specs.Stands.{Heard, Past, messages_in}
use Rattle.pasts.specs.UpgradePoints.{AreOfEras}
use Rattle.past_laws.proofs.Determined.{tables_are_determined}
use Rattle.message_engine.specs.Imports.{reading_in, as_refusal, ReadsIn}
use Rattle.message_engine.specs.Stores.{tables_by}
use Rattle.sched_server.specs.Arrivals.{Answered, IsHeard, IsPastOf, answered}
use Rattle.sched_server.specs.Handled.{response_to}
use Rattle.sched_server.specs.Laws.{StoresAreDetermined, arrivals_of}
use Rattle.sched_server.specs.Meanings.{SaysIn, allowed_by}
use Rattle.sched_server.specs.declared.arrival.Arrival.{Arrival}

-- ---- one message

-- a text has one list of records, and so one reading
one_reading : (era : ℕ) (kind : Kind) (text : List ℕ) (read other : Result Rows Fault) → ReadsIn era kind text read → ReadsIn era kind text other → read ≡ other
one_reading era kind text read other (said, (records, are, reads), is) (told, (list, lists, tells), gives) =
    let only = (text_has_one_list text).2 in
    let same : records ≡ list = only records are ∙ sym (only list lists) in
    is ∙ ap as_refusal (sym reads ∙ ap (reading_in era kind) same ∙ tells) ∙ sym gives

one_said : (era : ℕ) (asked : Asked) (said other : Said) → SaysIn era asked said → SaysIn era asked other → said ≡ other
one_said era (asks.call body) said other says tells = says ∙ sym tells
one_said era (asks.import kind batch text) said other says tells =
    says.2 ∙ ap (Import kind batch text) (one_reading era kind text says.0 tells.0 says.1 tells.1) ∙ sym tells.2
one_said era asks.tick said other says tells = says ∙ sym tells
one_said era (asks.statement host) said other says tells = says ∙ sym tells
one_said era (asks.wrong_method allowed) said other says tells = says ∙ sym tells
one_said era (asks.refused f) said other says tells = says ∙ sym tells

head_of : (x y : Arrival) (xs ys : List Arrival) → x ∷ xs ≡ y ∷ ys → (x ≡ y) × (xs ≡ ys)
head_of x y xs ys same = (cc, cc)

no_more : (x : Arrival) (xs : List Arrival) → x ∷ xs ≡ [] → ⊥
no_more x xs same = cc

module _ (one_meaning : MessagesHaveOneMeaning) (key : List ℕ) where
  one_asked : (a b : Answered) (h g : Heard) → a.arrival ≡ b.arrival → (is : IsHeard key a h) → (are : IsHeard key b g) → is.asked ≡ are.asked
  one_asked a b h g same is are =
      let P : Arrival → Type 0 = λ x. Means key x.bytes are.asked in
      one_meaning key a.arrival.bytes is.asked are.asked is.means (subst P (sym same) are.means)

  one_message : (a b : Answered) (h g : Heard) → a.arrival ≡ b.arrival → h.message.era ≡ g.message.era → IsHeard key a h → IsHeard key b g
      → h.message ≡ g.message
  one_message a b h g same era is are =
      let P : Asked × ℕ → Type 0 = λ p. SaysIn p.1 p.0 g.message.said in
      let both : ◌≡◌ {A = Asked × ℕ} (are.asked, g.message.era) (is.asked, h.message.era) = λ i. (sym (one_asked a b h g same is are) i, sym era i) in
      let said : h.message.said ≡ g.message.said = one_said h.message.era is.asked h.message.said g.message.said is.says (subst P both are.says) in
      let now : h.message.now ≡ g.message.now = is.moment ∙ ap (λ x. x.now) same ∙ sym are.moment in
      λ i. record { now = now i; said = said i; era = era i }

  one_response : (a b : Answered) (h : Heard) → a.arrival ≡ b.arrival → IsHeard key a h → IsHeard key b h → a ≡ b
  one_response a b h same is are =
      let response : a.response ≡ b.response =
      is.response ∙ ap (λ x. response_to (allowed_by x) h.answer) (one_asked a b h h same is are) ∙ sym are.response in
      λ i. record { arrival = same i; response = response i }

  -- ---- many messages

  same_messages : (points : List ℕ) (before other_before : List Answered) (past other : Past) → arrivals_of before ≡ arrivals_of other_before
      → IsPastOf key before past → IsPastOf key other_before other → AreOfEras points past → AreOfEras points other → messages_in past ≡ messages_in other
  same_messages points [] [] [] [] same tells says eras ages = refl
  same_messages points [] [] [] (g ∷ other) same tells says eras ages = absurd says
  same_messages points [] [] (h ∷ past) other same tells says eras ages = absurd tells
  same_messages points [] (b ∷ other_before) past other same tells says eras ages = absurd (no_more b.arrival (arrivals_of other_before) (sym same))
  same_messages points (a ∷ before) [] past other same tells says eras ages = absurd (no_more a.arrival (arrivals_of before) same)
  same_messages points (a ∷ before) (b ∷ other_before) [] other same tells says eras ages = absurd tells
  same_messages points (a ∷ before) (b ∷ other_before) (h ∷ past) [] same tells says eras ages = absurd says
  same_messages points (a ∷ before) (b ∷ other_before) (h ∷ past) (g ∷ other) same tells says eras ages =
      let parts = head_of a.arrival b.arrival (arrivals_of before) (arrivals_of other_before) same in
      let rest : messages_in past ≡ messages_in other = same_messages points before other_before past other parts.1 tells.1 says.1 eras.1 ages.1 in
      let long : length past ≡ length other =
      sym (length-map past (λ (x : Heard). x.message)) ∙ ap length rest ∙ length-map other (λ (x : Heard). x.message) in
      let message : h.message ≡ g.message =
      one_message a b h g parts.0 (eras.0 ∙ ap (era_at points) long ∙ sym ages.0) tells.0 says.0 in
      λ i. message i ∷ rest i

  same_responses : (before other_before : List Answered) (past : Past) → arrivals_of before ≡ arrivals_of other_before → IsPastOf key before past → IsPastOf key other_before past
      → before ≡ other_before
  same_responses [] [] past same tells says = refl
  same_responses [] (b ∷ other_before) past same tells says = absurd (no_more b.arrival (arrivals_of other_before) (sym same))
  same_responses (a ∷ before) [] past same tells says = absurd (no_more a.arrival (arrivals_of before) same)
  same_responses (a ∷ before) (b ∷ other_before) [] same tells says = absurd tells
  same_responses (a ∷ before) (b ∷ other_before) (h ∷ past) same tells says =
      let parts = head_of a.arrival b.arrival (arrivals_of before) (arrivals_of other_before) same in
      let one : a ≡ b = one_response a b h parts.0 tells.0 says.0 in
      let rest : before ≡ other_before = same_responses before other_before past parts.1 tells.1 says.1 in
      λ i. one i ∷ rest i

pub stores_are_determined : MessagesHaveOneMeaning → StoresAreDetermined
stores_are_determined one_meaning era key one other points before other_before st agrees settings same =
    let messages = same_messages one_meaning key points (answered before) (answered other_before) st.past agrees.past same st.tells agrees.tells st.in_era.eras agrees.in_era.eras in
    let made = tables_are_determined (tables_by one) (tables_by other) st.past agrees.past st.stands agrees.stands settings messages in
    (made.0, same_responses one_meaning key (answered before) (answered other_before) st.past same st.tells (subst (IsPastOf key (answered other_before)) (sym made.1) agrees.tells))
