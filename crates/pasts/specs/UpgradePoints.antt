-- Promise. The points of a past at which upgrades came, and the eras of its messages that follow from them. (This project's own.)
use Rattle.std.specs.Prelude.{◌≡◌, ℕ, suc, ◌≤◌, List, [], ◌∷◌, ◌++◌, length, take}
use Rattle.std.specs.List.{AllByRecursion}
use Rattle.reply_register.specs.declared.key.Key.{Key}
use Rattle.sched_book.specs.declared.settings.Settings.{Settings}
use Rattle.stores.specs.Eras.{era_at, new_upgrade_points}
use Rattle.pasts.specs.Messages.{Message}
use Rattle.pasts.specs.Repeats.{calls_heard, kept_calls}
use Rattle.pasts.specs.Stands.{Heard, Past, then_heard}
use Rattle.pasts.specs.declared.answer.AnswerContent.{AnswerContent}

-- each message is of the era of its place
abbrev pub AreOfEras : List ℕ → Past → Type 0
AreOfEras upgrade_points [] = Unit {0}
AreOfEras upgrade_points (h ∷ past) = (h.message.era ≡ era_at upgrade_points (length past)) × AreOfEras upgrade_points past

-- A past is in an era, with its upgrade points. There were as many upgrades, none later than its last message. Each message is of the era of its
-- place.
pub record IsInEra (era : ℕ) (upgrade_points : List ℕ) (past : Past) : Type 0 where
  pub upgrades : length upgrade_points ≡ era
  pub came : AllByRecursion (λ upgrade_point. upgrade_point ≤ length past) upgrade_points
  pub eras : AreOfEras upgrade_points past

-- the empty past is in any era, with the upgrade points of new tables
abbrev pub NewPastsAreInEra : Type 0
NewPastsAreInEra = (era : ℕ) → IsInEra era (new_upgrade_points era) []

-- a past stays in its era with one message more of that era
abbrev pub ErasGoOn : Type 0
ErasGoOn =
    (era : ℕ) (upgrade_points : List ℕ) (past : Past) (m : Message) (answer : AnswerContent) → IsInEra era upgrade_points past → m.era ≡ era
    → IsInEra era upgrade_points (then_heard past m answer)

-- An upgrade leads to the next era. Its upgrade point is the length of the past. No message of the past changes its era.
abbrev pub UpgradesLeadOn : Type 0
UpgradesLeadOn =
    (era : ℕ) (upgrade_points : List ℕ) (past : Past) → IsInEra era upgrade_points past → IsInEra (suc era) (upgrade_points ++ length past ∷ []) past

-- with the upgrade points of new tables all messages are of that era
abbrev pub NewTablesHaveOneEra : Type 0
NewTablesHaveOneEra =
    (era : ℕ) (past : Past) → IsInEra era (new_upgrade_points era) past → AllByRecursion (λ h. h.message.era ≡ era) past

-- What is kept of a key, if no upgrade point is earlier than the first upgrade's. It is its latest four calls, counted from its last call before that
-- point on. With the upgrade points of new tables there is no call before it.
abbrev pub KeptSinceTheFirstUpgrade : Type 0
KeptSinceTheFirstUpgrade =
    (s : Settings) (key : Key) (era upgrade_point : ℕ) (upgrade_points : List ℕ) (newer older : Past)
    → IsInEra era (upgrade_point ∷ upgrade_points) (newer ++ older) → length older ≡ upgrade_point → AllByRecursion (λ later. upgrade_point ≤ later) upgrade_points
    → (since : List Heard) × (calls_heard s key (newer ++ older) ≡ since ++ calls_heard s key older)
    × (kept_calls s key (newer ++ older) ≡ take 4 (since ++ take 1 (calls_heard s key older)))
