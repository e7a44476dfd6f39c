-- Promise. Eras. Each upgrade of a project's tables begins an era, and the messages of an era follow its rules. (This project's own.)
use Rattle.std.specs.Prelude.{ℕ, zero, suc, nat_le, if◌then◌else◌, List, [], ◌∷◌, replicate}

-- The era of a message is how many upgrades came before it. The upgrade point of an upgrade is how many messages were answered before it.
abbrev pub era_at : List ℕ → ℕ → ℕ
era_at [] answered = 0
era_at (upgrade_point ∷ upgrade_points) answered = if nat_le upgrade_point answered then suc (era_at upgrade_points answered) else era_at upgrade_points answered

-- The era of this program. Its tables were upgraded twice: from the schema that kept only the last call of a host, and from the one whose
-- versions had no classes.
abbrev pub this_era : ℕ
this_era = 2

-- the upgrade points of tables that are created in an era: all upgrades came before their first message
abbrev pub new_upgrade_points : ℕ → List ℕ
new_upgrade_points era = replicate era 0

-- how many calls of a host are kept in addition to its last: none before the first upgrade, three since
abbrev pub kept_before_last : ℕ → ℕ
kept_before_last zero = 0
kept_before_last (suc era) = 3

-- the first era in which versions have classes, and workunits may be marked
abbrev pub era_of_classes : ℕ
era_of_classes = 2
