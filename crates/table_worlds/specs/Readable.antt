-- Rule. The worlds that their rows determine, and the changes that keep them so.
use Rattle.std.specs.Prelude.{◌≤◌, Bool, true, ◌&&◌, nat_le, IsTrue, ℕ, List, All, length}
use Rattle.std.specs.List.{list_all}
use Rattle.texts.specs.Words.{is_word, IsWord}
use Rattle.sched_book.specs.Delta.{edited}
use Rattle.sched_book.specs.Imports.{has_app, with_rows}
use Rattle.sched_book.specs.Sound.{Sound}
use Rattle.sched_book.specs.declared.delta.Edit.{Edit}
use Rattle.sched_book.specs.declared.delta.Edit.TheVariants as edit
use Rattle.sched_book.specs.declared.rows.Rows.{Rows}
use Rattle.sched_book.specs.declared.rows.Rows.TheVariants as rows
use Rattle.sched_book.specs.declared.rows.Version.{Version}
use Rattle.sched_book.specs.declared.rows.Workunit.{Workunit}
use Rattle.sched_book.specs.declared.world.World.{World}

-- The applications that it names exist. The platforms of each host are words, at least one.
pub record IsReadable (w : World) : Type 0 where
  pub versions : All (λ v. IsTrue (has_app w.apps v.app)) w.versions
  pub units : All (λ b. IsTrue (has_app w.apps b.unit.app)) w.units
  pub hosts : All (λ h. (1 ≤ length h.platforms) × All IsWord h.platforms) w.hosts

-- these are words, at least one
abbrev pub are_words : List (List ℕ) → Bool
are_words words = nat_le 1 (length words) && list_all is_word words

-- the platforms that an edit gives to a host are words
abbrev pub gives_words : Edit → Bool
gives_words (edit.Host number h) = are_words h.platforms
gives_words (edit.Instance p x) = true
gives_words (edit.Class unit class) = true

-- the applications that new rows name exist
abbrev pub name_apps : World → Rows → Bool
name_apps w (rows.Accounts xs) = true
name_apps w (rows.Apps xs) = true
name_apps w (rows.Versions xs) = list_all (λ (v : Version). has_app w.apps v.app) xs
name_apps w (rows.Workunits xs) = list_all (λ (u : Workunit). has_app w.apps u.app) xs

-- a sound world is determined by its rows
abbrev pub SoundIsReadable : Type 0
SoundIsReadable = (w : World) → Sound w → IsReadable w

-- so is the world after edits that give words
abbrev pub StaysReadable : Type 0
StaysReadable = (w : World) (edits : List Edit) → IsReadable w → IsTrue (list_all gives_words edits) → IsReadable (edited w edits)

-- and the world with new rows that name its applications
abbrev pub RowsStayReadable : Type 0
RowsStayReadable = (w : World) (new : Rows) → IsReadable w → IsTrue (name_apps w new) → IsReadable (with_rows w new)
