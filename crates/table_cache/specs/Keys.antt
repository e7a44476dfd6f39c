-- Words. Hosts by their accounts and host_cpids, and workunits by their names, as they are known.
use Rattle.std.specs.Prelude.{◌≡◌, ◌<◌, ◌==◌, ℕ, true, false, Bool, if◌then◌else◌, List, fold, Option, Some, option_map, IfSome}
use Rattle.std.specs.Cmp.Lexicographic.{slice_cmp}
use Rattle.std.specs.Ordering.{nat_cmp}
use Rattle.std.specs.Str.{bytes_eq}
use Rattle.sched_book.specs.Desk.{workunit_at}
use Rattle.sched_book.specs.Places.{option_any, is_host_of}
use Rattle.sched_book.specs.declared.rows.Workunit.{Workunit}
use Rattle.sched_book.specs.declared.world.World.{World}
use Rattle.table_desk.specs.declared.hosts.CountedHost.{CountedHost}
use Rattle.table_meaning.specs.declared.rows.StoredHost.{StoredHost}
use Rattle.table_meaning.specs.declared.rows.StoredRow.{StoredRow}
use Rattle.table_meaning.specs.declared.rows.StoredRow.TheVariants as stored
use Rattle.table_meaning.specs.declared.rows.StoredUnit.{StoredUnit}
use Rattle.table_cache.specs.LastNumbers.{AreNonePast}
use Rattle.table_cache.specs.RowsRead.{HoldOfEach}
use Rattle.table_cache.specs.declared.keys.HostKeyRead.{HostKeyRead}
use Rattle.table_cache.specs.declared.keys.UnitsRead.{UnitsRead}
use Rattle.table_cache.specs.declared.rows_read.RowsRead.{RowsRead}

-- this number passes, and no lesser one does
abbrev pub IsFirst : (ℕ → Bool) → ℕ → Type 0
IsFirst p number = (p number ≡ true) × ((n : ℕ) → n < number → p n ≡ false)

-- ---- hosts by their accounts and host_cpids

-- there is a host, and it has this account and this host_cpid
abbrev pub has_key : ℕ → List ℕ → Option CountedHost → Bool
has_key account cpid = option_any (λ (h : CountedHost). is_host_of account cpid h.row)

-- Of these hosts, the one of this number has this account and this host_cpid, and none of a lesser number has both.
abbrev pub IsFirstHost : (ℕ → Option CountedHost) → ℕ → List ℕ → ℕ → Type 0
IsFirstHost hosts account cpid = IsFirst (λ n. has_key account cpid (hosts n))

-- Each number that is known is that of the first of these hosts with its account and its host_cpid.
pub record AreKeysOf (hosts : ℕ → Option CountedHost) (keys : RowsRead (List ℕ) HostKeyRead) : Type 0 where
  pub each : HoldOfEach (slice_cmp nat_cmp) (λ cpid (k : HostKeyRead). IsFirstHost hosts k.account cpid k.host) keys

-- there is a host that stays with its account and its host_cpid, by a row
pub record KeepsKey (hosts : ℕ → Option CountedHost) (row : StoredHost) : Type 0 where
  pub host : CountedHost
  pub is_host : hosts row.id ≡ Some host
  pub account : host.row.account ≡ row.account_id
  pub cpid : host.row.cpid ≡ row.cpid

-- ---- names of workunits, by their places

-- with this one at a place
abbrev pub with_title_at : (ℕ → Option (List ℕ)) → ℕ → List ℕ → ℕ → Option (List ℕ)
with_title_at titles place name other = if place == other then Some name else titles other

-- with the one of a row
abbrev pub with_title : (ℕ → Option (List ℕ)) → StoredRow → ℕ → Option (List ℕ)
with_title titles (stored.Unit row) = with_title_at titles row.id row.name
with_title titles other = titles

-- and with those of each of these rows, in turn
abbrev pub with_titles : (ℕ → Option (List ℕ)) → List StoredRow → ℕ → Option (List ℕ)
with_titles = fold with_title

-- the names of a world's workunits
abbrev pub title_at : World → ℕ → Option (List ℕ)
title_at w place = option_map (λ (u : Workunit). u.name) (workunit_at w place)

-- there is a workunit that stays with its name, by a row
abbrev pub KeepsName : (ℕ → Option (List ℕ)) → StoredUnit → Type 0
KeepsName titles row = titles row.id ≡ Some row.name

-- this place is the first one with this name
abbrev pub IsFirstUnit : (ℕ → Option (List ℕ)) → List ℕ → ℕ → Type 0
IsFirstUnit titles name = IsFirst (λ n. option_any (λ title. bytes_eq title name) (titles n))

-- each place that is known is the first one with its name
abbrev pub AreFirstUnits : (ℕ → Option (List ℕ)) → RowsRead (List ℕ) ℕ → Type 0
AreFirstUnits titles names = HoldOfEach (slice_cmp nat_cmp) (IsFirstUnit titles) names

-- each workunit that is known has the name at its place
abbrev pub AreTitled : (ℕ → Option (List ℕ)) → RowsRead ℕ Workunit → Type 0
AreTitled titles units = HoldOfEach nat_cmp (λ n (u : Workunit). titles n ≡ Some u.name) units

-- Each workunit that is known has the name at its place. Each place that is known is the first one with its name. If a last place is known,
-- there is no name at a greater one.
pub record AreNamesOf (titles : ℕ → Option (List ℕ)) (read : UnitsRead) : Type 0 where
  pub each : AreTitled titles read.rows
  pub first : AreFirstUnits titles read.names
  pub none_past : IfSome read.last (AreNonePast titles)
