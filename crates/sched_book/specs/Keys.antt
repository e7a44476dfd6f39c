-- Rule. What distinguishes the rows of one kind, and which keys were seen.
use Rattle.std.specs.Prelude.{ℕ, Bool, ◌&&◌, ◌==◌, List, []}
use Rattle.std.specs.Borrow.{Bor}
use Rattle.std.specs.Str.{bytes_eq}
use Rattle.sched_book.specs.declared.rows.Account.{Account}
use Rattle.sched_book.specs.declared.rows.App.{App}
use Rattle.sched_book.specs.declared.rows.HostRow.{HostRow}
use Rattle.sched_book.specs.declared.rows.Version.{Version}
use Rattle.sched_book.specs.declared.rows.Workunit.{Workunit}
use Rattle.texts.specs.SeenSet.{has_seen, lent}
use Rattle.texts.specs.declared.seen_set.SeenSet.{SeenSet}

-- a number and two texts; 0 and empty if a row does not need them
abbrev pub Key : Type 0
Key = ℕ × List ℕ × List ℕ

abbrev pub same_key : Key → Key → Bool
same_key a b = ((a.0 == b.0) && bytes_eq a.1 b.1) && bytes_eq a.2 b.2

-- a key as it is stored in a set
abbrev pub LentKey : Type 0
LentKey = ℕ × Bor (List ℕ) × Bor (List ℕ)

abbrev pub lent_key : Key → LentKey
lent_key key = (key.0, lent key.1, lent key.2)

abbrev pub key_lent : LentKey → Key
key_lent key = (key.0, key.1.now, key.2.now)

abbrev pub has_key : SeenSet LentKey → Key → Bool
has_key seen key = has_seen (λ a b. same_key (key_lent a) (key_lent b)) seen (lent_key key)

-- the key of a row that its name alone distinguishes
abbrev pub named : List ℕ → Key
named name = (0, [], name)

abbrev pub account_key : Account → Key
account_key a = named a.authenticator

abbrev pub app_key : App → Key
app_key a = named a.name

abbrev pub version_key : Version → Key
version_key v = (v.version_num, v.platform, v.app)

abbrev pub unit_key : Workunit → Key
unit_key u = named u.name

-- of a host: its account, and its own name for itself
abbrev pub host_key : HostRow → Key
host_key h = (h.account, [], h.cpid)
