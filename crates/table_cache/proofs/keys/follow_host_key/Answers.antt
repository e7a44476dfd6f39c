use Rattle.std.proofs.Common.{rules}
use Rattle.std.specs.Cmp.Lexicographic.{slice_cmp}
use Rattle.std.specs.Ordering.{nat_cmp}
use Rattle.table_meaning.specs.declared.rows.StoredRow.TheVariants as stored
use Rattle.table_cache.specs.Carrying.{with_host}
use Rattle.table_cache.specs.Keys.{IsFirstHost}
use Rattle.table_cache.specs.declared.keys.HostKeyRead.{HostKeyRead}
use Rattle.table_cache.proofs.CreditMoves.{hold_of_none}
use Rattle.table_cache.proofs.KeyMoves.{keys_followed, keys_still}
use Rattle.table_cache.proofs.keys.follow_host_key.Goals as goal

pub returns-then-not-keeps_key : goal.returns-then-not-keeps_key
returns-then-not-keeps_key c = λ hosts known are.
    let then = with_host hosts (stored.Host c.args.row.now) in
    record { each = hold_of_none (slice_cmp nat_cmp) (λ cpid (k : HostKeyRead). IsFirstHost then k.account cpid k.host) c.forget_all.new.self c.forget_all.ensures }

pub returns-then-is_past : goal.returns-then-is_past
returns-then-is_past c = λ hosts known are. keys_still hosts c.args.row.now c.args.known.now.last (c.is_past.ensures (search rules)) known.none_past c.args.keys.now are

pub returns-else-not-keeps_key : goal.returns-else-not-keeps_key
returns-else-not-keeps_key c = λ hosts known are. keys_followed hosts c.args.row.now (c.keeps_key.ensures (search rules) hosts known.each) c.args.keys.now are
