-- Rule. What the tables keep of calls and of imports.
use Rattle.std.specs.Prelude.{ℕ, pos, List, Option, option_map}
use Rattle.reply_register.specs.declared.kept.Kept.{Kept}
use Rattle.sqlite_trees.specs.Tree.{Trees}
use Rattle.sqlite_typed.specs.Columns.{bytes_of}
use Rattle.sqlite_value.specs.declared.value.Value.{Value}
use Rattle.sqlite_value.specs.declared.value.Value.TheVariants.{Int}
use Rattle.sqlite_value.specs.Order.{Row, column}
use Rattle.table_meaning.specs.Rows.{kept_key, batch_key, look_up}
use Rattle.table_meaning.specs.Worlds.{BatchText, SlotCalls}

abbrev pub number_of : Value → ℕ
number_of (Int (pos n)) = n
number_of other = 0

-- the call that a row of `kept4` shows
abbrev pub call_of : Row → Kept
call_of row = record { seqno = number_of (column row 2); text = bytes_of (column row 3); reply = bytes_of (column row 4) }

-- the bytes and the answer that a row of `batch` shows
abbrev pub batch_of : Row → BatchText
batch_of row = (bytes_of (column row 2), bytes_of (column row 3))

-- by the number of the host and the slot
abbrev pub calls_in : Trees → SlotCalls
calls_in trees host slot = option_map call_of (look_up trees (kept_key host slot))

-- by kind and name
abbrev pub batches_in : Trees → List ℕ → List ℕ → Option BatchText
batches_in trees kind name = option_map batch_of (look_up trees (batch_key kind name))
