-- Tables hold at most one sound world: the one that is read back from their rows.
use Rattle.std.proofs.Common.{sym, ap, ◌∙◌}
use Rattle.table_worlds.specs.OneWorld.{TablesHoldOneWorld}
use Rattle.table_worlds.specs.StoredWorld.{world_in}
use Rattle.table_worlds.proofs.StaysReadable.{sound_is_readable}
use Rattle.table_worlds.proofs.WorldReadBack.{held_is_read_back}

pub one_world : TablesHoldOneWorld
one_world db other w v calls later batches newer trees sound also holds held =
    sym (held_is_read_back db w calls batches holds (sound_is_readable w sound)) ∙ ap world_in trees ∙ held_is_read_back other v later newer held (sound_is_readable v also)
