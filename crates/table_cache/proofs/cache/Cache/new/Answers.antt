use Rattle.std.proofs.Common.{refl}
use Rattle.table_cache.proofs.NoneRemembered.{none_remembered}
use Rattle.table_cache.proofs.cache.Cache.new.Goals as goal

pub returns : goal.returns
returns c = λ w calls. none_remembered w calls _ c.new.ensures.rows c.new.ensures.names c.new.ensures.last c.new-2.ensures.instances c.new-2.ensures.sent c.new-2.ensures.last c.new-3.ensures.rows c.new-3.ensures.credits c.new-3.ensures.last c.new-4.ensures c.new-5.ensures c.new-6.ensures c.new-7.ensures.items refl refl (c.new-8.ensures _ _ _)
