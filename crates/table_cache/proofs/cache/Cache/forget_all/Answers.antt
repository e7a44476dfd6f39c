use Rattle.std.proofs.Common.{refl}
use Rattle.table_cache.proofs.NoneRemembered.{none_remembered}
use Rattle.table_cache.proofs.cache.Cache.forget_all.Goals as goal

pub returns : goal.returns
returns c = λ w calls. none_remembered w calls _ c.forget_all.ensures.rows c.forget_all.ensures.names c.forget_all.ensures.last c.forget_all-2.ensures.instances c.forget_all-2.ensures.sent c.forget_all-2.ensures.last c.forget_all-3.ensures.rows c.forget_all-3.ensures.credits c.forget_all-3.ensures.last c.forget_all-4.ensures c.forget_all-5.ensures c.forget_all-6.ensures c.clear.ensures.items refl refl (c.forget_all-7.ensures _ _ _)
