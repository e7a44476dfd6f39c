use Rattle.std.proofs.Common.{rules, sym, subst, true≢false}
use Rattle.stores.specs.Standing.{MayStand}
use Rattle.stores.proofs.ReadsAct.{left_is}
use Rattle.message_engine.specs.ListStores.{held_of_list}
use Rattle.message_engine.proofs.list_store.ListStoreStore.commit.Goals as goal

pub returns-in_err-keep-clause-acts : goal.returns-in_err-keep-clause-acts
returns-in_err-keep-clause-acts c = record {
  acts = record {
    was_clean = search rules;
    was_honest = search rules;
    is_open = search rules;
    lasts = search rules;
    stays_kept = search rules;
    left = λ h may. absurd may;
    reopens = λ stands more. subst MayStand (sym (left_is (held_of_list c.args.self.now) (held_of_list c.keep.new.self) c.in_err-keep.ensures.err)) stands;
  };
  unchanged = λ honest kept bad. c.in_err-keep.ensures.err;
}

pub returns-clause-acts : goal.returns-clause-acts
returns-clause-acts c = record {
  acts = record {
    was_clean = search rules;
    was_honest = search rules;
    is_open = search rules;
    lasts = search rules;
    stays_kept = search rules;
    left = λ h may. absurd may;
    reopens = λ stands more. (more tt).1 _ (λ may sound. record {
      world_is = c.in_ok-desk.ensures.ok;
      calls_are = c.in_ok-keep.ensures.ok.calls_are;
      batches_are = c.in_ok-keep.ensures.ok.batches_are;
    });
  };
  unchanged = λ honest kept bad. absurd (true≢false bad);
}
