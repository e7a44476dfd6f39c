use Rattle.std.proofs.Common.{◌≡◌, inl, inr, refl, ap, subst, ◌∙◌, arith}
use Rattle.std.specs.Prelude.{IsTrue}
use Rattle.sqlite.specs.Effect.{Database}
use Rattle.sched_tables.specs.Commits.{apps_with}
use Rattle.sched_tables.specs.Entries.{MakesWith, calls_of, batches_of}
use Rattle.table_meaning.specs.Kept.{calls_in}
use Rattle.table_worlds.specs.StoredWorld.{world_in}
use Rattle.table_cache.specs.Remembering.{IsCacheOf}
use Rattle.sched_tables.specs.DueFrom.{NothingIsDueBefore}
use Rattle.sched_tables.specs.ReadLaws.{left_world, left_kept, left_in_memory, never_shut}
use Rattle.sched_tables.specs.Views.{state_of, world_of, AreKept}
use Rattle.sched_tables.proofs.EntriesKept.{kept_then, beside_then, committed}
use Rattle.stores.proofs.Results.{on_ok, on_err}
use Rattle.stores.proofs.Standing.{may_be_kept}
use Rattle.stores.specs.Held.{calls_with, batches_with}
use Rattle.sched_book.specs.Delta.{applied}
use Rattle.sched_tables.proofs.Leads.{all_ok, either_way}
use Rattle.sched_tables.proofs.Stops.{found_is_ahead}
use Rattle.sched_tables.proofs.store.TablesStore.commit.Goals as goal

pub returns-clause-acts : goal.returns-clause-acts
returns-clause-acts g c =
    let before = c.args.self.now in
    let after = c.commit.new.self in
    let old = state_of g.S.Store before in
    let new = state_of g.S.Store after in
    let w = world_of g.S.Store before in
    let cs = c.args.delta.now in
    record {
      acts = record {
        was_clean = λ clean. omega (arith, c.commit.ensures.crash.clean, clean);
        was_honest = c.commit.ensures.honest;
        is_open = λ clean good. (clean, on_ok c.commit.result (IsTrue new.is_open) (c.commit.ensures.open clean) good);
        lasts = λ lasting honest.
            never_shut old new _ (lasting before.conn.store).0 (lasting after.conn.store).0 (lasting after.conn.store).1 c.commit.ensures.crash honest;
        stays_kept = λ honest kept.
            let idle = c.commit.ensures.idle kept.0.idle in
            either_way c.commit.result (AreKept g.S.Store after) _ (AreKept g.S.Store after)
            (all_ok c.commit.result (after.apps ≡ apps_with before.apps cs) (new.now ≡ new.committed) (MakesWith w cs c.args.entry.now old.now new.now) (AreKept g.S.Store after)
            c.commit.ensures.apps (c.commit.ensures.rests honest) (c.commit.ensures.made honest kept)
            (λ apps rests made. (
              kept_then old new w cs c.args.entry.now kept.0 made rests idle,
              beside_then old new w cs c.args.entry.now kept.0 made _ after.settings before.apps after.apps before.cache after.cache before.due_from after.due_from
                  (record { settings_are = c.commit.ensures.settings ∙ kept.1.settings_are; apps_are = kept.1.apps_are; rows_are = kept.1.rows_are; due_from_is = kept.1.due_from_is }) apps (c.commit.ensures.remembers honest kept) (c.commit.ensures.due_from honest kept),
            )))
            (c.commit.ensures.left honest kept)
            (λ all. all)
            (λ left. (
              left_kept old new left.0 left.1 kept.0 idle,
              left_in_memory old new left.0 left.1 kept.0 before.settings after.settings before.apps after.apps before.cache after.cache before.due_from after.due_from c.commit.ensures.settings left.2 (subst (λ (db : Database). IsCacheOf (world_in db.trees) (calls_in db.trees) after.cache) left.0 (c.commit.ensures.remembers honest kept))
                  (subst (λ (db : Database). NothingIsDueBefore (world_in db.trees) after.due_from) left.0 (c.commit.ensures.due_from honest kept)) kept.1,
            ));
        left = λ h found.
            elim (found_is_ahead old new w h cs c.args.entry.now (AreKept g.S.Store before) (λ well. well.0) c.commit.ensures.crash found) [
              | inl earlier ↦ inl earlier
              | inr ahead ↦ inr ahead
            ];
        reopens = λ reopens more. c.commit.ensures.reopens
            (λ honest.
            let stands = (more honest).1 (record { world = applied w cs; calls = calls_with c.args.entry.now (calls_of old.now.trees); batches = batches_with c.args.entry.now (batches_of old.now.trees) })
            (λ may sound. record { world_is = refl; calls_are = λ host. refl; batches_are = λ kind batch. refl }) in
            ((more honest).0, stands.sound, may_be_kept (applied w cs) c.args.entry.now _ _ stands))
            reopens;
      };
      unchanged = λ honest kept bad.
          let left = on_err c.commit.result _ (c.commit.ensures.left honest kept) bad in
          record {
            world_is = left_world old new left.0 left.1 kept.0;
            calls_are = λ host. ap (λ (db : Database). calls_of db.trees host) left.0;
            batches_are = λ kind batch. ap (λ (db : Database). batches_of db.trees kind batch) left.0;
          };
    }

pub returns-clause-made : goal.returns-clause-made
returns-clause-made g c = λ honest kept.
    let before = c.args.self.now in
    let after = c.commit.new.self in
    let old = state_of g.S.Store before in
    let new = state_of g.S.Store after in
    let w = world_of g.S.Store before in
    let cs = c.args.delta.now in
    all_ok c.commit.result (after.apps ≡ apps_with before.apps cs) (new.now ≡ new.committed) (MakesWith w cs c.args.entry.now old.now new.now) _
    c.commit.ensures.apps (c.commit.ensures.rests honest) (c.commit.ensures.made honest kept)
    (λ apps rests made may. committed old new w cs c.args.entry.now kept.0 made may.newest)
