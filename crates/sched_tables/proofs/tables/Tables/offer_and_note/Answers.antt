use Rattle.std.proofs.Common.{◌≡◌, List, [], sym, subst, rules}
use Rattle.std.specs.Prelude.{All}
use Rattle.std.proofs.lemmas.List.Elements.{All-nil}
use Rattle.table_cache.specs.Remembering.{IsUnitOf}
use Rattle.sched_tables.specs.Views.{world_of}
use Rattle.table_cache.specs.declared.cache.UnitRead.{UnitRead}
use Rattle.sched_tables.proofs.tables.Tables.offer_and_note.Goals as goal

pub returns-clause-reads : goal.returns-clause-reads
returns-clause-reads g c = (
  search rules,
  search rules,
  search rules,
  λ honest kept.
      let w = world_of g.S.Store c.args.self.now in
      let none : c.new-noted.result.items ≡ [] = search rules in
      let noted = c.offer_from-offered.ensures.noted honest kept (subst (λ (us : List UnitRead). All (IsUnitOf w) us) (sym none) (All-nil _)) in
      c.remember_units.ensures _ _ (c.offer_from-offered.ensures.reads.3 honest kept) (subst (λ (us : List UnitRead). All (IsUnitOf w) us) (sym c.as_slice.ensures.value) noted),
  c.offer_from-offered.ensures.reads.4,
)
