-- One more fate: its change is of a workunit that exists.
use Rattle.std.proofs.Common.{◌≡◌, ◌+◌, [], ◌∷◌, ◌++◌, List, Option, Some, None, drop, refl, sym, ap, ◌∙◌, subst, append_assoc, IfSome}
use Rattle.std.specs.Prelude.{All, filter_map}
use Rattle.std.specs.List.{cons_option}
use Rattle.std.proofs.lemmas.List.{at_drop_more}
use Rattle.std.proofs.lemmas.List.Elements.{All-nil, All-cons, All-append}
use Rattle.sched_book.specs.declared.delta.Edit.{Edit}
use Rattle.sched_book.specs.declared.world.World.{World}
use Rattle.call_working_set.specs.WorkingSets.{IsOfKnown}
use Rattle.lost_jobs.specs.Fated.{fate_change}
use Rattle.lost_jobs.specs.declared.fates.Fate.{Fate}
use Rattle.lost_jobs.proofs.changes.changes_of.Goals as goal

-- a list with one more, or none
one_more : {X : Type 0} (o : Option X) (xs : List X) → cons_option o [] ++ xs ≡ cons_option o xs
one_more None xs = refl
one_more (Some x) xs = refl

each_more : {X : Type 0} (P : X → Type 0) (o : Option X) → IfSome o P → All P (cons_option o [])
each_more P None some = All-nil P
each_more P (Some x) some = All-cons P x [] some (All-nil P)

told_more : (w v : World) (more new all : List Edit) (f : Fate) (left : List Fate) → v ≡ w → new ≡ more ++ cons_option (fate_change v f) []
    → more ++ filter_map (fate_change w) (f ∷ left) ≡ all → new ++ filter_map (fate_change w) left ≡ all
told_more w v more new all f left same is told =
    ap (λ es. es ++ filter_map (fate_change w) left) (is ∙ ap (λ u. more ++ cons_option (fate_change u f) []) same)
    ∙ append_assoc more (cons_option (fate_change w f) []) (filter_map (fate_change w) left)
    ∙ ap (λ es. more ++ es) (one_more (fate_change w f) (filter_map (fate_change w) left))
    ∙ told

known_more : (w v : World) (more new : List Edit) (f : Fate) → v ≡ w → new ≡ more ++ cons_option (fate_change v f) []
    → All (IsOfKnown w) more → IfSome (fate_change v f) (IsOfKnown v) → All (IsOfKnown w) new
known_more w v more new f same is known one =
    subst (All (IsOfKnown w)) (sym is)
    (All-append (IsOfKnown w) more (cons_option (fate_change v f) []) known
    (each_more (IsOfKnown w) (fate_change v f) (subst (λ u. IfSome (fate_change v f) (IsOfKnown u)) same one)))

pub loop-fate-preserved : goal.loop-fate-preserved
loop-fate-preserved g c =
    let units = g.met.S.Units in
    let inv = c.loop-fate.invariant in
    let fates = c.args.fates.now in
    let i = c.loop-fate.fate-index in
    let world = g.S.Units.world c.args.working_set.now in
    let more = c.loop-fate.more in
    record {
      reads = units.reads_on _ _ _ inv.reads c.add_change.ensures.reads;
      told = λ honest kept.
          let before = units.stays_honest _ _ c.add_change.ensures.reads honest in
          let well = units.stays_kept _ _ inv.reads before kept in
          told_more world _ more _ _ _ (drop (i + 1) fates) (units.stays_same _ _ inv.reads before kept) (c.in_ok-add_change.ensures.answer honest well)
          (sym (at_drop_more (λ fs. more ++ filter_map (fate_change world) fs) fates i _ c.loop-fate-test.true) ∙ inv.told before kept);
      known = λ honest kept.
          let before = units.stays_honest _ _ c.add_change.ensures.reads honest in
          let well = units.stays_kept _ _ inv.reads before kept in
          known_more world _ more _ _ (units.stays_same _ _ inv.reads before kept) (c.in_ok-add_change.ensures.answer honest well) (inv.known before kept)
          (c.in_ok-add_change.ensures.known honest well);
    }
