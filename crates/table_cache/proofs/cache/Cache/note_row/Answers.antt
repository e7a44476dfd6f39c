use Rattle.std.proofs.Common.{◌≡◌, None, Some, sym, subst, ◌∙◌, inl, inr, rules}
use Rattle.std.specs.Prelude.{IfSome}
use Rattle.table_desk.specs.WaitingWindow.{IsWindowFor}
use Rattle.std.specs.Ordering.{nat_cmp}
use Rattle.sched_book.specs.declared.rows.Workunit.{Workunit}
use Rattle.table_cache.specs.Carrying.{with_host, with_job, AreOfJobs}
use Rattle.table_cache.specs.Covering.{with_wait, AreSkipsFor}
use Rattle.table_cache.specs.Holding.{holders_of, AreHeldOf}
use Rattle.table_cache.specs.Keys.{with_title, AreKeysOf, AreNamesOf}
use Rattle.table_cache.proofs.CreditMoves.{hold_of_none}
use Rattle.table_cache.proofs.cache.Cache.note_row.Goals as goal

pub returns-in-Account-clause-carried : goal.returns-in-Account-clause-carried
returns-in-Account-clause-carried c = record {
  units = search rules;
  accounts = λ k kept is. let none : Some kept ≡ None = sym is ∙ c.forget_all.ensures k in absurd cc;
  versions = search rules;
}

pub returns-in-Version-clause-jobs : goal.returns-in-Version-clause-jobs
returns-in-Version-clause-jobs c = λ f before. elim c.in-Version.is [
  | inl it ↦ subst (λ r. AreOfJobs (with_job f r) c.args.self.now.jobs) (sym it.1) before
  | inr it ↦ subst (λ r. AreOfJobs (with_job f r) c.args.self.now.jobs) (sym it.1) before
]

pub returns-in-Version-clause-skips : goal.returns-in-Version-clause-skips
returns-in-Version-clause-skips c = λ waiting jobs hosts of_hosts of_jobs are. elim c.in-Version.is [
  | inl it ↦ subst (λ r. AreSkipsFor (with_wait waiting r) (with_job jobs r) (with_host hosts r) c.args.self.now.skips) (sym it.1) are
  | inr it ↦ subst (λ r. AreSkipsFor (with_wait waiting r) (with_job jobs r) (with_host hosts r) c.args.self.now.skips) (sym it.1) are
]

pub returns-in-Instance-clause-skips : goal.returns-in-Instance-clause-skips
returns-in-Instance-clause-skips c = λ waiting jobs hosts of_hosts of_jobs are.
    subst (λ r. AreSkipsFor (with_wait waiting r) (with_job jobs r) (with_host hosts r) c.follow_instance.new.self) (sym c.in-Instance.is) (c.follow_instance.ensures waiting jobs hosts of_jobs.each are)

pub returns-in-Host-clause-skips : goal.returns-in-Host-clause-skips
returns-in-Host-clause-skips c = λ waiting jobs hosts of_hosts of_jobs are.
    subst (λ r. AreSkipsFor (with_wait waiting r) (with_job jobs r) (with_host hosts r) c.follow_host.new.self) (sym c.in-Host.is) (c.follow_host.ensures waiting jobs hosts of_hosts are)

pub returns-in-Version-clause-window : goal.returns-in-Version-clause-window
returns-in-Version-clause-window c = λ waiting is. elim c.in-Version.is [
  | inl it ↦ subst (λ r. IfSome c.args.self.now.window (IsWindowFor (with_wait waiting r))) (sym it.1) is
  | inr it ↦ subst (λ r. IfSome c.args.self.now.window (IsWindowFor (with_wait waiting r))) (sym it.1) is
]

pub returns-in-Instance-clause-window : goal.returns-in-Instance-clause-window
returns-in-Instance-clause-window c = λ waiting is. subst (λ r. IfSome c.follow_window.new.window (IsWindowFor (with_wait waiting r))) (sym c.in-Instance.is) (c.follow_window.ensures waiting is)

pub returns-in-Version-clause-held : goal.returns-in-Version-clause-held
returns-in-Version-clause-held c = λ jobs of_jobs are. elim c.in-Version.is [
  | inl it ↦ subst (λ r. AreHeldOf (holders_of (with_job jobs r)) c.args.self.now.held) (sym it.1) are
  | inr it ↦ subst (λ r. AreHeldOf (holders_of (with_job jobs r)) c.args.self.now.held) (sym it.1) are
]

pub returns-in-Instance-clause-held : goal.returns-in-Instance-clause-held
returns-in-Instance-clause-held c = λ jobs of_jobs are.
    subst (λ r. AreHeldOf (holders_of (with_job jobs r)) c.follow_held.new.held) (sym c.in-Instance.is) (c.follow_held.ensures jobs of_jobs.each are)

pub returns-in-Version-clause-keys : goal.returns-in-Version-clause-keys
returns-in-Version-clause-keys c = λ hosts of_hosts are. elim c.in-Version.is [
  | inl it ↦ subst (λ r. AreKeysOf (with_host hosts r) c.args.self.now.keys) (sym it.1) are
  | inr it ↦ subst (λ r. AreKeysOf (with_host hosts r) c.args.self.now.keys) (sym it.1) are
]

pub returns-in-Version-clause-names : goal.returns-in-Version-clause-names
returns-in-Version-clause-names c = λ titles are. elim c.in-Version.is [
  | inl it ↦ subst (λ r. AreNamesOf (with_title titles r) c.args.self.now.units) (sym it.1) are
  | inr it ↦ subst (λ r. AreNamesOf (with_title titles r) c.args.self.now.units) (sym it.1) are
]

pub returns-in-Host-clause-keys : goal.returns-in-Host-clause-keys
returns-in-Host-clause-keys c = λ hosts of_hosts are.
    subst (λ r. AreKeysOf (with_host hosts r) c.follow_host_key.new.keys) (sym c.in-Host.is) (c.follow_host_key.ensures hosts of_hosts are)

pub returns-in-Unit-clause-jobs : goal.returns-in-Unit-clause-jobs
returns-in-Unit-clause-jobs c = λ f before. subst (λ r. AreOfJobs (with_job f r) c.note_unit.new.read) (sym c.in-Unit.is) (c.note_unit.ensures f before)

pub returns-in-Unit-clause-names : goal.returns-in-Unit-clause-names
returns-in-Unit-clause-names c = λ titles are. subst (λ r. AreNamesOf (with_title titles r) c.follow_unit.new.read) (sym c.in-Unit.is) (c.follow_unit.ensures.names titles are)

pub returns-in-UnitMark-clause-names : goal.returns-in-UnitMark-clause-names
returns-in-UnitMark-clause-names c = λ titles are.
    subst (λ r. AreNamesOf (with_title titles r) (record { rows = c.forget.new.self; names = c.args.self.now.units.names; last = c.args.self.now.units.last })) (sym c.in-UnitMark.is)
    (record { each = λ n u is. are.each n u (c.forget.ensures n u is).1; first = are.first; none_past = are.none_past })

pub returns-in-App-clause-names : goal.returns-in-App-clause-names
returns-in-App-clause-names c = λ titles are.
    subst (λ r. AreNamesOf (with_title titles r) (record { rows = c.forget_all-in-App.new.self; names = c.args.self.now.units.names; last = c.args.self.now.units.last })) (sym c.in-App.is)
    (record { each = hold_of_none nat_cmp (λ n (u : Workunit). titles n ≡ Some u.name) c.forget_all-in-App.new.self c.forget_all-in-App.ensures; first = are.first; none_past = are.none_past })
