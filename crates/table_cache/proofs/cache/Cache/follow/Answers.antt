use Rattle.std.proofs.Common.{ℕ, Bool, Option, take, ap, sym, subst, ◌∙◌, ◌++◌, ◌∷◌, [], rules}
use Rattle.std.specs.Prelude.{IfSome}
use Rattle.std.proofs.lemmas.List.{take_all, take_more}
use Rattle.std.proofs.lemmas.List.Sums.{fold-append}
use Rattle.table_cache.specs.Carrying.{with_host, with_hosts, with_job, with_jobs, AreCarried, AreOfHosts, AreOfJobs}
use Rattle.table_cache.specs.Leading.{IsUnput}
use Rattle.table_desk.specs.WaitingWindow.{IsWindowFor}
use Rattle.table_cache.specs.Covering.{with_wait, with_waits, AreSkipsFor}
use Rattle.table_cache.specs.Holding.{holders_of, AreHeldOf}
use Rattle.table_cache.specs.Keys.{with_title, with_titles, AreKeysOf, AreNamesOf}
use Rattle.table_cache.proofs.Carried.{carried_more}
use Rattle.table_cache.proofs.SkipMoves.{skips_after}
use Rattle.table_cache.proofs.cache.Cache.follow.Goals as goal

pub loop-change-preserved : goal.loop-change-preserved
loop-change-preserved c =
    let rows = c.args.changes.now in
    let so_far = take c.loop-change.change-index rows in
    let row = c.row.result.now in
    let next = take_more rows c.loop-change.change-index c.change-item.result (search rules) ∙ ap (λ x. so_far ++ x ∷ []) (sym c.change-item.is ∙ sym c.row.ensures) in (
      subst (λ rs. AreCarried (IsUnput rs) c.args.self.now c.note_row.new.self) (sym next)
          (carried_more so_far row c.args.self.now c.loop-change.self c.note_row.new.self c.loop-change.invariant.0 c.note_row.ensures.carried),
      λ f before.
          subst (λ hosts. AreOfHosts hosts c.note_row.new.self.hosts) (sym (ap (with_hosts f) next ∙ fold-append with_host f so_far (row ∷ [])))
          (c.note_row.ensures.hosts (with_hosts f so_far) (c.loop-change.invariant.1 f before)),
      λ f before.
          subst (λ jobs. AreOfJobs jobs c.note_row.new.self.jobs) (sym (ap (with_jobs f) next ∙ fold-append with_job f so_far (row ∷ [])))
          (c.note_row.ensures.jobs (with_jobs f so_far) (c.loop-change.invariant.2 f before)),
      λ waiting jobs hosts of_hosts of_jobs are.
          subst (λ rs. AreSkipsFor (with_waits waiting rs) (with_jobs jobs rs) (with_hosts hosts rs) c.note_row.new.self.skips) (sym next)
          (skips_after waiting jobs hosts so_far row c.note_row.new.self.skips
          (c.note_row.ensures.skips (with_waits waiting so_far) (with_jobs jobs so_far) (with_hosts hosts so_far)
          (c.loop-change.invariant.1 hosts of_hosts) (c.loop-change.invariant.2 jobs of_jobs) (c.loop-change.invariant.3 waiting jobs hosts of_hosts of_jobs are))),
      λ waiting is.
          subst (λ (ws : ℕ → ℕ → Option Bool). IfSome c.note_row.new.self.window (IsWindowFor ws)) (sym (ap (with_waits waiting) next ∙ fold-append with_wait waiting so_far (row ∷ [])))
          (c.note_row.ensures.window (with_waits waiting so_far) (c.loop-change.invariant.4 waiting is)),
      λ jobs of_jobs are.
          subst (λ js. AreHeldOf (holders_of js) c.note_row.new.self.held) (sym (ap (with_jobs jobs) next ∙ fold-append with_job jobs so_far (row ∷ [])))
          (c.note_row.ensures.held (with_jobs jobs so_far) (c.loop-change.invariant.2 jobs of_jobs) (c.loop-change.invariant.5 jobs of_jobs are)),
      λ hosts of_hosts are.
          subst (λ hs. AreKeysOf hs c.note_row.new.self.keys) (sym (ap (with_hosts hosts) next ∙ fold-append with_host hosts so_far (row ∷ [])))
          (c.note_row.ensures.keys (with_hosts hosts so_far) (c.loop-change.invariant.1 hosts of_hosts) (c.loop-change.invariant.6 hosts of_hosts are)),
      λ titles are.
          subst (λ ts. AreNamesOf ts c.note_row.new.self.units) (sym (ap (with_titles titles) next ∙ fold-append with_title titles so_far (row ∷ [])))
          (c.note_row.ensures.names (with_titles titles so_far) (c.loop-change.invariant.7 titles are)),
    )

pub returns-clause-carried : goal.returns-clause-carried
returns-clause-carried c =
    let all = subst (λ rs. AreCarried (IsUnput rs) c.args.self.now c.loop-change.self) (take_all c.loop-change.change-index c.args.changes.now c.loop-change-test.false) c.loop-change.invariant.0 in
    record { units = all.units; accounts = all.accounts; versions = all.versions }

pub returns-clause-hosts : goal.returns-clause-hosts
returns-clause-hosts c = λ f before.
    subst (λ rs. AreOfHosts (with_hosts f rs) c.loop-change.self.hosts) (take_all c.loop-change.change-index c.args.changes.now c.loop-change-test.false) (c.loop-change.invariant.1 f before)

pub returns-clause-jobs : goal.returns-clause-jobs
returns-clause-jobs c = λ f before.
    subst (λ rs. AreOfJobs (with_jobs f rs) c.loop-change.self.jobs) (take_all c.loop-change.change-index c.args.changes.now c.loop-change-test.false) (c.loop-change.invariant.2 f before)

pub returns-clause-skips : goal.returns-clause-skips
returns-clause-skips c = λ waiting jobs hosts of_hosts of_jobs are.
    subst (λ rs. AreSkipsFor (with_waits waiting rs) (with_jobs jobs rs) (with_hosts hosts rs) c.loop-change.self.skips) (take_all c.loop-change.change-index c.args.changes.now c.loop-change-test.false)
    (c.loop-change.invariant.3 waiting jobs hosts of_hosts of_jobs are)

pub returns-clause-window : goal.returns-clause-window
returns-clause-window c = λ waiting is.
    subst (λ rs. IfSome c.loop-change.self.window (IsWindowFor (with_waits waiting rs))) (take_all c.loop-change.change-index c.args.changes.now c.loop-change-test.false) (c.loop-change.invariant.4 waiting is)

pub returns-clause-held : goal.returns-clause-held
returns-clause-held c = λ jobs of_jobs are.
    subst (λ rs. AreHeldOf (holders_of (with_jobs jobs rs)) c.loop-change.self.held) (take_all c.loop-change.change-index c.args.changes.now c.loop-change-test.false) (c.loop-change.invariant.5 jobs of_jobs are)

pub returns-clause-keys : goal.returns-clause-keys
returns-clause-keys c = λ hosts of_hosts are.
    subst (λ rs. AreKeysOf (with_hosts hosts rs) c.loop-change.self.keys) (take_all c.loop-change.change-index c.args.changes.now c.loop-change-test.false) (c.loop-change.invariant.6 hosts of_hosts are)

pub returns-clause-names : goal.returns-clause-names
returns-clause-names c = λ titles are.
    subst (λ rs. AreNamesOf (with_titles titles rs) c.loop-change.self.units) (take_all c.loop-change.change-index c.args.changes.now c.loop-change-test.false) (c.loop-change.invariant.7 titles are)
