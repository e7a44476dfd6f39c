-- Promise. One step of the job machine, and runs of it. The machine hears each call once: no sequence number decides
-- anything here. The parts of a step: the host is renewed or made; then reports, lost jobs, settlement, grant and reply.
use Rattle.std.specs.Prelude.{◌≡◌, ℕ, ◌+◌, ◌<◌, Bool, true, false, List, [], ◌∷◌, ◌++◌, length, map, filter, fold, sum_by, filter_map, Option, Some, None, option_map, option_and_then, unwrap_or}
use Rattle.rpc_records.specs.declared.reply.Job.{Job}
use Rattle.rpc_records.specs.declared.reply.Reply.{Reply}
use Rattle.rpc_records.specs.declared.request.Report.{Report}
use Rattle.rpc_records.specs.declared.request.Request.{Request}
use Rattle.sched_book.specs.Places.{nth, unit_at, instance_at, held_by, host_at, overdue, deadline_of, name_at, host_credit, user_credit, account_place, known_host}
use Rattle.sched_book.specs.Classes.{with_class}
use Rattle.sched_book.specs.Fits.{estimate, version_for, version_at_unit, estimate_at}
use Rattle.sched_book.specs.Grant.{Asking, IsGrant, end_word}
use Rattle.sched_book.specs.Reports.{modify_nth, with_changed, recorded, first_reports}
use Rattle.sched_book.specs.Lost.{lost, is_resent, resend_or_drop, delay_at, aborts, with_lapse}
use Rattle.sched_book.specs.Settle.{settled}
use Rattle.sched_book.specs.Imports.{AreChecked, with_rows, row_count}
use Rattle.sched_book.specs.declared.instance.Instance.{Instance}
use Rattle.sched_book.specs.declared.instance.Lapse.TheVariants.{Late}
use Rattle.sched_book.specs.declared.instance.Owner.{Owner}
use Rattle.sched_book.specs.declared.instance.Place.{Place}
use Rattle.sched_book.specs.declared.machine.Answered.{Answered}
use Rattle.sched_book.specs.declared.machine.Answered.TheVariants as answered
use Rattle.sched_book.specs.declared.machine.Call.{Call}
use Rattle.sched_book.specs.declared.machine.Call.TheVariants as call
use Rattle.sched_book.specs.declared.machine.Caller.{Caller}
use Rattle.sched_book.specs.declared.rows.Account.{Account}
use Rattle.sched_book.specs.declared.rows.HostRow.{HostRow}
use Rattle.sched_book.specs.declared.rows.Rows.{Rows}
use Rattle.sched_book.specs.declared.rows.Version.{Version}
use Rattle.sched_book.specs.declared.rows.Workunit.{Workunit}
use Rattle.sched_book.specs.declared.settings.Settings.{Settings}
use Rattle.sched_book.specs.declared.world.World.{World}

-- the world of new tables
abbrev pub empty_world : Settings → World
empty_world s = record { settings = s; accounts = []; apps = []; versions = []; units = []; hosts = [] }

-- the caller is the one that the request names
pub record IsCaller (w : World) (c : Caller) (r : Request) : Type 0 where
  pub account : account_place w r.authenticator ≡ Some c.account
  pub host : known_host w c.account r.host.host_cpid ≡ c.host

-- the number of the caller's host: its own, or the next
abbrev pub host_number : World → Caller → ℕ
host_number w c = unwrap_or c.host (length w.hosts + 1)

-- a host's row as its call gives it
abbrev pub row_of_call : Caller → Request → ℕ → HostRow
row_of_call c r quota = record {
  account = c.account;
  cpid = r.host.host_cpid;
  p_fpops = r.host.p_fpops;
  m_nbytes = r.host.m_nbytes;
  d_free = r.host.d_free;
  platforms = r.platforms;
  quota = quota;
}

-- the hosts, with the caller's row renewed, or made after the others
abbrev pub hosts_at_entry : World → Caller → Request → Option ℕ → List HostRow
hosts_at_entry w c r (Some host) = modify_nth (λ (h : HostRow). row_of_call c r h.quota) w.hosts host
hosts_at_entry w c r None = w.hosts ++ row_of_call c r w.settings.daily_result_quota ∷ []

-- The worlds that a call goes through.
abbrev pub at_entry : World → Caller → Request → World
at_entry w c r = record w { hosts = hosts_at_entry w c r c.host }

abbrev pub after_reports : World → Caller → Request → World
after_reports w c r = recorded (at_entry w c r) (host_number w c) r.results

-- the jobs that the caller's host lost
abbrev pub lost_of : World → Caller → Request → List Place
lost_of w c r = lost (after_reports w c r) (host_number w c) r.other_results

-- the quota of a host: its own, or the setting for a new one
abbrev pub quota_of : World → Option ℕ → ℕ
quota_of w host = unwrap_or (option_map (λ (h : HostRow). h.quota) (option_and_then (host_at w) host)) w.settings.daily_result_quota

-- the caller's host as this call describes it
abbrev pub host_at_entry : World → Caller → Request → HostRow
host_at_entry w c r = row_of_call c r (quota_of w c.host)

abbrev pub after_lost : World → Caller → Request → ℕ → World
after_lost w c r now = fold (resend_or_drop (at_entry w c r) (host_at_entry w c r) now) (after_reports w c r) (lost_of w c r)

abbrev pub after_settlement : World → Caller → Request → ℕ → World
after_settlement w c r now = settled (at_entry w c r) (after_lost w c r now)

-- the lost jobs that are sent again
abbrev pub resent_of : World → Caller → Request → List Place
resent_of w c r = filter (is_resent (at_entry w c r) (host_at_entry w c r)) (lost_of w c r)

-- what is asked of the grant, in the world after settlement
abbrev pub asking_of : World → Caller → Request → ℕ → Asking
asking_of w c r now =
    let settlement = after_settlement w c r now in
    record {
      number = host_number w c;
      host = unwrap_or (host_at settlement (host_number w c)) (host_at_entry w c r);
      before = sum_by (estimate_at settlement (host_at_entry w c r)) (resent_of w c r);
      held = length (held_by settlement (host_number w c));
      asked = r.asked;
      now = now;
    }

-- a granted instance goes to the host; its deadline is the moment plus the workunit's delay bound
abbrev pub with_owner : Owner → Instance → Instance
with_owner o x = record x { owner = Some o }

abbrev pub grant_one : ℕ → ℕ → World → Place → World
grant_one host now w p = with_changed (with_owner (record { host = host; sent = now; deadline = now + delay_at w p })) w p

abbrev pub granted : World → ℕ → ℕ → List Place → World
granted w host now jobs = fold (grant_one host now) w jobs

-- after a grant each workunit of a granted job keeps to the class of the granted version, if this is its first one. The
-- version is the one that the host, as this call describes it, runs in the world that the call found
abbrev pub class_granted : World → ℕ → List ℕ → World
class_granted w unit class = record w { units = modify_nth (with_class class) w.units unit }

abbrev pub class_one : World → HostRow → World → Place → World
class_one entry h w p = unwrap_or (option_map (λ (v : Version). class_granted w p.unit v.class) (version_at_unit entry h p.unit)) w

abbrev pub classed : World → HostRow → World → List Place → World
classed entry h w jobs = fold (class_one entry h) w jobs

-- the world that a call leaves if it is granted these jobs
abbrev pub after_grant : World → Caller → Request → ℕ → List Place → World
after_grant w c r now jobs = classed w (host_at_entry w c r) (granted (after_settlement w c r now) (host_number w c) now jobs) jobs

-- what a reply says of a job of this name and deadline
abbrev pub job_of : List ℕ → ℕ → HostRow → Bool → Workunit → Version → Job
job_of name deadline h resent u v = record {
  app_name = u.app;
  estimate = estimate u.rsc_fpops_est h.p_fpops;
  name = name;
  platform = v.platform;
  report_deadline = deadline;
  resent = resent;
  version_num = v.version_num;
  wu_name = u.name;
}

-- what the reply says of the job at a place
abbrev pub deadline_at : World → Place → ℕ
deadline_at w p = unwrap_or (option_map (λ x. deadline_of x.owner) (instance_at w p)) 0

abbrev pub job_at : World → HostRow → Bool → Place → Option Job
job_at w h resent p =
    option_and_then (λ b. option_map (job_of (name_at w p) (deadline_at w p) h resent b.unit) (version_for w h b.unit.app)) (unit_at w p.unit)

abbrev pub user_name : World → ℕ → List ℕ
user_name w account = unwrap_or (option_map (λ (a : Account). a.name) (nth w.accounts account)) []

-- if the host is new, there is room for it
abbrev pub HasRoom : World → Caller → Type 0
HasRoom w c = c.host ≡ None → length w.hosts < w.settings.max_hosts

-- What a scheduler call leaves, and what it answers. A new host needs room.
pub record RpcStep (w : World) (c : Caller) (r : Request) (now : ℕ) (after : World) (reply : Reply) : Type 0 where
  pub caller : IsCaller w c r
  pub room : HasRoom w c
  pub jobs : List Place
  pub grant : IsGrant (after_settlement w c r now) (asking_of w c r now) jobs
  pub left : after ≡ after_grant w c r now jobs
  pub answer : reply ≡ record {
    end_word = end_word (after_settlement w c r now) (asking_of w c r now) jobs;
    host_total_credit = host_credit after (host_number w c);
    hostid = host_number w c;
    request_delay = w.settings.request_delay;
    result_abort = aborts (after_settlement w c r now) (host_number w c) r.other_results;
    result_ack = map (λ (x : Report). x.name) (first_reports r.results);
    results = filter_map (job_at after (host_at_entry w c r) true) (resent_of w c r)
        ++ filter_map (job_at after (host_at_entry w c r) false) jobs;
    rpc_seqno = r.rpc_seqno;
    user_name = user_name w c.account;
    user_total_credit = user_credit after c.account;
  }

-- each held instance whose deadline is past lapses
abbrev pub lapsed : World → ℕ → World
lapsed w now = fold (with_changed (with_lapse Late)) w (overdue w now)

pub record TickStep (w : World) (now : ℕ) (after : World) (count : ℕ) : Type 0 where
  pub left : after ≡ settled w (lapsed w now)
  pub answer : count ≡ length (overdue w now)

pub record ImportStep (w : World) (new : Rows) (after : World) (count : ℕ) : Type 0 where
  pub checked : AreChecked w new
  pub left : after ≡ with_rows w new
  pub answer : count ≡ row_count new

-- From a world, a call at a moment may leave this world and give this answer.
abbrev pub Step : World → Call → ℕ → World → Answered → Type 0
Step w (call.Rpc c r) now after (answered.Rpc reply) = RpcStep w c r now after reply
Step w (call.Rpc c r) now after (answered.Imported n) = ⊥
Step w (call.Rpc c r) now after (answered.Lapsed n) = ⊥
Step w (call.Import new) now after (answered.Imported n) = ImportStep w new after n
Step w (call.Import new) now after (answered.Rpc reply) = ⊥
Step w (call.Import new) now after (answered.Lapsed n) = ⊥
Step w call.Tick now after (answered.Lapsed n) = TickStep w now after n
Step w call.Tick now after (answered.Rpc reply) = ⊥
Step w call.Tick now after (answered.Imported n) = ⊥

-- a run: each call with its moment has an answer and the world after it, by a step from the world before
abbrev pub Trace : World → List (Call × ℕ) → List (Answered × World) → Type 0
Trace w [] [] = Unit {0}
Trace w [] (t ∷ ts) = ⊥
Trace w (e ∷ es) [] = ⊥
Trace w (e ∷ es) (t ∷ ts) = Step w e.0 e.1 t.1 t.0 × Trace t.1 es ts
