-- Words. The hosts that scores name, and the quotas that result for them.
use Rattle.std.specs.Prelude.{◌≡◌, ℕ, ◌+◌, min, Bool, false, ◌==◌, if◌then◌else◌, List, [], ◌∷◌, filter_map, All, Option, None, Some, option_map}
use Rattle.std.specs.BTreeMap as tree
use Rattle.std.specs.BTreeMap.{BTreeMap}
use Rattle.std.specs.List.{list_any}
use Rattle.std.specs.Ordering.{nat_cmp}
use Rattle.sched_book.specs.Places.{host_at}
use Rattle.sched_book.specs.Settle.{next_quota}
use Rattle.sched_book.specs.declared.delta.Edit.{Edit}
use Rattle.sched_book.specs.declared.delta.Edit.TheVariants as edit
use Rattle.sched_book.specs.declared.rows.HostRow.{HostRow}
use Rattle.sched_book.specs.declared.world.World.{World}
use Rattle.quorum_credit.specs.Scores.{charges_in, merits_in}
use Rattle.quorum_credit.specs.declared.host_quotas.Tally.{Tally}
use Rattle.quorum_credit.specs.declared.scores.Score.{Score}

-- the number of a host that is put at a number, if there are `count` hosts: a new host is the next one; at 0 none is put
abbrev pub number_got : ℕ → ℕ → ℕ
number_got count number = min number (count + 1)

-- a host with the quota that results from one tally
abbrev pub with_quota_by : ℕ → Tally → HostRow → HostRow
with_quota_by limit s h = record h { quota = next_quota h.quota s.charges s.merits limit }

-- the host of a tally with that quota, as a change, if the host exists
abbrev pub new_quota : World → ℕ → Tally → Option Edit
new_quota w limit s = option_map (λ h. edit.Host s.host (with_quota_by limit s h)) (host_at w s.host)

abbrev pub new_quotas : World → ℕ → List Tally → List Edit
new_quotas w limit tallies = filter_map (new_quota w limit) tallies

-- some score is of this host
abbrev pub is_named : List Score → ℕ → Bool
is_named scores host = list_any (λ (m : Score). m.host == host) scores

-- some tally is of this host
abbrev pub is_tallied : List Tally → ℕ → Bool
is_tallied tallies host = list_any (λ (s : Tally). s.host == host) tallies

-- A tally counts to here. No quota is larger, so more charges or merits lead to the same quota.
abbrev pub most_counted : ℕ
most_counted = 4294967295

-- what one score says of its host
abbrev pub tally_of : Score → Tally
tally_of m = record { host = m.host; charges = min m.charges most_counted; merits = min m.merits most_counted }

-- the tally of a host so far, with one more score
abbrev pub tally_with : Option Tally → Score → Tally
tally_with None m = tally_of m
tally_with (Some s) m = record s { charges = min (s.charges + m.charges) most_counted; merits = min (s.merits + m.merits) most_counted }

-- the same, with all scores that are of the host
abbrev pub tally_after : ℕ → Option Tally → List Score → Option Tally
tally_after host tally [] = tally
tally_after host tally (m ∷ ms) = tally_after host (if m.host == host then Some (tally_with tally m) else tally) ms

-- the tally of a host so far
abbrev pub tally_in : BTreeMap ℕ Tally → ℕ → Option Tally
tally_in tallies host = tree.get nat_cmp tallies host

-- Each of these sums has all that the scores say of its host, as far as a tally counts. The scores say nothing of other
-- hosts.
pub record AreSums (scores : List Score) (sums : List Tally) : Type 0 where
  pub each : All (λ (s : Tally). (s.charges ≡ min (charges_in scores s.host) most_counted) × (s.merits ≡ min (merits_in scores s.host) most_counted)) sums
  pub others : (host : ℕ) → is_tallied sums host ≡ false → (charges_in scores host ≡ 0) × (merits_in scores host ≡ 0)
