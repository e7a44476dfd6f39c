use Rattle.std.proofs.Common.{◌≡◌, ◌<◌, ◌*◌, ◌^◌}
use Rattle.quorum_credit.proofs.quota.raised.Given as goal

abbrev pub invariant-loop : goal.invariant-loop
invariant-loop l = record {
  doubled : l.raised ≡ l.number * 2 ^ l.counter;
  small : l.raised < 2 ^ 33;
}
