use Rattle.std.proofs.Common.{◌≤◌, ◌*◌, ◌^◌, lit<, arith}
use Rattle.std.proofs.Math.Nat.{pow-le-pow_right, mul-le-mul_left}
use Rattle.quorum_credit.proofs.quota.raised.Goals as goal

-- further doublings would only move further past the limit
pub returns-then-raised-from : goal.returns-then-raised-from
returns-then-raised-from c =
    let i = c.loop.counter in
    let t = c.args.times in
    let more : 2 ^ i ≤ 2 ^ t = pow-le-pow_right {n = 2} (lit< tt) {i = i} {j = t} (omega arith) in
    let past : c.args.number * 2 ^ i ≤ c.args.number * 2 ^ t = mul-le-mul_left c.args.number more in
    let reached = c.if-raised-from.true in
    omega arith
