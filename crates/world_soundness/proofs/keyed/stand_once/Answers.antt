-- A row whose key was seen has the key of a row before it. Any other row keeps each key once.
use Rattle.std.proofs.Common.{◌≡◌, ◌<◌, length, take, sym, refl, ap, ◌∙◌, subst, AllPairs, arith}
use Rattle.std.specs.Prelude.{◌||◌}
use Rattle.std.proofs.lemmas.Bool.{false≢true}
use Rattle.std.proofs.lemmas.List.{take_all}
use Rattle.sched_book.specs.Keys.{same_key, lent_key, has_key}
use Rattle.sched_book.proofs.KeysSeen.{one_more}
use Rattle.world_soundness.proofs.InPairs.{pairs_more, pairs_before}
use Rattle.world_soundness.proofs.KeysOnce.{was_seen, was_new, is_new, came_by}
use Rattle.world_soundness.proofs.keyed.stand_once.Goals as goal

pub loop-row-init : goal.loop-row-init
loop-row-init g c =
    record {
      seen = λ key. c.new-seen.ensures (lent_key key);
      once = λ i j d lt within. absurd (omega arith);
    }

pub returns-then-not-branch : goal.returns-then-not-branch
returns-then-not-branch g c =
    let inv = c.loop-row.invariant in
    let rows = c.args.rows.now in
    let i = c.loop-row.row-index in
    let x = c.row-item.result in
    let within : i < length rows = omega arith in
    let key_of = g.R.Keyed.key_of in
    let seen = sym (inv.seen (key_of x)) ∙ ap (has_key c.loop-row.seen) (sym c.key.ensures) ∙ was_seen _ _ c.in_ok-is_first.ensures.first c.if-not-branch.true in
    let before = pairs_before g.R.Unique.apart rows i x within c.row-item.is in (
      λ is. absurd (false≢true is),
      λ once. absurd (came_by key_of (take i rows) (key_of x) seen (λ k d lt. (g.met.R.Unique.apart_by_key _ _).0 (before once k d lt))),
    )

pub loop-row-preserved : goal.loop-row-preserved
loop-row-preserved g c =
    let inv = c.loop-row.invariant in
    let rows = c.args.rows.now in
    let i = c.loop-row.row-index in
    let x = c.row-item.result in
    let within : i < length rows = omega arith in
    let key_of = g.R.Keyed.key_of in
    let new = sym (inv.seen (key_of x)) ∙ ap (has_key c.loop-row.seen) (sym c.key.ensures) ∙ was_new _ _ c.in_ok-is_first.ensures.first c.if-not-branch.false in
    record {
      seen = λ key.
          c.in_ok-is_first.ensures.seen (lent_key key)
          ∙ ap (λ k. same_key key k || has_key c.loop-row.seen key) c.key.ensures
          ∙ ap (λ b. same_key key (key_of x) || b) (inv.seen key)
          ∙ one_more key_of rows i x within c.row-item.is key;
      once = pairs_more g.R.Unique.apart rows i x within c.row-item.is inv.once
          (λ k d lt. (g.met.R.Unique.apart_by_key _ _).1 (is_new key_of (take i rows) (key_of x) new k d lt));
    }

pub returns : goal.returns
returns g c =
    let rows = c.args.rows.now in
    let all : take c.loop-row.row-index rows ≡ rows = take_all c.loop-row.row-index rows (omega arith) in
    (λ is. subst (AllPairs g.R.Unique.apart) all c.loop-row.invariant.once, λ once. refl)
