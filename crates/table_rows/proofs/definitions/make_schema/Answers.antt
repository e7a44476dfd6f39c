use Rattle.std.proofs.Common.{◌≡◌, refl, ap, subst, ◌∙◌, rules, arith}
use Rattle.sqlite.specs.Effect.{Database}
use Rattle.sqlite.specs.Held.{state}
use Rattle.sqlite.specs.State.{HasCleanDisk}
use Rattle.table_meaning.specs.Schema.{schema_at}
use Rattle.table_meaning.specs.Making.{no_rows}
use Rattle.table_meaning.proofs.Definitions.{none_made}
use Rattle.table_rows.proofs.definitions.make_schema.Goals as goal

pub returns : goal.returns
returns g c = record {
  made = λ clean none.
      let n = c.args.schema in
      let mid = c.define.new.tx.conn.now in
      let end = c.commit.new.self.0 in
      let begun = c.transaction-tx.ensures.begun in
      let same : end ≡ c.conn-2-1.given.0 = search rules in
      let late : HasCleanDisk (state g.S.Store end) = search rules in
      let early : HasCleanDisk (state g.S.Store mid) = omega (arith, c.commit.ensures.survives.clean) in
      let left = (rw begun at c.in_ok-define.ensures.made) early refl (schema_at n) no_rows (none_made n c.requires (state g.S.Store c.args.conn.now).now none) in
      subst (λ h. (state g.S.Store h).now.schema ≡ schema_at n) same (ap (λ (db : Database). db.schema) (c.in_ok-commit.ensures.ok late).1.now_is ∙ left.0.whole);
}
