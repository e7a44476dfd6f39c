use Rattle.std.proofs.Common.{◌≡◌, Option, Some, refl, subst, rules}
use Rattle.std.specs.BTreeMap.{get}
use Rattle.std.specs.Ordering.{nat_cmp}
use Rattle.std.specs.Prelude.{ℕ, IfSome}
use Rattle.table_cache.specs.Carrying.{IsShareOf}
use Rattle.table_cache.proofs.CreditMoves.{others_credited, account_credited}
use Rattle.table_cache.proofs.credits.move_credit.Goals as goal

pub returns-in_default-take : goal.returns-in_default-take
returns-in_default-take c = λ hosts number end known are.
    let account = c.args.new.now.row.account in
    let was : IsShareOf account (hosts number) c.in-Some.old = subst (λ (o : Option ℕ). IfSome o (IsShareOf account (hosts number))) c.in-Some.is known in
    others_credited hosts number c.in-Some.old c.args.new.now account was refl end c.args.credits.now c.take.new.self are c.take.ensures.others

pub returns-in_default-moved : goal.returns-in_default-moved
returns-in_default-moved c = λ hosts number end known are.
    let account = c.args.new.now.row.account in
    let was : IsShareOf account (hosts number) c.in-Some.old = subst (λ (o : Option ℕ). IfSome o (IsShareOf account (hosts number))) c.in-Some.is known in
    others_credited hosts number c.in-Some.old c.args.new.now account was refl end c.args.credits.now c.take.new.self are c.take.ensures.others

pub returns-in-Some-moved : goal.returns-in-Some-moved
returns-in-Some-moved c = λ hosts number end known are.
    let account = c.args.new.now.row.account in
    let was : IsShareOf account (hosts number) c.in-Some.old = subst (λ (o : Option ℕ). IfSome o (IsShareOf account (hosts number))) c.in-Some.is known in
    let found : Some c.in-Some-take.credit ≡ get nat_cmp c.args.credits.now.rows account = search rules in
    account_credited hosts number c.in-Some.old c.args.new.now account was refl end c.args.credits.now c.take.new.self c.put.new.self
    c.in-Some-take.credit c.in-Some-moved.moved are found c.take.ensures.others c.in-Some-moved.ensures c.put.ensures
