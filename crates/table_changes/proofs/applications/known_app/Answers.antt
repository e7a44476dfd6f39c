use Rattle.table_changes.proofs.AppsFound.{found_place, found_agreement, found_stands}
use Rattle.table_changes.proofs.applications.known_app.Goals as goal

pub returns-in-Some-clause-place : goal.returns-in-Some-clause-place
returns-in-Some-clause-place g c = λ honest kept.
    found_place (g.D.Units.world c.args.desk.now) c.args.name.now c.in_ok-app_by_name.field-0 c.in-Some.app (c.in_ok-app_by_name.ensures.answer honest kept) c.in-Some.is

pub returns-in-Some-clause-agreement : goal.returns-in-Some-clause-agreement
returns-in-Some-clause-agreement g c = λ honest kept.
    found_agreement (g.D.Units.world c.args.desk.now) c.args.name.now c.in_ok-app_by_name.field-0 c.in-Some.app (c.in_ok-app_by_name.ensures.answer honest kept) c.in-Some.is

pub returns-in-Some-clause-stands : goal.returns-in-Some-clause-stands
returns-in-Some-clause-stands g c = λ honest kept.
    found_stands (g.D.Units.world c.args.desk.now) c.args.name.now c.in_ok-app_by_name.field-0 c.in-Some.app (c.in_ok-app_by_name.ensures.answer honest kept) c.in-Some.is
