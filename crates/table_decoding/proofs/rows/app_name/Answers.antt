use Rattle.std.proofs.Common.{sym, ◌∙◌}
use Rattle.table_decoding.proofs.AppsPlaced.{app_is_named, app_is_there}
use Rattle.table_decoding.proofs.rows.app_name.Goals as goal

pub returns-in-None-clause-given : goal.returns-in-None-clause-given
returns-in-None-clause-given c = λ w name are has at. absurd (app_is_there w name has c.args.apps.now are c.args.place at c.in-None.ensures)

pub returns-in_ok-clone-in-Some-clause-given : goal.returns-in_ok-clone-in-Some-clause-given
returns-in_ok-clone-in-Some-clause-given c = λ w name are has at.
    sym c.in_ok-clone-in-Some.ensures.cases ∙ app_is_named w name has c.args.apps.now are c.args.place at c.in-Some.app.now c.in-Some.ensures
