use Rattle.std.proofs.Common.{◌≡◌, map, ap, ◌∙◌}
use Rattle.std.proofs.lemmas.Result.{IfOk-weaker}
use Rattle.sched_book.specs.Places.{places}
use Rattle.table_meaning.specs.Worlds.{contents_of}
use Rattle.table_meaning.specs.declared.rows.StoredInstance.{StoredInstance}
use Rattle.table_meaning.specs.declared.rows.StoredRow.TheVariants as stored
use Rattle.table_meaning.specs.Rows.{columns_of}
use Rattle.table_worlds.specs.ReadBack.{job_in}
use Rattle.table_desk.proofs.InstancesListed.{instances_told}
use Rattle.table_desk.proofs.AllPlaces.{all_places}
use Rattle.table_desk.proofs.workunits.instances_at.Goals as goal

pub returns-clause-answer : goal.returns-clause-answer
returns-clause-answer g c = λ clean is_open rests w tell.
    let read = c.in_ok-rows.ensures.rows clean (contents_of w tell.calls tell.batches) (places w) tell.holds (all_places w tell.calls tell.batches) in
    IfOk-weaker c.instances.result (λ all. all ≡ map (λ (row : StoredInstance). job_in (columns_of (stored.Instance row))) c.as_slice.result.now) _
    (λ all is. is ∙ ap (map (λ (row : StoredInstance). job_in (columns_of (stored.Instance row)))) c.as_slice.ensures ∙ instances_told _ w tell c.args.unit c.in_ok-rows.rows read) c.instances.ensures.all
