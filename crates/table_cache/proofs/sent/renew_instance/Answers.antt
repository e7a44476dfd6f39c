use Rattle.std.proofs.Common.{◌+◌, suc, ap, sym, subst, ◌∙◌}
use Rattle.std.specs.Prelude.{option_and_then, slice_get}
use Rattle.table_meaning.specs.declared.rows.StoredRow.TheVariants as stored
use Rattle.table_cache.specs.Carrying.{job_of, sending_of, with_one, AreOfJobs}
use Rattle.table_cache.proofs.SentMoves.{no_jobs_with, none_counted, others_known, job_renewed}
use Rattle.table_cache.proofs.sent.renew_instance.Goals as goal

pub returns-in_default : goal.returns-in_default
returns-in_default c = λ f before.
    let row = c.args.row.now in
    let read = c.args.read.now in
    let x = job_of (stored.Instance row) in
    record {
      each = others_known f row.unit_id row.num x read.instances c.take.new.self before.each c.take.ensures.others;
      units = 0;
      numbers = 0;
      counted = none_counted (with_one f row.unit_id row.num x) 0 0 c.forget_all.new.self c.forget_all.ensures;
      none_past = no_jobs_with f row.unit_id row.num x read.last c.last_with-read.result c.last_with-read.ensures before.none_past;
    }

pub returns-in_default-instance : goal.returns-in_default-instance
returns-in_default-instance c = λ f before.
    let row = c.args.row.now in
    let read = c.args.read.now in
    let x = job_of (stored.Instance row) in
    record {
      each = others_known f row.unit_id row.num x read.instances c.take.new.self before.each c.take.ensures.others;
      units = 0;
      numbers = 0;
      counted = none_counted (with_one f row.unit_id row.num x) 0 0 c.forget_all-in_default-instance.new.self c.forget_all-in_default-instance.ensures;
      none_past = no_jobs_with f row.unit_id row.num x read.last c.last_with-read.result c.last_with-read.ensures before.none_past;
    }

pub returns-in-Some-with_instance : goal.returns-in-Some-with_instance
returns-in-Some-with_instance c = λ f before.
    let unit = c.args.row.now.unit_id in
    let number = c.args.row.now.num in
    let read = c.args.read.now in
    let known = before.each unit c.in-Some.instances (sym c.in-Some.ensures.row) number in
    subst (λ x. AreOfJobs (with_one f unit number x) (record { instances = c.put.new.self; sent = c.move_sent.new.sent; last = c.last_with-read.result })) c.in-Ok.ensures.read (record {
      each = job_renewed f unit number c.in-Ok.renewed read.instances c.take.new.self c.put.new.self c.in-Some.instances c.in-Some-with_instance.instances before.each c.in-Some.ensures.row c.take.ensures.others c.in-Some-with_instance.ensures c.put.ensures;
      units = before.units + suc unit;
      numbers = before.numbers + suc number;
      counted = c.move_sent.ensures f unit number before.units before.numbers c.in-Ok.renewed
          (sym (ap (option_and_then sending_of) (ap (λ xs. slice_get xs number) c.as_slice.ensures ∙ known)) ∙ sym c.sending_at-old.ensures) (sym c.sending_in-new.ensures) before.counted;
      none_past = no_jobs_with f unit number c.in-Ok.renewed read.last c.last_with-read.result c.last_with-read.ensures before.none_past;
    })

pub returns-in_default-with_instance : goal.returns-in_default-with_instance
returns-in_default-with_instance c = λ f before.
    let unit = c.args.row.now.unit_id in
    let number = c.args.row.now.num in
    let read = c.args.read.now in
    let known = before.each unit c.in-Some.instances (sym c.in-Some.ensures.row) number in
    subst (λ x. AreOfJobs (with_one f unit number x) (record { instances = c.take.new.self; sent = c.move_sent.new.sent; last = c.last_with-read.result })) c.in-Ok.ensures.read (record {
      each = others_known f unit number c.in-Ok.renewed read.instances c.take.new.self before.each c.take.ensures.others;
      units = before.units + suc unit;
      numbers = before.numbers + suc number;
      counted = c.move_sent.ensures f unit number before.units before.numbers c.in-Ok.renewed
          (sym (ap (option_and_then sending_of) (ap (λ xs. slice_get xs number) c.as_slice.ensures ∙ known)) ∙ sym c.sending_at-old.ensures) (sym c.sending_in-new.ensures) before.counted;
      none_past = no_jobs_with f unit number c.in-Ok.renewed read.last c.last_with-read.result c.last_with-read.ensures before.none_past;
    })
