use Rattle.std.proofs.Common.{rules, ◌≡◌, sym, ap, ◌∙◌}
use Rattle.table_changes.proofs.Numbers.{none_of_three}
use Rattle.call_working_set.specs.WorkingSets.{is_among}
use Rattle.table_changes.proofs.touched.hosts_of.Goals as goal

pub returns : goal.returns
returns c =
    let three = c.put_numbers-3.new.set in
    let are : c.of.result ≡ three.keys = search rules in
    none_of_three c.args.call_state.now.hosts c.args.tallies.now.before c.args.tallies.now.present c.as_slice.result.now c.as_slice-2.result.now c.as_slice-3.result.now c.of.result
    c.new-hosts.result c.put_numbers.new.set c.put_numbers-2.new.set three
    (λ n. c.in_ok-numbers_of.ensures n ∙ ap (λ ns. is_among ns n) (sym c.as_slice.ensures.value))
    (λ n. c.in_ok-numbers_of-2.ensures n ∙ ap (λ ns. is_among ns n) (sym c.as_slice-2.ensures.value))
    (λ n. c.in_ok-numbers_of-3.ensures n ∙ ap (λ ns. is_among ns n) (sym c.as_slice-3.ensures.value))
    c.in_ok-put_numbers.ensures c.in_ok-put_numbers-2.ensures c.in_ok-put_numbers-3.ensures are
