use Rattle.std.proofs.Common.{◌≡◌, ◌+◌, ◌++◌, ◌∷◌, [], length, get_or, sym, ap, ◌∙◌}
use Rattle.std.proofs.lemmas.List.{length-map}
use Rattle.arrayvec.proofs.ArrayVecLemmas.{items-with_items}
use Rattle.sched_book.specs.Ballots.{most_votes}
use Rattle.sched_book.specs.declared.ballots.Ballot.{Ballot}
use Rattle.sched_book.proofs.Voting.{votes_are_few, none_agree, ballot_joins, most_adds}
use Rattle.sched_book.proofs.ballots.Tally.join.Goals as goal

pub count_for-counted-requires : goal.count_for-counted-requires
count_for-counted-requires c =
    let a = c.args.agreement.now in
    let xs = c.args.instances.now in
    let reports = c.args.reports.now in
    let index = c.args.index in
    let before = c.as_mut_slice.result.now in
    let held = c.as_mut_slice.ensures.value ∙ c.requires.tally.ballots in
    record {
      few = votes_are_few a xs reports index 100 before c.requires.few held;
      most = c.requires.tally.most ∙ ap most_votes (sym c.as_mut_slice.ensures.value);
      new = λ is.
          none_agree a xs reports index c.requires.within c.distance_of.result c.see-seen.result.first c.value_at-value.result c.distance_of.ensures
          c.see-seen.ensures.first c.value_at-value.ensures before held (c.see-seen.ensures.new is);
    }

pub returns : goal.returns
returns c =
    let a = c.args.agreement.now in
    let xs = c.args.instances.now in
    let reports = c.args.reports.now in
    let index = c.args.index in
    let before = c.as_mut_slice.result.now in
    let after = c.count_for-counted.new.ballots in
    let agreed = c.count_for-counted.result.agreed in
    let last : Ballot = record { number = get_or reports index 0; first = c.see-seen.result.first; value = c.value_at-value.result; votes = 1 + agreed } in
    let long : length after ≡ length c.args.self.now.ballots.items =
    ap length c.count_for-counted.ensures.ballots ∙ length-map before _ ∙ ap length c.as_mut_slice.ensures.value in
    let items : c.push.new.self.items ≡ after ++ last ∷ [] =
    c.push.ensures.items ∙ ap (λ l. l ++ last ∷ []) (items-with_items c.args.self.now.ballots after long) in
    record {
      outputs = c.see-seen.ensures.seen;
      ballots = items
          ∙ ballot_joins a xs reports index c.requires.within c.distance_of.result c.see-seen.result.first c.value_at-value.result c.distance_of.ensures
          c.see-seen.ensures.first c.value_at-value.ensures agreed before after (c.as_mut_slice.ensures.value ∙ c.requires.tally.ballots) c.count_for-counted.ensures.ballots
          c.count_for-counted.ensures.agreed;
      most = c.max-self.ensures
          ∙ most_adds after last c.count_for-counted.result.most_votes c.count_for-counted.ensures.most
          ∙ ap most_votes (sym items);
    }
