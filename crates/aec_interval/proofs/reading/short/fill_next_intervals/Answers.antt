use Rattle.std.proofs.Common.{rules, ◌∙◌, arith}
use Rattle.aec_interval.proofs.reading.short.fill_next_intervals.Goals as goal

pub returns : goal.returns
returns c =
    let mixed = c.fill_mixed_intervals-2 in
    let stays = c.fill_usual_intervals-zeros.ensures.stays (omega arith) in
    record {
      reads = λ some. rw (stays, c.is_single_next.ensures.stays) at (mixed.ensures.reads some);
      stays = λ none. mixed.ensures.stays none ∙ (stays ∙ c.is_single_next.ensures.stays);
      list = search rules;
      within = mixed.ensures.within;
      len = search rules;
    }
