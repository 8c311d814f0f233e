use Rattle.std.proofs.Common.{rules, ◌∙◌, ap, sym}
use Rattle.std.proofs.lemmas.Result.{err_from_is_err_and}
use Rattle.aec_block.specs.ReadAt.{map_taken}
use Rattle.aec_block.specs.Gathering.{bits_at, as_taken, all_below}
use Rattle.aec_block.proofs.SkippingLemmas.{ones_missing, small_sum}
use Rattle.aec_block.proofs.skipping.skipped_values.skip_highs.Goals as goal

pub returns-in_err-gone : goal.returns-in_err-gone
returns-in_err-gone c =
    let exit = err_from_is_err_and c.from_residual.result c.from_residual.ensures.1 in record {
      taken = ap (map_taken (all_below c.args.limit)) (ones_missing c.args.count (bits_at c.args.reader.now) c.in_err-gone.ensures.place.0)
          ∙ sym (ap (λ result. as_taken result (bits_at c.skip_ones.new.self)) exit.1);
      list = search rules;
      within = search rules;
    }

pub returns-then-gone-limit : goal.returns-then-gone-limit
returns-then-gone-limit c = record {
  taken = small_sum c.args.count c.in_ok-gone.gone c.args.limit c.args.reader.now c.skip_ones.new.self c.in_ok-gone.ensures.place c.in_ok-gone.ensures.moves
      c.in_ok-gone.ensures.stays.list c.if-gone-limit.true;
  list = search rules;
  within = search rules;
}
