use Rattle.std.proofs.Common.{rules, ◌^◌, ◌∙◌, sym, ap}
use Rattle.aec_block.specs.ReadAt.{map_taken, split_at}
use Rattle.aec_block.specs.Gathering.{bits_at, all_below}
use Rattle.aec_block.proofs.SkippingLemmas.{split_gone_over}
use Rattle.aec_block.proofs.skipping.skipped_values.skip_split.Goals as goal

pub returns : goal.returns
returns c = record {
  taken = ap (λ n. map_taken (all_below (2 ^ c.args.params.now.bits)) (split_at c.args.k n (bits_at c.args.reader.now)))
      (sym c.count_written-count.ensures.value)
      ∙ split_gone_over c.args.params.now.bits c.value_limit.result c.high_limit.result c.args.k c.count_written-count.result (bits_at c.args.reader.now)
      (bits_at c.skip_highs.new.reader) (bits_at c.skip_numbers.new.reader) c.in_ok-fit.fit c.value_limit.ensures.value c.high_limit.ensures.value
      c.requires.inside c.in_ok-fit.ensures.taken c.in_ok-skip_numbers.ensures.taken;
  list = search rules;
  within = search rules;
}
