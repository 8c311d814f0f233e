use Rattle.std.proofs.Common.{rules, ◌≡◌, ◌+◌, ◌-◌, ◌*◌, ◌≤◌, ◌∙◌, length, take, refl, arith}
use Rattle.std.proofs.lemmas.List.{length-take, length-replicate, nil_from_length}
use Rattle.std.proofs.lemmas.Slice.{take-put_mid}
use Rattle.aec_params.specs.Params.{interval_len}
use Rattle.aec_interval.proofs.ShortLemmas.{reads_none, reads_one_more, reads_stay, front_kept, part_fits}
use Rattle.aec_interval.proofs.reading.short.fill_intervals.Goals as goal

pub loop-count-init : goal.loop-count-init
loop-count-init g c = record {
  reads = reads_none _ _ _ _ refl (nil_from_length (take 0 c.args.samples.now) (length-take 0 c.args.samples.now ∙ omega arith));
  stays = λ none. refl;
  within = search rules;
  place = search rules;
  values = length-replicate _ _ ∙ c.requires.size;
  len = search rules;
}

pub slice_bounds-part-end : goal.slice_bounds-part-end
slice_bounds-part-end g c =
    let inv = c.loop-count.invariant in
    let fits : c.loop-count.at + c.interval_len-len.result ≤ length c.loop-count.samples =
    part_fits c.loop-count.at c.loop-count.count c.args.most c.interval_len-len.result (interval_len c.args.params.now) (length c.loop-count.samples)
    inv.place (omega arith) c.interval_len-len.ensures.value (omega arith) in
    search (rules, fits)

pub returns-then-not-fill_interval : goal.returns-then-not-fill_interval
returns-then-not-fill_interval g c =
    let inv = c.loop-count.invariant in
    let s = c.args.params.now in
    let at = c.loop-count.at in
    let k = at + c.interval_len-len.result - at in
    let fits : at + c.interval_len-len.result ≤ length c.loop-count.samples =
    part_fits c.loop-count.at c.loop-count.count c.args.most c.interval_len-len.result (interval_len c.args.params.now) (length c.loop-count.samples)
    inv.place (omega arith) c.interval_len-len.ensures.value (omega arith) in
    let place : at ≡ c.loop-count.count * interval_len s = rw (inv.place, c.interval_len-len.ensures.value) in
    let kept = front_kept c.loop-count.samples c.fill_interval.new.samples at k (omega arith) in
    record {
      reads = λ some. reads_stay s c.loop-count.count at _ c.args.reader.now c.loop-count.reader c.fill_interval.new.reader c.loop-count.samples _
          (c.if-not-fill_interval.ensures.fills.stays refl) place kept inv.reads;
      stays = search rules;
      list = search rules;
      within = search rules;
      len = search rules;
    }

pub loop-count-preserved : goal.loop-count-preserved
loop-count-preserved g c =
    let inv = c.loop-count.invariant in
    let at = c.loop-count.at in
    let len = c.interval_len-len.result in
    let fits : at + len ≤ length c.loop-count.samples =
    part_fits at c.loop-count.count c.args.most len (interval_len c.args.params.now) (length c.loop-count.samples) inv.place
    (omega arith) c.interval_len-len.ensures.value (omega arith) in
    let size : at + len ≡ at + length c.fill_interval.new.samples = omega arith in
    record {
      reads = reads_one_more _ _ _ _ _ (take at c.loop-count.samples) c.fill_interval.new.samples _ c.interval_len-len.ensures.allowed inv.reads
          (c.if-not-fill_interval.ensures.fills.ok refl)
          (take-put_mid at (at + len - at) c.loop-count.samples c.fill_interval.new.samples (at + len) size (omega arith));
      stays = λ none. absurd (omega arith);
      within = search rules;
      place = omega arith;
      values = search rules;
      len = search rules;
    }
