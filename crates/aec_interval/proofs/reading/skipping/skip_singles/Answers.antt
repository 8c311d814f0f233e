use Rattle.std.proofs.Common.{◌≡◌, ◌∙◌, refl, arith}
use Rattle.aec_interval.proofs.SkippedBlockLemmas.{place-begun, place-next, skips_none, skips_more}
use Rattle.aec_interval.proofs.reading.skipping.skip_singles.Goals as goal

pub loop-count-init : goal.loop-count-init
loop-count-init c = record {
  skips = skips_none c.args.params.now c.args.place c.args.most c.args.reader.now;
  at = place-begun c.args.params.now.interval c.args.place c.requires.place;
  within = c.requires.place;
}

pub loop-count-preserved : goal.loop-count-preserved
loop-count-preserved c =
    let s = c.args.params.now in
    let inv = c.loop-count.invariant in
    let found = c.if-not-skip_single.ensures in
    let interval : c.from-interval.result ≡ s.interval = c.from-interval.ensures ∙ c.interval.ensures.value in
    record {
      skips = skips_more s c.args.place c.args.most c.loop-count.count c.loop-count.at c.args.reader.now c.loop-count.reader c.skip_single.new.reader
          c.interval.ensures.allowed (c.requires.unpadded (omega arith)) inv.skips inv.at (found.one refl)
          c.has_reference.result c.has_reference.ensures.value (found.skipped refl) c.skip_single.ensures.list (omega arith);
      at = place-next s.interval c.args.place c.loop-count.count c.loop-count.at c.next_place-at.result inv.at
          (rw (c.next_place-at.ensures.value, interval));
      within = omega arith;
    }
