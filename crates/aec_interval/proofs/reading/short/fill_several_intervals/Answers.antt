use Rattle.std.proofs.Common.{rules, ◌≡◌, ◌+◌, ◌-◌, ◌*◌, ◌∙◌, length, take, refl, arith}
use Rattle.std.proofs.lemmas.List.{length-take, nil_from_length}
use Rattle.aec_params.specs.Params.{interval_len}
use Rattle.aec_interval.proofs.ShortLemmas.{reads_none, rest_within, rest_room, reads_rest, reads_stay, front_kept}
use Rattle.aec_interval.proofs.reading.short.fill_several_intervals.Goals as goal

pub loop-count-init : goal.loop-count-init
loop-count-init c = record {
  reads = reads_none _ _ _ _ refl (nil_from_length (take 0 c.args.samples.now) (length-take 0 c.args.samples.now ∙ omega arith));
  stays = λ none. refl;
  within = search rules;
  place = search rules;
  len = search rules;
}

pub fill_next_intervals-read-requires-clause-room : goal.fill_next_intervals-read-requires-clause-room
fill_next_intervals-read-requires-clause-room c =
    let inv = c.loop-count.invariant in
    rest_room c.args.params.now c.loop-count.count c.args.most c.loop-count.at c.interval_len-len.result c.loop-count.samples inv.place
    c.interval_len-len.ensures.value inv.within (omega arith)

pub returns-then-read-eq0 : goal.returns-then-read-eq0
returns-then-read-eq0 c =
    let inv = c.loop-count.invariant in
    let s = c.args.params.now in
    let at = c.loop-count.at in
    let read = c.fill_next_intervals-read in
    let samples = c.loop-count.samples in
    let size = c.interval_len-len.ensures.value in
    let within = rest_within s c.loop-count.count c.args.most at c.interval_len-len.result samples inv.place size inv.within (omega arith) in
    record {
      reads = λ some. reads_stay s c.loop-count.count at _ c.args.reader.now c.loop-count.reader read.new.reader samples _
          (read.ensures.stays c.if-read-eq0.true) (rw (inv.place, size))
          (front_kept samples read.new.samples at (length samples - at) within) inv.reads;
      stays = search rules;
      list = search rules;
      within = search rules;
      len = search rules;
    }

pub loop-count-preserved : goal.loop-count-preserved
loop-count-preserved c =
    let inv = c.loop-count.invariant in
    let len = c.interval_len-len.result in
    let size : len ≡ interval_len c.args.params.now = c.interval_len-len.ensures.value in
    let read = c.fill_next_intervals-read in
    record {
      reads = reads_rest c.args.params.now c.loop-count.count c.args.most c.loop-count.at len c.loop-count.samples inv.place size inv.within
          (omega arith) read.result (c.loop-count.at + read.result * len) c.args.reader.now c.loop-count.reader
          read.new.reader read.new.samples c.interval_len-len.ensures.allowed inv.reads read.ensures (rw size);
      stays = λ none. absurd (omega arith);
      within = omega arith;
      place = omega arith;
      len = search rules;
    }
