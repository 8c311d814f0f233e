use Rattle.std.proofs.Common.{rules, ◌≡◌, ◌+◌, ◌*◌, ◌∙◌, length, arith}
use Rattle.aec_interval.proofs.UntestedLemmas.{none_read, more_read, blocks_fit, blocks_more}
use Rattle.aec_interval.proofs.reading.untested_blocks.fill_blocks.Goals as goal

pub loop-count-init : goal.loop-count-init
loop-count-init g c = record {
  reads = none_read _ _ _ _ c.requires.held;
  within = search rules;
  at = search rules;
  values = c.requires.count;
  len = search rules;
}

pub fill_next-read-requires-clause-room : goal.fill_next-read-requires-clause-room
fill_next-read-requires-clause-room g c =
    let inv = c.loop-count.invariant in
    blocks_fit c.args.from c.loop-count.at c.loop-count.count c.args.most c.args.params.now.block_size _ inv.at inv.within (omega arith)

pub loop-count-preserved : goal.loop-count-preserved
loop-count-preserved g c =
    let inv = c.loop-count.invariant in
    let s = c.args.params.now in
    let fill = c.fill_next-read in
    let size : length fill.new.values ≡ s.block_size = fill.ensures.count ∙ inv.values in
    let at = blocks_more c.args.from c.loop-count.at c.loop-count.count fill.result s.block_size _ inv.at size in
    record {
      reads = rw size (more_read s c.args.place c.loop-count.count fill.result _ _ _ _ _ _ inv.reads fill.ensures.fills.reads);
      within = omega arith;
      at = at;
      values = search rules;
      len = search rules;
    }

pub returns-then-read-eq0-clause-fills : goal.returns-then-read-eq0-clause-fills
returns-then-read-eq0-clause-fills g c =
    let inv = c.loop-count.invariant in
    let s = c.args.params.now in
    let fill = c.fill_next-read in
    let count : c.loop-count.count + fill.result ≡ c.loop-count.count = omega arith in
    let last : c.loop-count.at + fill.result * s.block_size ≡ c.args.from + c.loop-count.count * s.block_size = grind arith in
    record {
      reads = rw (count, last) at (more_read s c.args.place c.loop-count.count fill.result _ _ _ _ _ _ inv.reads fill.ensures.fills.reads);
      within = inv.within;
      len = search rules;
    }
