use Rattle.std.proofs.Common.{◌≡◌, ◌≤◌, ◌∙◌, arith}
use Rattle.aec_interval.proofs.SkippedBlockLemmas.{fewer_samples, fewer_blocks}
use Rattle.aec_interval.proofs.reading.skipping.skip_untested.Goals as goal

pub returns-clause-led : goal.returns-clause-led
returns-clause-led c =
    let s = c.args.params.now in
    let w = c.args.wanted in
    let n = c.skip_singles.result in
    let interval : c.from.result ≡ s.interval = c.from.ensures ∙ c.interval.ensures.value in
    let few : n ≤ c.untested_count-untested.result = omega arith in
    rw c.skip_singles.ensures.list (c.skip_singles.ensures.leads w.count w.limit w.first w.start c.args.block (rw interval) c.requires.limit
    c.requires.counted (fewer_samples s w.count w.limit c.args.block n c.untested_count-untested.result few
    c.untested_count-untested.ensures.within) c.requires.led)

pub returns-clause-few : goal.returns-clause-few
returns-clause-few c =
    let few : c.skip_singles.result ≤ c.untested_count-untested.result = omega arith in
    fewer_blocks c.args.params.now c.args.wanted.count c.args.wanted.limit c.args.block c.skip_singles.result c.untested_count-untested.result
    c.interval.ensures.allowed c.requires.few c.requires.limit c.requires.counted few c.untested_count-untested.ensures.within
