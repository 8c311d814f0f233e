use Rattle.std.proofs.Common.{rules, ◌≡◌, ◌-◌, ◌*◌, take, refl, arith}
use Rattle.aec_interval.proofs.ShortLemmas.{reads_interval}
use Rattle.aec_interval.proofs.reading.short_interval.fill_mixed_interval.Goals as goal

pub returns-then-fill_rest-clause-fills : goal.returns-then-fill_rest-clause-fills
returns-then-fill_rest-clause-fills g c =
    let s = c.args.params.now in
    let fill = c.fill_first-first in
    let size : fill.result * s.block_size ≡ fill.result * g.row.N = rw c.requires.size in
    record {
      ok = λ read. reads_interval s fill.result (s.interval - fill.result) c.args.reader.now fill.new.reader c.fill_rest.new.reader
          (take (fill.result * g.row.N) fill.new.samples) c.fill_rest.new.samples c.known_allowed.ensures (omega arith)
          (rw size at (fill.ensures.fills.ok c.if-first-gt0.true)) (c.if-fill_rest.ensures.ok refl);
      stays = λ not. absurd (search (rules, not));
      len = search rules;
    }
