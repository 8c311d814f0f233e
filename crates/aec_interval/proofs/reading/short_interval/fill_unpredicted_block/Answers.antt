use Rattle.std.proofs.Common.{rules, length, refl, ◌∙◌}
use Rattle.aec_params.proofs.SettingLaws.{interval-positive}
use Rattle.aec_interval.proofs.NextFillLemmas.{held-zero}
use Rattle.aec_interval.proofs.ShortLemmas.{filled_front, reads_unpredicted}
use Rattle.aec_interval.proofs.reading.short_interval.fill_unpredicted_block.Goals as goal

pub unmap_into-requires-clause-prediction : goal.unmap_into-requires-clause-prediction
unmap_into-requires-clause-prediction g c = held-zero c.args.params.now c.known_allowed.ensures

pub returns-clause-fills : goal.returns-clause-fills
returns-clause-fills g c =
    let s = c.args.params.now in
    let front = filled_front c.unmap_into.new.samples _ c.args.samples.now (length c.read_single.new.values) s.block_size c.unmap_into.ensures.len
    (c.read_single.ensures.len ∙ c.requires.count) c.requires.room in
    record {
      ok =
          λ some. rw (← front) at (reads_unpredicted s c.args.reader.now c.read_single.new.reader c.read_single.new.values _ c.unmap_into.new.samples
          c.known_allowed.ensures c.requires.off (c.if-not-read_single.ensures.read refl) (c.if-not-read_single.ensures.one refl) refl
          c.unmap_into.ensures.items c.read_single.ensures.list);
      within = interval-positive s c.known_allowed.ensures;
      list = search rules;
      len = search rules;
    }
