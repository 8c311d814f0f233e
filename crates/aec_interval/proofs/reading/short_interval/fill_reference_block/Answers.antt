use Rattle.std.proofs.Common.{rules, ◌≡◌, length, refl, ◌∙◌, w64, FitsSigned, to_z, of_z}
use Rattle.std.proofs.lemmas.Int.{to_z-of_z}
use Rattle.aec_params.proofs.SettingLaws.{interval-positive}
use Rattle.aec_interval.proofs.ShortLemmas.{filled_front, reads_first}
use Rattle.aec_interval.proofs.reading.short_interval.fill_reference_block.Goals as goal

pub returns-in-Some-clause-fills : goal.returns-in-Some-clause-fills
returns-in-Some-clause-fills g c =
    let s = c.args.params.now in
    let x = to_z w64 (of_z w64 c.value-first.result) in
    let fits : FitsSigned w64 c.value-first.result = search (rules, c.value-first.type_inv) in
    let kept : x ≡ c.value-first.result = to_z-of_z w64 c.value-first.result fits in
    let front = filled_front c.unmap_into.new.samples _ c.args.samples.now (length c.read_single_first.new.values) s.block_size c.unmap_into.ensures.len
    (c.read_single_first.ensures.len ∙ c.requires.count) c.requires.room in
    record {
      ok =
          λ some. rw (← front) at (reads_first s c.args.reader.now c.read_single_first.new.reader c.in-Some.pattern c.read_single_first.new.values x
          c.unmap_into.new.samples c.known_allowed.ensures c.requires.on c.in-Some.ensures.read (c.in-Some.ensures.one refl)
          (rw kept c.value-first.ensures.held) (rw kept c.value-first.ensures.undone) c.unmap_into.ensures.items c.read_single_first.ensures.list);
      within = interval-positive s c.known_allowed.ensures;
      list = search rules;
      len = search rules;
    }
