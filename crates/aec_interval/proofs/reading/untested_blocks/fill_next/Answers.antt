use Rattle.std.proofs.Common.{rules, ◌≡◌, ◌≤◌, ◌+◌, ◌-◌, ◌*◌, ◌∙◌, length, take, refl, arith, w64, FitsSigned}
use Rattle.std.proofs.Math.Nat.{mul-le-mul_right}
use Rattle.std.proofs.lemmas.Int.{to_z-of_z}
use Rattle.aec_interval.proofs.NextFillLemmas.{held-last_sample}
use Rattle.aec_interval.proofs.UntestedLemmas.{one_single}
use Rattle.aec_interval.proofs.reading.untested_blocks.fill_next.Goals as goal

pub unmap_into-requires-clause-prediction : goal.unmap_into-requires-clause-prediction
unmap_into-requires-clause-prediction g c =
    let fits : FitsSigned w64 c.previous_of-previous.result = search (rules, c.previous_of-previous.type_inv) in
    rw (to_z-of_z, c.previous_of-previous.ensures)
    (held-last_sample c.args.params.now (take c.args.from c.args.samples.now) c.known_allowed.ensures c.requires.held)

pub returns-clause-fills : goal.returns-clause-fills
returns-clause-fills g c =
    let s = c.args.params.now in
    let from = c.args.from in
    let values = c.read_single.new.values in
    let size : length values ≡ s.block_size = c.read_single.ensures.len ∙ c.requires.count in
    let one : 1 * s.block_size ≤ c.args.most * s.block_size = mul-le-mul_right s.block_size c.requires.some in
    let room : from + s.block_size ≤ length c.args.samples.now = omega arith in
    let next : from + length values ≡ from + 1 * s.block_size = omega arith in
    record {
      reads =
          rw (← next) (one_single s c.args.place c.args.reader.now c.read_single.new.reader c.args.samples.now c.unmap_into.new.samples values _ from
          (from + length values - from) (from + length values) c.known_allowed.ensures (c.if-not-read_single.ensures.read refl)
          (c.if-not-read_single.ensures.one refl) c.read_single.ensures.list c.requires.held
          (to_z-of_z w64 c.previous_of-previous.result (search (rules, c.previous_of-previous.type_inv)) ∙ c.previous_of-previous.ensures)
          (omega arith) (omega arith) (search rules) c.unmap_into.ensures.items);
      within = c.requires.some;
      len = search rules;
    }
