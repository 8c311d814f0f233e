use Rattle.std.proofs.Common.{rules, ◌≡◌, ◌≤◌, ◌+◌, ◌-◌, ◌*◌, ◌∙◌, ℤ, refl, sym, arith, w64, FitsSigned, to_z, of_z}
use Rattle.std.proofs.lemmas.Int.{to_z-of_z}
use Rattle.aec_params.specs.Places.{segment_left}
use Rattle.aec_interval.proofs.UntestedRunLemmas.{one_run}
use Rattle.aec_interval.proofs.reading.untested_blocks.fill_run.Goals as goal

pub returns-then-blocks-min : goal.returns-then-blocks-min
returns-then-blocks-min c =
    let s = c.args.params.now in
    let z = c.block_count-blocks.result in
    let k = c.args.from + z * c.block_size.result - c.args.from in
    let fits : FitsSigned w64 c.repeated_sample-sample.result = search (rules, c.repeated_sample-sample.type_inv) in
    let x : ℤ = to_z w64 (of_z w64 c.repeated_sample-sample.result) in
    let few : z ≤ c.args.most = omega arith in
    let left : z ≤ segment_left s c.args.place = omega arith in
    let size : k ≡ z * s.block_size = grind arith in
    record {
      reads = one_run s c.args.place c.args.most c.args.reader.now c.read_run.new.reader c.in-Some.reference c.in-Some.len z c.args.samples.now
          c.fill.new.self x c.args.from k c.block_size.ensures.allowed c.requires.place c.in-Some.ensures.read (sym c.block_count-blocks.ensures) left few
          (c.in-Some.ensures.one refl) c.in-Some.ensures.list c.requires.held
          (to_z-of_z w64 c.repeated_sample-sample.result fits ∙ c.repeated_sample-sample.ensures) size c.requires.room
          (c.fill.ensures.after (λ y same. search (rules, same)));
      within = few;
      len = search rules;
    }
