use Rattle.std.proofs.Common.{rules, ◌*◌, ℤ, w64, FitsSigned, to_z, of_z}
use Rattle.std.proofs.lemmas.Int.{to_z-of_z}
use Rattle.aec_interval.proofs.UntestedRunLemmas.{run_in_front}
use Rattle.aec_interval.proofs.reading.short_interval.fill_first_run.Goals as goal

pub returns : goal.returns
returns c =
    let s = c.args.params.now in
    let z = c.in-Some.blocks in
    let x : ℤ = to_z w64 (of_z w64 c.in-Some.sample) in
    let fits : FitsSigned w64 c.in-Some.sample = search (rules, c.read_first_run.type_inv) in
    let front =
    run_in_front s z (z * c.block_size.result) c.args.samples.now c.fill.new.self x c.in-Some.ensures.within
    (rw c.block_size.ensures.value) c.requires.len (c.fill.ensures.after (λ y same. search (rules, same))) in
    record {
      ok = λ some. rw (front, to_z-of_z) c.in-Some.ensures.read;
      within = c.in-Some.ensures.within;
      list = search rules;
      len = search rules;
    }
