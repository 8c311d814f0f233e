use Rattle.std.proofs.Common.{rules, ◌≤◌, ◌∙◌, ℤ, refl, sym, arith, w64, FitsSigned, to_z, of_z}
use Rattle.std.proofs.lemmas.Int.{to_z-of_z}
use Rattle.aec_interval.proofs.UntestedRunLemmas.{first_run}
use Rattle.aec_interval.proofs.reading.short_interval.read_first_run.Goals as goal

pub returns-then-blocks-from-clause-read : goal.returns-then-blocks-from-clause-read
returns-then-blocks-from-clause-read c =
    let s = c.args.params.now in
    let new = c.read_run.new.reader in
    let z = c.block_count-blocks.result in
    let fits : FitsSigned w64 c.repeated_sample.result = search (rules, c.repeated_sample.type_inv) in
    let x : ℤ = to_z w64 (of_z w64 c.repeated_sample.result) in
    let few : z ≤ s.interval = omega arith in
    let read = rw c.preprocess.ensures at c.in-Some.ensures.read in
    first_run s c.args.reader.now new c.in-Some.reference c.in-Some.len z x c.known_allowed.ensures c.requires.short read
    (c.in-Some.ensures.one refl) (sym c.block_count-blocks.ensures) few
    (to_z-of_z w64 c.repeated_sample.result fits ∙ c.repeated_sample.ensures) c.in-Some.ensures.list
