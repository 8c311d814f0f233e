use Rattle.std.proofs.Common.{rules, ◌≡◌, ◌∙◌, w64, FitsSigned, to_z, of_z}
use Rattle.std.proofs.Math.Nat.{mul_comm}
use Rattle.std.proofs.lemmas.Int.{to_z-of_z}
use Rattle.aec_interval.proofs.ShortLemmas.{reads_whole}
use Rattle.aec_interval.proofs.reading.short_interval.read_whole_run.Goals as goal

pub returns-then-blocks-from-clause-ok : goal.returns-then-blocks-from-clause-ok
returns-then-blocks-from-clause-ok c =
    let s = c.args.params.now in
    let z = c.in-Some.blocks in
    let all : z ≡ s.interval = c.if-blocks-from.true ∙ (c.from.ensures ∙ c.interval.ensures.value) in
    let fits : FitsSigned w64 c.in-Some.sample = search (rules, c.read_first_run.type_inv) in
    let kept : to_z w64 (of_z w64 c.in-Some.sample) ≡ c.in-Some.sample = to_z-of_z w64 c.in-Some.sample fits in
    rw kept (rw (all, mul_comm) at (reads_whole s z c.args.reader.now c.read_first_run.new.reader _ c.interval.ensures.allowed
    all c.in-Some.ensures.read))
