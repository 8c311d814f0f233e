use Rattle.std.proofs.Common.{sym, arith}
use Rattle.std.proofs.lemmas.Result.{IfOk-weaker}
use Rattle.aec_interval.proofs.WholeLemmas.{all-held}
use Rattle.aec_interval.proofs.OptimalityLemmas.{codes_are_shortest}
use Rattle.aec_interval.proofs.whole.encode_all.Goals as goal

pub code_intervals-requires : goal.code_intervals-requires
code_intervals-requires c = all-held c.args.params.now 0 c.args.samples.now (sym c.in-None.ensures)

pub returns-in-None-clause-shortest : goal.returns-in-None-clause-shortest
returns-in-None-clause-shortest c unpadded =
    let s = c.args.params.now in
    let held = all-held s 0 c.args.samples.now (sym c.in-None.ensures) in
    let law = codes_are_shortest s c.args.samples.now c.code_intervals.ensures.allowed in
    IfOk-weaker c.code_intervals.result _ _ (λ b same codes each. grind arith) c.code_intervals.ensures.ok
