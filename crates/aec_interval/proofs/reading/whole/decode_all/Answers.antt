use Rattle.std.proofs.lemmas.Result.{err_from_is_err_and}
use Rattle.aec_interval.proofs.ReadNextLemmas.{counting-refuses, decoding-refuses}
use Rattle.aec_interval.proofs.reading.whole.decode_all.Goals as goal

pub returns-in_err-judge_count-clause-refuses : goal.returns-in_err-judge_count-clause-refuses
returns-in_err-judge_count-clause-refuses c =
    let exit = err_from_is_err_and c.from_residual.result c.from_residual.ensures.1 in
    counting-refuses _ exit.0 _ _ _ _ exit.1 (rw exit.2 c.in_err-judge_count.ensures)

pub returns-clause-refuses : goal.returns-clause-refuses
returns-clause-refuses c =
    decoding-refuses c.decode_from.result c.args.params.now c.args.count c.args.limit c.args.bits.now.list
    c.in_ok-judge_count.ensures c.decode_from.ensures.refuses
