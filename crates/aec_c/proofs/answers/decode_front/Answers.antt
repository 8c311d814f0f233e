use Rattle.aec_c.proofs.FrontReadingLemmas.{fills_whole}
use Rattle.aec_c.proofs.answers.decode_front.Goals as goal

pub returns-in-Ok-clause-some : goal.returns-in-Ok-clause-some
returns-in-Ok-clause-some c =
    fills_whole c.args.params.now c.args.count c.args.front c.args.bytes.now c.args.out.now c.decode_into.new.out c.in-Ok.len c.requires.short
    (rw c.limits.ensures at c.in-Ok.ensures)
