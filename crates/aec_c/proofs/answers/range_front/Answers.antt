use Rattle.aec_c.proofs.FrontReadingLemmas.{ranges_whole}
use Rattle.aec_c.proofs.answers.range_front.Goals as goal

pub returns-in-Ok-clause-some : goal.returns-in-Ok-clause-some
returns-in-Ok-clause-some c =
    ranges_whole c.args.params.now c.args.asked.count _ c.args.bytes.now c.args.out.now c.range_into.new.out c.in-Ok.put c.requires.short
    c.args.asked.first c.args.asked.len (rw c.limits.ensures at c.in-Ok.ensures)
