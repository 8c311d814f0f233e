use Rattle.aec_block.specs.declared.cds.RunLen.TheVariants.{Blocks}
use Rattle.aec_block.proofs.StandingLemmas.{skipped_as}
use Rattle.aec_block.proofs.skipping.skip_single.Goals as goal

pub returns-in-Ok-true-clause-skipped : goal.returns-in-Ok-true-clause-skipped
returns-in-Ok-true-clause-skipped c =
    λ _. skipped_as c.args.params.now c.args.is_ref c.args.reader.now c.skip_plain.new.reader (Blocks 1) c.skip_plain.ensures.allowed
    c.pos-start.ensures.within c.skip_plain.ensures.within c.skip_plain.ensures.list (c.in-Ok-true.ensures.taken c.in-Ok-true.field-0-test)
