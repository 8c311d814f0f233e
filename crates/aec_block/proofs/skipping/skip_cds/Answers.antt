use Rattle.std.proofs.Common.{◌∙◌, ap}
use Rattle.aec_block.specs.ReadAt.{taken}
use Rattle.aec_block.specs.Gathering.{bits_at}
use Rattle.aec_block.specs.SkipCds.{set_len}
use Rattle.aec_block.proofs.StandingLemmas.{skipped_as, refused_large, refused_cut}
use Rattle.aec_block.proofs.skipping.skip_cds.Goals as goal
use Rattle.aec_block.proofs.skipping.skip_cds.Goals.{in-Ok-None, in-Err}

pub returns-in-Ok-Some-clause-ok : goal.returns-in-Ok-Some-clause-ok
returns-in-Ok-Some-clause-ok c =
    let answered = ap (λ len. taken len (bits_at c.skip_set.new.reader)) c.in-Ok-Some.field-0-is in
    skipped_as c.args.params.now c.args.is_ref c.args.reader.now c.skip_set.new.reader c.in-Ok-Some.len c.in-Ok-Some.ensures.allowed
    c.pos-start.ensures.within c.in-Ok-Some.ensures.taken.within c.in-Ok-Some.ensures.taken.list (c.in-Ok-Some.ensures.taken.taken ∙ answered)

pub returns-clause-refuses : goal.returns-clause-refuses
returns-clause-refuses c =
    elim c.match-skip_set.branch [
      | in-Ok-None w ↦ refused_large set_len c.args.params.now c.args.is_ref c.args.reader.now c.skip_set.new.reader w.in-Ok-None.field-0
          c.pos-start.result c.match-skip_set.fault w.in-Ok-None.ensures.allowed w.fault-is c.pos-start.ensures.value
          w.in-Ok-None.field-0-is w.in-Ok-None.ensures.taken.taken
      | in-Err w ↦ refused_cut set_len c.args.params.now c.args.is_ref c.args.reader.now c.pos-start.result
          c.match-skip_set.fault w.in-Err.ensures.allowed w.fault-is c.pos-start.ensures.value w.in-Err.ensures.taken.taken
    ]
