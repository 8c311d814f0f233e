use Rattle.std.proofs.Common.{◌∙◌, ap}
use Rattle.aec_block.specs.ReadAt.{taken}
use Rattle.aec_block.specs.Gathering.{bits_at}
use Rattle.aec_block.specs.ReadCds.{as_cds, as_read, cds_of}
use Rattle.aec_block.proofs.StandingLemmas.{read_as, refused_large, refused_cut}
use Rattle.aec_block.proofs.reading.read_into.Goals as goal
use Rattle.aec_block.proofs.reading.read_into.Goals.{in-Ok-None, in-Err}

pub returns-in-Ok-Some-clause-ok : goal.returns-in-Ok-Some-clause-ok
returns-in-Ok-Some-clause-ok c =
    let answered = ap (λ found. taken (as_read found c.read_set.new.block) (bits_at c.read_set.new.reader)) c.in-Ok-Some.field-0-is in
    read_as c.args.params.now c.args.is_ref c.args.reader.now c.read_set.new.reader
    (as_cds c.in-Ok-Some.found c.read_set.new.block) c.in-Ok-Some.ensures.allowed
    c.pos-start.ensures.within c.in-Ok-Some.ensures.taken.within c.in-Ok-Some.ensures.taken.list (c.in-Ok-Some.ensures.taken.taken ∙ answered)

pub returns-clause-refuses : goal.returns-clause-refuses
returns-clause-refuses c =
    elim c.match-read_set.branch [
      | in-Ok-None w ↦ refused_large cds_of c.args.params.now c.args.is_ref c.args.reader.now c.read_set.new.reader
          (as_read w.in-Ok-None.field-0 c.read_set.new.block) c.pos-start.result
          c.match-read_set.fault w.in-Ok-None.ensures.allowed w.fault-is c.pos-start.ensures.value
          (ap (λ found. as_read found c.read_set.new.block) w.in-Ok-None.field-0-is) w.in-Ok-None.ensures.taken.taken
      | in-Err w ↦ refused_cut cds_of c.args.params.now c.args.is_ref c.args.reader.now c.pos-start.result
          c.match-read_set.fault w.in-Err.ensures.allowed w.fault-is c.pos-start.ensures.value w.in-Err.ensures.taken.taken
    ]
