use Rattle.std.proofs.Common.{◌≡◌, Some, ap}
use Rattle.std.specs.Option.{is_some}
use Rattle.aec_block.specs.declared.cds.Cds.TheVariants.{Zeros}
use Rattle.aec_block.specs.ReadAt.{taken, map_taken, cds_at}
use Rattle.aec_block.specs.Gathering.{bits_at}
use Rattle.aec_block.specs.ReadCds.{checked}
use Rattle.aec_block.proofs.SingleLemmas.{of_some}
use Rattle.aec_block.proofs.ReadRunLemmas.{run-has_one, no_run-stands}
use Rattle.aec_block.proofs.StandingLemmas.{read_as}
use Rattle.aec_block.proofs.reading.runs.read_run.Goals as goal

pub returns-in-Ok-Some-clause-read : goal.returns-in-Ok-Some-clause-read
returns-in-Ok-Some-clause-read c =
    let found = c.in-Ok-Some.ensures in
    let s = c.args.params.now in
    let read =
    of_some (λ run. map_taken (checked s) (cds_at s c.args.is_ref (bits_at c.args.reader.now))
    ≡ taken (Some (Zeros run.0 run.1)) (bits_at c.take_run.new.reader)) _ _ c.in-Ok-Some.field-0-is found.taken in
    read_as s c.args.is_ref c.args.reader.now c.take_run.new.reader (Zeros c.in-Ok-Some.run'.0 c.in-Ok-Some.run'.1) found.allowed
    c.pos-start.ensures.within found.within found.list read

pub returns-in-Ok-Some-clause-one : goal.returns-in-Ok-Some-clause-one
returns-in-Ok-Some-clause-one c =
    λ some. run-has_one c.args.params.now c.args.is_ref c.args.reader.now c.take_run.new.reader _ _ (returns-in-Ok-Some-clause-read c)

pub returns-in-Ok-None-clause-refuses : goal.returns-in-Ok-None-clause-refuses
returns-in-Ok-None-clause-refuses c =
    let found = c.in-Ok-None.ensures in
    λ none. no_run-stands c.args.params.now c.args.is_ref c.args.reader.now found.allowed (found.none (ap is_some c.in-Ok-None.field-0-is))

pub returns-in-Err-clause-refuses : goal.returns-in-Err-clause-refuses
returns-in-Err-clause-refuses c =
    λ none. no_run-stands c.args.params.now c.args.is_ref c.args.reader.now c.in-Err.ensures.allowed c.in-Err.ensures.cut
