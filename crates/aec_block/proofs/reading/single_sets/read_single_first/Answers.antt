use Rattle.std.proofs.Common.{◌≡◌, true, Some, ap}
use Rattle.std.specs.Option.{is_some}
use Rattle.aec_block.specs.declared.cds.Cds.TheVariants.{Single}
use Rattle.aec_block.specs.ReadAt.{taken, map_taken, cds_at}
use Rattle.aec_block.specs.Gathering.{bits_at}
use Rattle.aec_block.specs.BlockShape.{block_with}
use Rattle.aec_block.specs.ReadCds.{checked}
use Rattle.aec_block.proofs.NoSingleLemmas.{none_stands}
use Rattle.aec_block.proofs.SingleLemmas.{of_some, single_read, single-below}
use Rattle.aec_block.proofs.reading.single_sets.read_single_first.Goals as goal

pub returns-in-Ok-Some-clause-read : goal.returns-in-Ok-Some-clause-read
returns-in-Ok-Some-clause-read g c =
    let filled = c.in-Ok-Some.ensures in
    let s = c.args.params.now in
    let values = c.fill_first.new.values in
    let there =
    of_some (λ pattern. map_taken (checked s) (cds_at s true (bits_at c.args.reader.now))
    ≡ taken (Some (Single (block_with (Some pattern) values))) (bits_at c.fill_first.new.reader)) _ _ c.in-Ok-Some.field-0-is filled.taken in
    single_read s (Some c.in-Ok-Some.pattern) c.args.reader.now c.fill_first.new.reader values filled.allowed c.pos-start.ensures.within filled.within
    filled.list there

pub returns-in-Ok-Some-clause-below : goal.returns-in-Ok-Some-clause-below
returns-in-Ok-Some-clause-below g c =
    single-below c.args.params.now c.args.reader.now c.fill_first.new.reader (Some c.in-Ok-Some.pattern) c.fill_first.new.values
    (returns-in-Ok-Some-clause-read g c)

pub returns-in-Ok-None-clause-refuses : goal.returns-in-Ok-None-clause-refuses
returns-in-Ok-None-clause-refuses g c =
    let found = c.in-Ok-None.ensures in
    λ none. none_stands c.args.params.now true c.args.reader.now found.allowed (found.none (ap is_some c.in-Ok-None.field-0-is))

pub returns-in-Err-clause-refuses : goal.returns-in-Err-clause-refuses
returns-in-Err-clause-refuses g c =
    λ none. none_stands c.args.params.now true c.args.reader.now c.in-Err.ensures.allowed c.in-Err.ensures.cut
