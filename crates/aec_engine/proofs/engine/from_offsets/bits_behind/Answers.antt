use Rattle.std.proofs.Common.{◌++◌, ◌%◌, ◌/◌, drop, ap, ◌∙◌}
use Rattle.std.proofs.lemmas.List.{take_rest}
use Rattle.aec_params.specs.Codewords.{bits_of_bytes}
use Rattle.aec_engine.proofs.FromBitLemmas.{bits_from}
use Rattle.aec_engine.proofs.engine.from_offsets.bits_behind.Goals as goal

pub returns : goal.returns
returns c =
    let bytes = c.args.coded.now in
    let bit = c.args.bit in
    c.in_ok-splice.ensures.ok ∙ ap (λ l. l ++ drop (bit % 8) c.in_ok-bits.bits.list) c.new.ensures.list
    ∙ ap (drop (bit % 8)) (c.in_ok-bits.ensures.ok ∙ ap bits_of_bytes (take_rest bytes (bit / 8))) ∙ bits_from bytes bit c.requires
