use Rattle.std.proofs.Common.{arith, sym, ◌∙◌}
use Rattle.byteorder.specs.Endian.{big_number, little_number}
use Rattle.aec_params.specs.Params.{IsHeld}
use Rattle.aec_params.proofs.StoredListLemmas.{all_from_places, loaded-samples, number_in-big, number_in-little}
use Rattle.aec_params.proofs.stored_lists.load_samples.Goals as goal

pub returns-then-msb_first-clause-samples : goal.returns-then-msb_first-clause-samples
returns-then-msb_first-clause-samples c =
    loaded-samples c.args.params.now c.args.bytes.now c.load_numbers.new.out big_number c.storage-width.result c.storage-width.ensures.value
    (omega (arith, c.load_numbers.auto.out, c.requires.room)) (number_in-big c.args.params.now (sym c.msb_first.ensures ∙ c.if-msb_first.true))
    c.load_numbers.ensures.samples c.requires.good

pub returns-else-msb_first-clause-samples : goal.returns-else-msb_first-clause-samples
returns-else-msb_first-clause-samples c =
    loaded-samples c.args.params.now c.args.bytes.now c.load_numbers-else-msb_first.new.out little_number c.storage-width.result
    c.storage-width.ensures.value (omega (arith, c.load_numbers-else-msb_first.auto.out, c.requires.room))
    (number_in-little c.args.params.now (sym c.msb_first.ensures ∙ c.if-msb_first.false)) c.load_numbers-else-msb_first.ensures.samples c.requires.good

pub returns-then-msb_first-clause-held : goal.returns-then-msb_first-clause-held
returns-then-msb_first-clause-held c = all_from_places (IsHeld c.args.params.now) c.load_numbers.new.out c.load_numbers.ensures.held

pub returns-else-msb_first-clause-held : goal.returns-else-msb_first-clause-held
returns-else-msb_first-clause-held c =
    all_from_places (IsHeld c.args.params.now) c.load_numbers-else-msb_first.new.out c.load_numbers-else-msb_first.ensures.held
