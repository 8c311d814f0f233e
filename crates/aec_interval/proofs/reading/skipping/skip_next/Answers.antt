use Rattle.aec_interval.proofs.RefusalLemmas.{of_refusal}
use Rattle.aec_interval.proofs.WantedSetLemmas.{due_there, unread-wrong, unplaced-wrong, led-next, comes-next}
use Rattle.aec_interval.proofs.reading.skipping.skip_next.Goals as goal

pub returns-in_err-len-clause-refuses : goal.returns-in_err-len-clause-refuses
returns-in_err-len-clause-refuses c =
    of_refusal _ _ _ c.from_residual.ensures.1
    (unread-wrong c.args.reader.now c.args.reader.now c.has_reference.ensures.allowed c.requires.led c.requires.wanted.wanted
    _ _ (due_there c.args.params.now _ _ _ c.has_reference.ensures.value c.requires.place) c.in_err-len.ensures.refuses)

pub returns-in_err-next-clause-refuses : goal.returns-in_err-next-clause-refuses
returns-in_err-next-clause-refuses c =
    of_refusal _ _ _ c.from_residual-in_err-next.ensures.1
    (unplaced-wrong c.args.reader.now c.skip_cds.new.reader c.has_reference.ensures.allowed c.requires.led c.requires.wanted.wanted
    (due_there c.args.params.now _ _ _ c.has_reference.ensures.value c.requires.place)
    c.in_ok-len.ensures.ok _ _ c.pos-bit.ensures.value c.in_err-next.ensures.value)

pub returns-clause-ok : goal.returns-clause-ok
returns-clause-ok c =
    led-next c.args.reader.now c.skip_cds.new.reader c.has_reference.ensures.allowed c.requires.led c.requires.wanted.wanted
    (due_there c.args.params.now _ _ _ c.has_reference.ensures.value c.requires.place)
    c.in_ok-len.ensures.ok _ _ c.in_ok-next.ensures.value _ _ c.skip_padding.ensures.list c.skip_padding.ensures.pos

pub returns-clause-next : goal.returns-clause-next
returns-clause-next c =
    comes-next c.args.reader.now c.skip_cds.new.reader c.has_reference.ensures.allowed c.requires.led c.requires.wanted.wanted
    (due_there c.args.params.now _ _ _ c.has_reference.ensures.value c.requires.place) c.in_ok-len.ensures.ok _ _ c.in_ok-next.ensures.value
    c.in_ok-next.ensures.within c.requires.wanted.low c.requires.wanted.counted
