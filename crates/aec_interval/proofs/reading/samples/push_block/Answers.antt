use Rattle.std.proofs.Common.{rules, w64, FitsSigned, sym, ◌≡◌, to_z, of_z}
use Rattle.std.proofs.lemmas.Int.{to_z-of_z}
use Rattle.aec_interval.proofs.NextFillLemmas.{held-last_sample, values-below, fills_block_single, fills_block_reference}
use Rattle.aec_interval.proofs.reading.samples.push_block.Goals as goal

pub push_unmapped-requires-clause-prediction : goal.push_unmapped-requires-clause-prediction
push_unmapped-requires-clause-prediction c =
    let fits : FitsSigned w64 c.previous_of-previous.result = search (rules, c.previous_of-previous.type_inv) in
    rw (to_z-of_z, c.previous_of-previous.ensures, c.deref.ensures.value)
    (held-last_sample c.args.params.now c.args.samples.now.items c.requires.allowed c.requires.held)

pub push_unmapped-requires-clause-mapped : goal.push_unmapped-requires-clause-mapped
push_unmapped-requires-clause-mapped c =
    values-below c.args.params.now c.args.block.now c.args.samples.now.items c.values.result.now c.requires.next c.values.ensures.value

pub returns-in-None-clause-items : goal.returns-in-None-clause-items
returns-in-None-clause-items c =
    let fits : FitsSigned w64 c.previous_of-previous.result = search (rules, c.previous_of-previous.type_inv) in
    fills_block_single c.args.params.now c.args.samples.now.items c.push_unmapped.new.samples.items c.args.block.now
    (to_z w64 (of_z w64 c.previous_of-previous.result)) c.values.result.now c.requires.allowed c.requires.next (sym c.in-None.ensures.value)
    (rw (to_z-of_z, c.previous_of-previous.ensures, c.deref.ensures.value)) c.values.ensures.value c.push_unmapped.ensures.items

pub returns-in-Some-clause-items : goal.returns-in-Some-clause-items
returns-in-Some-clause-items c =
    let fits : FitsSigned w64 c.value-first.result = search (rules, c.value-first.type_inv) in
    let kept : to_z w64 (of_z w64 c.value-first.result) ≡ c.value-first.result = to_z-of_z w64 c.value-first.result fits in
    fills_block_reference c.args.params.now c.args.samples.now.items c.push_unmapped-in-Some.new.samples.items c.args.block.now c.in-Some.pattern
    (to_z w64 (of_z w64 c.value-first.result)) _ c.requires.allowed c.requires.next (sym c.in-Some.ensures.value) (rw kept c.value-first.ensures.held)
    (rw kept c.value-first.ensures.undone) c.values-in-Some.ensures.value c.push_unmapped-in-Some.ensures.items
