use Rattle.std.proofs.Common.{refl, arith, vec_len, vec_capacity}
use Rattle.std.proofs.Math.Nat.{mul-le-mul_right}
use Rattle.aec_interval.proofs.ReachedLemmas.{AreFilled-reached}
use Rattle.aec_interval.proofs.RefusalLemmas.{of_refusal}
use Rattle.aec_interval.proofs.WantedSetLemmas.{due_there, unread-wrong}
use Rattle.aec_interval.proofs.ReadNextLemmas.{refuses-fault, led-reached, unplaced-refuses, memory-refuses, kept-bounds, next-cds, reached-next, more_room, few-wanted, comes-next}
use Rattle.aec_interval.proofs.reading.read_next.Goals as goal

pub returns-in_err-found-clause-refuses : goal.returns-in_err-found-clause-refuses
returns-in_err-found-clause-refuses c =
    of_refusal _ _ _ c.from_residual.ensures.1
    (refuses-fault _ _ _ _ _ _ _ _ (unread-wrong c.args.reader.now c.args.reader.now c.has_reference.ensures.allowed
    (led-reached _ _ _ _ _ _ _ _ _ c.requires.reached) c.requires.wanted.wanted _ _
    (due_there c.args.params.now _ _ _ c.has_reference.ensures.value c.requires.place)
    c.in_err-found.ensures.refuses))

pub returns-in_err-next-clause-refuses : goal.returns-in_err-next-clause-refuses
returns-in_err-next-clause-refuses c =
    of_refusal _ _ _ c.from_residual-in_err-next.ensures.1
    (unplaced-refuses c.args.reader.now c.read_into.new.reader c.has_reference.ensures.allowed c.requires.reached c.requires.wanted.wanted
    (due_there c.args.params.now _ _ _ c.has_reference.ensures.value c.requires.place)
    (c.stands_for.ensures _) c.in_ok-found.ensures.ok _ _ c.pos-bit.ensures.value c.in_err-next.ensures.value)

pub blocks_kept-kept-requires-clause-needed : goal.blocks_kept-kept-requires-clause-needed
blocks_kept-kept-requires-clause-needed c =
    few-wanted c.args.params.now c.args.wanted.count c.args.reader.now.list c.args.block c.args.reader.now.pos c.requires.wanted.wanted

pub push_cds-requires-clause-filled : goal.push_cds-requires-clause-filled
push_cds-requires-clause-filled c =
    rw c.reserve_blocks.ensures.items (AreFilled-reached c.has_reference.ensures.allowed c.requires.reached c.requires.wanted.wanted)

pub push_cds-requires-clause-some : goal.push_cds-requires-clause-some
push_cds-requires-clause-some c =
    (kept-bounds c.args.reader.now c.read_into.new.reader c.has_reference.ensures.allowed c.requires.reached c.requires.wanted.wanted
    (due_there c.args.params.now _ _ _ c.has_reference.ensures.value c.requires.place)
    (c.stands_for.ensures _) c.in_ok-found.ensures.ok _ _ c.in_ok-next.ensures.value _ c.blocks_kept-kept.ensures).0

pub push_cds-requires-clause-next : goal.push_cds-requires-clause-next
push_cds-requires-clause-next c =
    rw c.reserve_blocks.ensures.items (next-cds c.args.reader.now c.read_into.new.reader c.has_reference.ensures.allowed c.requires.reached
    c.requires.wanted.wanted (due_there c.args.params.now _ _ _ c.has_reference.ensures.value c.requires.place) (c.stands_for.ensures _)
    c.in_ok-found.ensures.ok _ _ c.in_ok-next.ensures.value _ _ c.requires.wanted.aligned refl c.blocks_kept-kept.ensures)

pub returns-in_err-reserve_blocks-clause-refuses : goal.returns-in_err-reserve_blocks-clause-refuses
returns-in_err-reserve_blocks-clause-refuses c =
    of_refusal _ _ _ c.from_residual-in_err-reserve_blocks.ensures.1
    (memory-refuses c.args.reader.now c.read_into.new.reader c.has_reference.ensures.allowed c.requires.reached c.requires.wanted.wanted
    (due_there c.args.params.now _ _ _ c.has_reference.ensures.value c.requires.place)
    (c.stands_for.ensures _) c.in_ok-found.ensures.ok _ _ c.in_ok-next.ensures.value
    _ c.in_ok-next.ensures.within c.in_err-reserve_blocks.ensures.fault)

pub returns-clause-ok : goal.returns-clause-ok
returns-clause-ok c =
    reached-next c.args.reader.now c.read_into.new.reader c.has_reference.ensures.allowed c.requires.reached c.requires.wanted.wanted
    (due_there c.args.params.now _ _ _ c.has_reference.ensures.value c.requires.place)
    (c.stands_for.ensures _) c.in_ok-found.ensures.ok _ _ c.in_ok-next.ensures.value
    _ _ _ _ c.blocks_kept-kept.ensures (rw c.reserve_blocks.ensures.items at c.push_cds.ensures.items)
    c.skip_padding.ensures.list c.skip_padding.ensures.pos

pub returns-clause-next : goal.returns-clause-next
returns-clause-next c =
    comes-next c.args.reader.now c.read_into.new.reader c.has_reference.ensures.allowed c.requires.reached c.requires.wanted.wanted
    (due_there c.args.params.now _ _ _ c.has_reference.ensures.value c.requires.place)
    (c.stands_for.ensures _) c.in_ok-found.ensures.ok _ _ c.in_ok-next.ensures.value
    c.in_ok-next.ensures.within c.requires.wanted.low c.requires.wanted.counted

pub returns-in_err-reserve_blocks-clause-full : goal.returns-in_err-reserve_blocks-clause-full
returns-in_err-reserve_blocks-clause-full c =
    let bounds =
    kept-bounds c.args.reader.now c.read_into.new.reader c.has_reference.ensures.allowed c.requires.reached c.requires.wanted.wanted
    (due_there c.args.params.now _ _ _ c.has_reference.ensures.value c.requires.place)
    (c.stands_for.ensures _) c.in_ok-found.ensures.ok _ _ c.in_ok-next.ensures.value _ c.blocks_kept-kept.ensures in
    of_refusal _ _ _ c.from_residual-in_err-reserve_blocks.ensures.1
    (λ _. more_room _ _ (vec_capacity c.args.samples.now) (vec_len c.args.samples.now) c.args.params.now.block_size
    (omega (arith, c.in_ok-next.ensures.within)) c.in_err-reserve_blocks.ensures.full)

pub returns-clause-len : goal.returns-clause-len
returns-clause-len c =
    let bounds =
    kept-bounds c.args.reader.now c.read_into.new.reader c.has_reference.ensures.allowed c.requires.reached c.requires.wanted.wanted
    (due_there c.args.params.now _ _ _ c.has_reference.ensures.value c.requires.place)
    (c.stands_for.ensures _) c.in_ok-found.ensures.ok _ _ c.in_ok-next.ensures.value _ c.blocks_kept-kept.ensures in
    omega (arith, mul-le-mul_right c.args.params.now.block_size bounds.1)
