use Rattle.std.proofs.Common.{◌*◌, ◌∙◌, ap, ap₂, sym, refl, length, List, ℕ}
use Rattle.aec_block.specs.Lengths.{head_length}
use Rattle.aec_block.specs.Written.{high_parts}
use Rattle.aec_block.proofs.LengthLemmas.{high_rest}
use Rattle.aec_block.proofs.writing.high_len.Goals as goal

pub overflow_sub-result : goal.overflow_sub-result
overflow_sub-result c =
    (high_rest c.args.params.now c.args.block.now c.args.k c.args.bits _ _ c.requires.bits
    (c.from-head.ensures ∙ (c.head_len.ensures.len ∙ ap (head_length c.args.params.now) c.reference.ensures.value)) refl).head_within

pub overflow_sub-result-2 : goal.overflow_sub-result-2
overflow_sub-result-2 c =
    (high_rest c.args.params.now c.args.block.now c.args.k c.args.bits _ _ c.requires.bits
    (c.from-head.ensures ∙ (c.head_len.ensures.len ∙ ap (head_length c.args.params.now) c.reference.ensures.value))
    (ap₂ ◌*◌ (ap (length {A = ℕ}) c.requires.prepared.written) c.from.ensures)).low_within

pub returns : goal.returns
returns c =
    (high_rest c.args.params.now c.args.block.now c.args.k c.args.bits _ _ c.requires.bits
    (c.from-head.ensures ∙ (c.head_len.ensures.len ∙ ap (head_length c.args.params.now) c.reference.ensures.value))
    (ap₂ ◌*◌ (ap (length {A = ℕ}) c.requires.prepared.written) c.from.ensures)).rest
    ∙ ap (λ (values : List ℕ). length (high_parts c.args.k values)) (sym c.requires.prepared.written)
