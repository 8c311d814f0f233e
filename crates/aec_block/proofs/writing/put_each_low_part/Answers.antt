use Rattle.std.proofs.Common.{◌≡◌, ◌∙◌, ◌+◌, ◌%◌, ◌*◌, ◌^◌, ◌++◌, ap, subst, arith, refl, get_or, ℕ}
use Rattle.std.proofs.lemmas.Nat.{one_shl}
use Rattle.aec_params.specs.Codewords.{binary}
use Rattle.aec_params.proofs.CodewordLaws.{length-binary}
use Rattle.aec_block.specs.Written.{GathersBits}
use Rattle.aec_block.proofs.WritingLemmas.{gathering-more, room-for_next, low_parts-drop}
use Rattle.aec_block.proofs.writing.put_each_low_part.Goals as goal

pub put-gathered-requires-clause-room : goal.put-gathered-requires-clause-room
put-gathered-requires-clause-room c =
    room-for_next _ _ _ _ _ _ _ c.args.width c.loop-v.invariant c.requires.room
    (low_parts-drop c.args.width c.args.values.now c.loop-v.v-index (c.loop-v.v-index + 1) refl (omega arith)) (length-binary c.args.width _)

pub loop-v-preserved : goal.loop-v-preserved
loop-v-preserved c =
    let divisor : 1 * 2 ^ c.args.width % 2 ^ 64 ≡ 2 ^ c.args.width = one_shl c.args.width 64 (omega arith) in
    let low : c.from.result % (1 * 2 ^ c.args.width % 2 ^ 64) ≡ get_or c.args.values.now c.loop-v.v-index 0 % 2 ^ c.args.width =
    ap (λ (d : ℕ). c.from.result % d) divisor ∙ ap (λ (v : ℕ). v % 2 ^ c.args.width) c.from.ensures in
    let step = subst (λ (v : ℕ). GathersBits (c.loop-v.gathered ++ binary c.args.width v) c.loop-v.out c.put-gathered.result c.put-gathered.new.out)
    low c.put-gathered.ensures in
    gathering-more _ _ _ _ _ _ _ _ _ c.loop-v.invariant
    (low_parts-drop c.args.width c.args.values.now c.loop-v.v-index (c.loop-v.v-index + 1) refl (omega arith)) step
