use Rattle.std.proofs.Common.{◌≡◌, ◌<◌, ◌+◌, ◌-◌, ◌*◌, ◌++◌, subst, arith, rules, refl, get_or, length, ℕ}
use Rattle.aec_params.specs.Codewords.{fs}
use Rattle.aec_params.specs.CodedDataSets.{pair_number}
use Rattle.aec_params.proofs.CodewordLaws.{length-fs}
use Rattle.aec_block.specs.Written.{GathersBits}
use Rattle.aec_block.proofs.WritingLemmas.{gathering-more, gathered-all, length-parts, pair_bits-drop, pair_bits-drop_end}
use Rattle.aec_block.proofs.writing.put_pairs.Goals as goal

pub overflow_cast-number : goal.overflow_cast-number
overflow_cast-number c =
    let within : 2 * c.loop-i.i + 1 < length c.args.values.now = omega arith in
    let number = pair_number (get_or c.args.values.now (2 * c.loop-i.i) 0) (get_or c.args.values.now (2 * c.loop-i.i + 1) 0) in
    let next =
    length-parts _ _ _ (number + 1)
    (pair_bits-drop c.args.values.now (2 * c.loop-i.i) (2 * c.loop-i.i + 1) (2 * c.loop-i.i + 2) refl refl within) (length-fs number) in
    let few = c.requires.fits in
    let no_more = c.loop-i.invariant.1 in
    search (rules, arith)

pub loop-i-preserved : goal.loop-i-preserved
loop-i-preserved c =
    let within : 2 * c.loop-i.i + 1 < length c.args.values.now = omega arith in
    let after : 2 * (c.loop-i.i + 1) ≡ 2 * c.loop-i.i + 2 = omega arith in
    let number = pair_number (get_or c.args.values.now (2 * c.loop-i.i) 0) (get_or c.args.values.now (2 * c.loop-i.i + 1) 0) in
    let is : c.pair_len-number.result - 1 ≡ number = omega (arith, c.pair_len-number.ensures.len) in
    let split = pair_bits-drop c.args.values.now (2 * c.loop-i.i) (2 * c.loop-i.i + 1) (2 * (c.loop-i.i + 1)) refl after within in
    let next = length-parts _ _ _ (number + 1) split (length-fs number) in
    let step = subst (λ (v : ℕ). GathersBits (c.loop-i.gathered ++ fs v) c.loop-i.out c.put_fs-gathered.result c.put_fs-gathered.new.out)
    is c.put_fs-gathered.ensures in
    (gathering-more _ _ _ _ _ _ _ _ _ c.loop-i.invariant.0 split step, omega (arith, next, c.loop-i.invariant.1))

pub returns : goal.returns
returns c = gathered-all _ _ _ _ _ c.loop-i.invariant.0 (pair_bits-drop_end c.args.values.now (2 * c.loop-i.i) (omega arith))
