use Rattle.std.proofs.Common.{arith, rules}
use Rattle.std.proofs.lemmas.List.{with_items_is}
use Rattle.aec_bits.proofs.GrowthLemmas.{appended_unary}
use Rattle.aec_bits.proofs.words.packed.push_unary.Goals as goal

pub returns : goal.returns
returns c =
    let now = c.put_number.new.words in
    let words = c.args.words.now in
    record {
      list = rw (with_items_is c.grow.new.words now (omega arith))
          (appended_unary words.items c.grow.new.words.items now c.args.len c.args.v _ c.requires.packed c.grow.ensures.bits
          (omega (arith, words.ok.0)) (omega (arith, words.ok.0, c.requires.packed.0)) (rw c.as_mut_slice.ensures.value at c.put_number.ensures.bits));
      capacity = search rules;
    }
