use Rattle.std.proofs.Common.{arith, rules}
use Rattle.std.proofs.lemmas.List.{with_items_is, length-take-le}
use Rattle.aec_bits.specs.Words.{bits_of_words}
use Rattle.aec_bits.proofs.WordLemmas.{length-bits_of_words}
use Rattle.aec_bits.proofs.GrowthLemmas.{appended}
use Rattle.aec_bits.proofs.words.packed.append_bits.Goals as goal

pub returns : goal.returns
returns c =
    let now = c.copy_bits.new.words in
    let words = c.args.words.now in
    let with = c.args.with.now in
    record {
      list = rw (with_items_is c.grow.new.words now (omega arith))
          (appended words.items c.grow.new.words.items now _ c.args.len c.args.count _ c.requires.grow.packed c.grow.ensures.bits
          (length-take-le c.args.count (bits_of_words with) (omega (arith, length-bits_of_words with)))
          (omega (arith, words.ok.0, c.requires.grow.packed.0)) (rw c.as_mut_slice.ensures.value at c.copy_bits.ensures.bits));
      capacity = search rules;
    }
