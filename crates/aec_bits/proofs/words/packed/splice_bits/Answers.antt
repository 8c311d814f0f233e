use Rattle.std.proofs.Common.{◌+◌, ◌-◌, take, ap, ◌∙◌, arith}
use Rattle.std.specs.Vec.{with_items}
use Rattle.std.proofs.lemmas.List.{with_items_is}
use Rattle.aec_bits.specs.Words.{bits_of_words}
use Rattle.aec_bits.proofs.WordLemmas.{length-bits_of_words}
use Rattle.aec_bits.proofs.GrowthLemmas.{spliced}
use Rattle.aec_bits.proofs.words.packed.splice_bits.Goals as goal

pub returns-clause-list : goal.returns-clause-list
returns-clause-list c =
    let words = c.args.words.now in
    let with = c.args.with.now in
    let moved = c.move_bits.new.words in
    let copied = c.copy_bits.new.words in
    let total = c.args.start + c.args.count + (c.args.len - c.args.stop) in
    let first = c.as_mut_slice-2.ensures.value ∙ with_items_is c.grow.new.words moved (omega arith) in
    let second = with_items_is (with_items c.grow.new.words moved) copied (omega arith) in
    let done = spliced (bits_of_words words.items) _ _ (bits_of_words copied) (bits_of_words with) c.args.len c.args.start c.args.stop c.args.count
    (c.args.len - c.args.stop) _ c.requires.order (omega arith) (omega (arith, length-bits_of_words words.items, c.requires.packed.0))
    (omega (arith, length-bits_of_words with)) (omega (arith, length-bits_of_words words.items, words.ok.0)) c.grow.ensures.bits
    (rw c.as_mut_slice.ensures.value at c.move_bits.ensures.bits) (rw first at c.copy_bits.ensures.bits) in
    (c.cut.ensures.list.0 ∙ ap (λ l. take total (bits_of_words l)) second ∙ done, c.cut.ensures.list.1)
