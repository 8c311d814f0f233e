use Rattle.std.proofs.Common.{length, ap, ◌∙◌, arith}
use Rattle.std.proofs.lemmas.List.{with_items_is}
use Rattle.aec_bits.proofs.PackedLemmas.{cut_words}
use Rattle.aec_bits.proofs.words.packed.cut.Goals as goal

pub returns-clause-list : goal.returns-clause-list
returns-clause-list c =
    let now = c.put_number.new.words in
    let stands = c.as_mut_slice.ensures.value ∙ c.truncate.ensures.items in
    let same = with_items_is c.truncate.new.self now (omega arith) in
    rw same (cut_words c.args.words.now.items now c.args.len _ _ (omega (arith, c.args.words.now.ok.0)) c.div_ceil-count.ensures (omega arith)
    (c.put_number.ensures.len ∙ ap length stands) (rw stands at c.put_number.ensures.bits))
