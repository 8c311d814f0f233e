use Rattle.std.proofs.Common.{length}
use Rattle.aec_bits.proofs.EndsLemmas.{gaps_read}
use Rattle.aec_bits.proofs.bit_reader.ends_in_words.sixteen_within.Goals as goal

pub returns-clause-read : goal.returns-clause-read
returns-clause-read c =
    gaps_read c.args.word (length c.args.numbers.now) 16 c.put_count.new.ends c.sixteen_gaps.result c.copy_from_slice.new.self c.from.result
    c.requires.some c.requires.few c.put_count.ensures.ends c.sixteen_gaps.ensures c.copy_from_slice.ensures.after c.from.ensures
