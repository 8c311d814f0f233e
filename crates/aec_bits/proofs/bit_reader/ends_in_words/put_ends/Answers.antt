use Rattle.std.proofs.Common.{◌≡◌, length, refl, rules}
use Rattle.aec_bits.proofs.EndsLemmas.{ends_more}
use Rattle.aec_bits.proofs.bit_reader.ends_in_words.put_ends.Goals as goal

pub returns-clause-ends : goal.returns-clause-ends
returns-clause-ends c =
    let same : c.copy_from_slice.new.self ≡ c.ends_from.result = search rules in
    let eight : length c.copy_from_slice.new.self ≡ 8 = search rules in
    (ends_more c.args.word c.args.i c.args.count _ c.args.ends.now c.copy_from_slice.new.self c.requires.byte c.requires.few c.requires.room
    c.requires.before refl eight (rw same c.ends_from.ensures)).0
