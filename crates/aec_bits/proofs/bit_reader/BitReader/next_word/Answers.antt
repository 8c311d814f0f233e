use Rattle.std.proofs.Common.{subst}
use Rattle.aec_bits.specs.BitReader.{IsBehindWord}
use Rattle.aec_bits.proofs.FromWordLemmas.{next_of_word}
use Rattle.aec_bits.proofs.bit_reader.BitReader.next_word.Goals as goal

pub returns : goal.returns
returns c =
    subst (λ cursor. IsBehindWord cursor 0 c.word_from.result) c.self.view_is (next_of_word _ c.self.inside.pos c.word_from.result c.word_from.ensures.bits)
