use Rattle.std.proofs.Common.{rules}
use Rattle.aec_bits.proofs.ByteLemmas.{word_bits_of_bytes}
use Rattle.aec_bits.proofs.words.octets.word_of.Goals as goal

pub returns : goal.returns
returns c = word_bits_of_bytes c.args.eight c.from_be_bytes.result (search rules) (search rules) c.from_be_bytes.ensures
