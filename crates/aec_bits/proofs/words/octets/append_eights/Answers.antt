use Rattle.std.proofs.Common.{◌+◌, ◌*◌, take, drop, ap, ◌∙◌, arith}
use Rattle.aec_params.specs.Codewords.{binary, bits_of_bytes}
use Rattle.aec_bits.specs.Words.{bits_of_words}
use Rattle.aec_bits.proofs.ByteLemmas.{bytes_more, eight_behind}
use Rattle.aec_bits.proofs.words.octets.append_eights.Goals as goal

pub loop-i-preserved : goal.loop-i-preserved
loop-i-preserved c =
    let bytes = c.args.bytes.now in
    let i = c.loop-i.i in
    record {
      list = bytes_more c.loop-i.words.items c.push_reserved_number.new.words.items (take (8 * i) bytes) (take 8 (drop (8 * i) bytes))
          (take (8 * (i + 1)) bytes) (take c.args.len (bits_of_words c.args.words.now.items)) (binary 64 c.word_of-word.result) (c.args.len + 64 * i) 64
          (c.args.len + 64 * (i + 1)) c.loop-i.invariant.list c.push_reserved_number.ensures.list
          (c.word_of-word.ensures ∙ ap bits_of_bytes c.eight_at.ensures) (eight_behind bytes i) (omega arith);
      capacity = omega arith;
    }
