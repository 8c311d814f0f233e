use Rattle.std.proofs.Common.{◌+◌, ◌*◌, [], ◌∷◌, take, get_or, sym, append-nil, arith}
use Rattle.std.proofs.lemmas.List.{take_more}
use Rattle.aec_params.specs.Codewords.{binary}
use Rattle.aec_bits.specs.Words.{bits_of_words}
use Rattle.aec_bits.proofs.ByteLemmas.{bytes_more}
use Rattle.aec_bits.proofs.words.octets.append_each.Goals as goal

pub loop-i-preserved : goal.loop-i-preserved
loop-i-preserved c =
    let bytes = c.args.bytes.now in
    let i = c.loop-i.i in
    let byte = get_or bytes i 0 in
    record {
      list = bytes_more c.loop-i.words.items c.push_reserved_number.new.words.items (take i bytes) (byte ∷ [])
          (take (i + 1) bytes) (take c.args.len (bits_of_words c.args.words.now.items)) (binary 8 byte) (c.args.len + 8 * i) 8
          (c.args.len + 8 * (i + 1)) c.loop-i.invariant.list (rw c.from.ensures at c.push_reserved_number.ensures.list) (sym (append-nil (binary 8 byte)))
          (take_more bytes i 0 (omega arith)) (omega arith);
      capacity = omega arith;
    }
