use Rattle.std.proofs.Common.{◌+◌, ◌*◌, ◌/◌, ◌++◌, length, take, refl, sym, ap₂, ◌∙◌, arith}
use Rattle.std.proofs.lemmas.List.{take-append-drop}
use Rattle.aec_params.specs.Codewords.{bits_of_bytes}
use Rattle.aec_bits.specs.Words.{bits_of_words}
use Rattle.aec_bits.proofs.ByteLemmas.{bytes_more}
use Rattle.aec_bits.proofs.words.octets.append_octets.Goals as goal

pub returns : goal.returns
returns c =
    let bytes = c.args.bytes.now in
    let eights = c.split_at.result.0.now in
    let behind = c.split_at.result.1.now in
    record {
      list = bytes_more c.append_eights.new.words.items c.append_each.new.words.items eights behind bytes
          (take c.args.len (bits_of_words c.args.words.now.items)) (bits_of_bytes behind) (c.args.len + 8 * length eights) (8 * length behind)
          (c.args.len + 8 * length bytes) c.append_eights.ensures.list c.append_each.ensures.list refl
          (sym (take-append-drop (length bytes / 8 * 8) bytes) ∙ ap₂ ◌++◌ (sym c.split_at.ensures.front) (sym c.split_at.ensures.back)) (omega arith);
      capacity = omega arith;
    }
