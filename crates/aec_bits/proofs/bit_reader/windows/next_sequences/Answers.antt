use Rattle.aec_bits.proofs.GroupLemmas.{sequences_read}
use Rattle.aec_bits.proofs.bit_reader.windows.next_sequences.Goals as goal

pub returns-then-has_ones : goal.returns-then-has_ones
returns-then-has_ones c =
    let ready = c.with_ones-ready in
    let next = c.sequences_within in
    record {
      cases = rw ready.ensures.place at (sequences_read c.args.buf.now.list next.new.numbers ready.result.word ready.result.left ready.result.end
          next.result.left next.result.word next.result.end next.ensures.end ready.ensures.window.window next.ensures.fits next.ensures.put.stand);
      len = next.ensures.put.len;
    }
