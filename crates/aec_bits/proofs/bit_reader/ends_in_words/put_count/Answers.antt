use Rattle.std.proofs.Common.{◌*◌, arith}
use Rattle.aec_bits.proofs.EndsLemmas.{byte_left, first_ends}
use Rattle.aec_bits.proofs.bit_reader.ends_in_words.put_count.Goals as goal

pub put_ends-found-requires-clause-byte : goal.put_ends-found-requires-clause-byte
put_ends-found-requires-clause-byte g c =
    let l = c.loop-found in
    byte_left c.args.word l.i l.found c.args.count l.ends l.invariant.bytes c.ranges.word.fits l.invariant.ends c.loop-found-test.true c.requires.there

pub loop-found-smaller : goal.loop-found-smaller
loop-found-smaller g c =
    let l = c.loop-found in
    omega (
      arith,
      byte_left c.args.word l.i l.found c.args.count l.ends l.invariant.bytes c.ranges.word.fits l.invariant.ends c.loop-found-test.true
          c.requires.there,
    )

pub loop-found-preserved : goal.loop-found-preserved
loop-found-preserved g c =
    let l = c.loop-found in
    let next = c.put_ends-found.ensures in
    record {
      ends = next.ends;
      few = next.few;
      bytes = omega (
        arith,
        byte_left c.args.word l.i l.found c.args.count l.ends l.invariant.bytes c.ranges.word.fits l.invariant.ends c.loop-found-test.true
            c.requires.there,
      );
    }

pub returns-clause-ends : goal.returns-clause-ends
returns-clause-ends g c =
    first_ends c.args.word (8 * c.loop-found.i) c.loop-found.found c.args.count c.loop-found.ends c.loop-found.invariant.ends c.loop-found-test.false
