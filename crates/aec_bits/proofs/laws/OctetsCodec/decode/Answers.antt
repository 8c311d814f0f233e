use Rattle.std.proofs.Common.{length, arith, ap, ◌∙◌}
use mir.Val.{to_z}
use mir.Syntax.{w64}
use Rattle.std.proofs.lemmas.Int.{to_z_pos}
use Rattle.aec_bits.proofs.OctetLemmas.{octet_there, decoded_more}
use Rattle.aec_bits.proofs.laws.OctetsCodec.decode.Goals as goal

pub returns-in_err-read-clause-fault : goal.returns-in_err-read-clause-fault
returns-in_err-read-clause-fault c =
    let there = octet_there c.args.stream.now.list c.args.pos c.args.count c.loop-place._place c.requires.0 c.requires.1 (omega arith) in
    absurd (omega (arith, c.in_err-read.ensures.takes.refuses.0, ap length c.loop-place.invariant.list))

pub returns-in_err-read-clause-err : goal.returns-in_err-read-clause-err
returns-in_err-read-clause-err c =
    let there = octet_there c.args.stream.now.list c.args.pos c.args.count c.loop-place._place c.requires.0 c.requires.1 (omega arith) in
    absurd (omega (arith, c.in_err-read.ensures.takes.refuses.0, ap length c.loop-place.invariant.list))

pub loop-place-preserved : goal.loop-place-preserved
loop-place-preserved c =
    record {
      list = c.in_ok-read.ensures.takes.list ∙ c.loop-place.invariant.list;
      place = omega (arith, c.in_ok-read.ensures.takes.moves);
      room = omega (arith, c.in_ok-push.ensures.len);
      items =
          rw c.in_ok-push.ensures.items
          (decoded_more c.args.out.now.items c.loop-place.out.items c.args.stream.now.list c.loop-place.reader.list c.args.pos c.args.count c.loop-place._place
          c.in_ok-read.field-0 c.loop-place.reader.pos (to_z w64 c.in_ok-read.field-0) (omega arith) c.in_ok-read.ensures.fits
          (to_z_pos w64 c.in_ok-read.field-0 (omega (arith, c.in_ok-read.ensures.fits)))
          c.loop-place.invariant.list c.loop-place.invariant.place c.in_ok-read.ensures.bits c.loop-place.invariant.items);
    }
