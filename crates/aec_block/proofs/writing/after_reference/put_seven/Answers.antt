use Rattle.std.proofs.Common.{◌++◌, Bool, List, drop, subst, arith, length-append, append_assoc}
use Rattle.aec_params.specs.Codewords.{binary}
use Rattle.aec_params.proofs.CodewordLaws.{length-binary}
use Rattle.aec_block.specs.Written.{high_parts, low_parts, GathersBits}
use Rattle.aec_block.proofs.SevenLemmas.{length-low_of_seven, spelled}
use Rattle.aec_block.proofs.WritingLemmas.{gathers-then}
use Rattle.aec_block.proofs.writing.after_reference.put_seven.Goals as goal

pub put-requires-clause-room : goal.put-requires-clause-room
put-requires-clause-room c =
    let rest = drop 1 c.args.all.now in
    omega (
      arith,
      length-append (high_parts c.args.k rest) (low_parts c.args.k rest),
      length-low_of_seven c.args.k c.args.all.now c.requires.seven.eight,
      length-append c.args.gathered (binary c.args.len c.high_word_of_seven.result),
      length-binary c.args.len c.high_word_of_seven.result,
      c.requires.len,
      c.requires.room,
      c.put-high.ensures.room,
    )

pub returns : goal.returns
returns c =
    let rest = drop 1 c.args.all.now in
    let high = subst (λ (bits : List Bool). GathersBits (c.args.gathered ++ bits) c.args.out.now c.put-high.result c.put-high.new.out)
    (spelled c.args.len _ c.high_word_of_seven.result c.requires.len c.high_word_of_seven.ensures.bits) c.put-high.ensures in
    let low = subst (λ (bits : List Bool). GathersBits (c.put-high.result ++ bits) c.put-high.new.out c.put.result c.put.new.out)
    c.low_word_of_seven.ensures.bits c.put.ensures in
    subst (λ (bits : List Bool). GathersBits bits c.args.out.now c.put.result c.put.new.out)
    (append_assoc c.args.gathered (high_parts c.args.k rest) (low_parts c.args.k rest))
    (gathers-then _ _ _ _ _ _ _ high low)
