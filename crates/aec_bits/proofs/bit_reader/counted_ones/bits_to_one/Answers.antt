use Rattle.std.proofs.Common.{◌+◌, ◌-◌, arith}
use Rattle.aec_bits.proofs.OnesLemmas.{found_at, goes_on, none_left, ends_within}
use Rattle.aec_bits.proofs.bit_reader.counted_ones.bits_to_one.Goals as goal

pub returns-then-left-ones-clause-place : goal.returns-then-left-ones-clause-place
returns-then-left-ones-clause-place c =
    found_at c.args.buf.now.list c.args.start c.loop-place.place c.word_from-word.result c.args.count c.loop-place.left c.from-ones.result
    c.behind_in_word.result c.from.result (omega arith) c.word_from-word.ensures.bits c.from-ones.ensures c.if-left-ones.true
    c.behind_in_word.ensures.place c.from.ensures c.loop-place.invariant.same

pub returns-then-left-ones-clause-within : goal.returns-then-left-ones-clause-within
returns-then-left-ones-clause-within c =
    ends_within c.args.buf.now.list c.args.start c.args.count (c.loop-place.place - c.args.start + c.from.result) c.requires.within
    (found_at c.args.buf.now.list c.args.start c.loop-place.place c.word_from-word.result c.args.count c.loop-place.left c.from-ones.result
    c.behind_in_word.result c.from.result (omega arith) c.word_from-word.ensures.bits c.from-ones.ensures c.if-left-ones.true
    c.behind_in_word.ensures.place c.from.ensures c.loop-place.invariant.same)

pub loop-place-preserved : goal.loop-place-preserved
loop-place-preserved c = record {
  order = omega arith;
  bound = omega arith;
  some = omega arith;
  same = goes_on c.args.buf.now.list c.args.start c.loop-place.place c.word_from-word.result c.args.count c.loop-place.left c.from-ones.result
      c.loop-place.invariant.order (omega arith) c.word_from-word.ensures.bits c.from-ones.ensures (omega arith) c.loop-place.invariant.same;
}

pub returns-clause-place : goal.returns-clause-place
returns-clause-place c =
    none_left c.args.buf.now.list c.args.start c.loop-place.place c.args.count c.loop-place.left (omega arith) c.loop-place.invariant.some
    c.loop-place.invariant.same
