use Rattle.std.proofs.Common.{◌≡◌, ◌+◌, ◌*◌, ◌/◌, length, ap, sym, ◌∙◌, arith, rules}
use Rattle.aec_bits.proofs.GroupLemmas.{group_room, group_place, numbers_more, rest_room, numbers_end, rest_fits}
use Rattle.aec_bits.proofs.bit_reader.windows.numbers_by.Goals as goal

pub word_from-requires : goal.word_from-requires
word_from-requires g c =
    omega (
      arith,
      group_room c.args.start c.args.width g.row.N c.loop-i.i (length c.args.numbers.now) (length c.args.buf.now.list) c.loop-i.place
          c.requires.some c.loop-i-test.true c.loop-i.invariant.place c.requires.within,
    )

pub overflow_add-place : goal.overflow_add-place
overflow_add-place g c =
    let room = group_room c.args.start c.args.width g.row.N c.loop-i.i (length c.args.numbers.now) (length c.args.buf.now.list) c.loop-i.place
    c.requires.some c.loop-i-test.true c.loop-i.invariant.place c.requires.within in
    let same : c.from.result * g.row.N ≡ c.args.width * g.row.N = ap (λ k. k * g.row.N) c.from.ensures in
    record { fits = omega (arith, room, same, c.word_from.ensures.bound) }

pub loop-i-preserved : goal.loop-i-preserved
loop-i-preserved g c =
    let n = g.row.N in
    let same : c.from.result * n ≡ c.args.width * n = ap (λ k. k * n) c.from.ensures in
    let count : length c.loop-i.numbers ≡ length c.args.numbers.now = c.loop-i.auto.numbers in
    record {
      place = ap (λ k. c.loop-i.place + k) same ∙ group_place c.args.start c.args.width n c.loop-i.i c.loop-i.place c.loop-i.invariant.place;
      read = numbers_more c.args.buf.now.list c.args.width n c.loop-i.i c.word_from.result c.loop-i.place c.args.start (c.from.result * n)
          c.loop-i.numbers c.numbers_within.new.numbers c.requires.some (rw (sym count) at c.loop-i-test.true) c.loop-i.invariant.place
          (rw (sym count) at c.requires.within) c.requires.fit.there same c.word_from.ensures.bits c.numbers_within.ensures.len
          c.numbers_within.ensures.stand c.loop-i.invariant.read;
    }

pub word_from-requires-2 : goal.word_from-requires-2
word_from-requires-2 g c =
    omega (
      arith,
      rest_room c.args.start c.args.width g.row.N c.loop-i.i (length c.args.numbers.now) (length c.args.buf.now.list) c.loop-i.place
          (omega (arith, c.loop-i-test.false, c.loop-i.auto.i-end)) c.loop-i.invariant.place c.requires.within,
    )

pub returns : goal.returns
returns g c =
    let n = g.row.N in
    let done : c.loop-i.i ≡ length c.args.numbers.now / n = omega (arith, c.loop-i-test.false, c.loop-i.auto.i-end) in
    record {
      stand = numbers_end c.args.buf.now.list c.args.width n c.word_from-2.result c.loop-i.place c.args.start (length c.args.numbers.now) c.loop-i.numbers
          c.numbers_within-2.new.numbers c.loop-i.auto.numbers (rw done at c.loop-i.invariant.place) c.requires.within
          (rest_fits c.args.width n (length c.args.numbers.now) c.requires.some c.requires.fit.there) c.word_from-2.ensures.bits
          c.numbers_within-2.ensures.len c.numbers_within-2.ensures.stand (rw done at c.loop-i.invariant.read);
      len = search rules;
    }
