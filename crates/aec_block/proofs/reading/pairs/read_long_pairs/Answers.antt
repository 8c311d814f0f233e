use Rattle.std.proofs.Common.{rules, ◌≡◌, ◌/◌, ◌*◌, ◌+◌, ◌∙◌, sym, ap, length, arith}
use Rattle.aec_block.specs.ReadAt.{map_taken, members_at}
use Rattle.aec_block.specs.Gathering.{bits_at, small_members}
use Rattle.aec_block.proofs.GatheringLemmas.{length-value_put, pair_placed, MembersGathered-next, MembersGathered-done}
use Rattle.aec_block.proofs.reading.pairs.read_long_pairs.Goals as goal

pub loop-i-preserved : goal.loop-i-preserved
loop-i-preserved c =
    let limit = c.value_limit-limit.result in
    let i = c.loop-i.i in
    let one = c.put_value in
    let two = c.put_value-in-loop-i in
    let p = c.pair_of-first in
    let kept = c.kept_member-kept in
    let before = c.loop-i.values in
    let between = one.new.values in
    let first_len : length between ≡ length before = ap length one.ensures.values ∙ length-value_put limit before (2 * i) kept.result in
    let len : length two.new.values ≡ length between = ap length two.ensures.values ∙ length-value_put limit between (2 * i + 1) p.result.1 in
    record {
      moved = record { list = c.in_ok-read_sequence.ensures.list ∙ c.loop-i.invariant.moved.list; within = c.in_ok-read_sequence.ensures.within };
      placed = pair_placed limit c.args.is_ref before between two.new.values i p.result.0 p.result.1 kept.result kept.ensures
          one.ensures.values two.ensures.values c.loop-i.invariant.placed;
      len = len ∙ (first_len ∙ c.loop-i.invariant.len);
      taken = MembersGathered-next limit c.args.is_ref (length c.args.values.now / 2) (bits_at c.args.reader.now) before between two.new.values i
          c.loop-i.fit one.result two.result (bits_at c.loop-i.reader) (bits_at c.read_sequence.new.reader)
          p.result.0 p.result.1 kept.result c.in_ok-read_sequence.field-0 (omega arith) (omega arith) c.in_ok-read_sequence.ensures.taken
          p.ensures.first p.ensures.second kept.ensures one.ensures.fits one.ensures.values two.ensures.fits two.ensures.values
          c.loop-i.invariant.taken;
    }

pub returns-clause-taken : goal.returns-clause-taken
returns-clause-taken c =
    let n = length c.args.values.now / 2 in
    let is_limit = c.value_limit-limit.ensures.value in record {
      taken = ap (λ l. map_taken (small_members l c.args.is_ref) (members_at n (bits_at c.args.reader.now))) (sym is_limit)
          ∙ MembersGathered-done c.value_limit-limit.result c.args.is_ref n (bits_at c.args.reader.now) c.loop-i.values c.loop-i.i c.loop-i.fit
          (bits_at c.loop-i.reader) (omega arith) (omega arith) (omega (arith, c.loop-i.invariant.len)) c.loop-i.invariant.taken;
      list = search rules;
      within = search rules;
    }
