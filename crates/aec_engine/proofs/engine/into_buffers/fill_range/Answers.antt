use Rattle.std.proofs.Common.{Some, [], take, inl, inr, arith, sym, subst, ap, refl, ◌∙◌}
use Rattle.aec_params.specs.Params.{IsAllowed, interval_len}
use Rattle.aec_engine.specs.Output.{samples_from}
use Rattle.aec_engine.proofs.PutRangeLemmas.{puts_none, puts_more, not_refused, part_is_held}
use Rattle.aec_engine.proofs.FillLemmas.{taken_none, puts_behind, length-behind, part_fits, all_filled}
use Rattle.aec_engine.proofs.engine.into_buffers.fill_range.Goals as goal

pub loop-left-init : goal.loop-left-init
loop-left-init c = record {
  puts = puts_none c.args.reader.now c.args.params.now c.args.part.before c.args.part.first c.args.part.len _ (Some []) (Some (take 0 c.args.out.now)) []
      (taken_none c.args.out.now) refl refl c.requires.begun;
  within = omega arith;
  whole = refl;
  few = omega arith;
  room = c.requires.room;
}

pub returns-in_err-next_few-clause-sound : goal.returns-in_err-next_few-clause-sound
returns-in_err-next_few-clause-sound c =
    not_refused c.args.reader.now c.loop-left.reader _ _ _ _ _ _ _ _ _ c.in_err-next_few.field-0.0
    (subst IsAllowed (sym c.requires.settings) c.known_allowed.ensures) c.loop-left.invariant.puts (c.requires.read.0, c.requires.read.1)
    c.in_err-next_few.ensures.refuses c.in_err-next_few.ensures.full
    (omega (arith, c.loop-left.invariant.room (omega (arith, c.loop-left-test.true, c.loop-left.invariant.few)), ap interval_len c.requires.settings))

pub returns-in_err-next_few-clause-filled : goal.returns-in_err-next_few-clause-filled
returns-in_err-next_few-clause-filled c =
    not_refused c.args.reader.now c.loop-left.reader _ _ _ _ _ _ _ _ _ c.in_err-next_few.field-0.0
    (subst IsAllowed (sym c.requires.settings) c.known_allowed.ensures) c.loop-left.invariant.puts (c.requires.read.0, c.requires.read.1)
    c.in_err-next_few.ensures.refuses c.in_err-next_few.ensures.full
    (omega (arith, c.loop-left.invariant.room (omega (arith, c.loop-left-test.true, c.loop-left.invariant.few)), ap interval_len c.requires.settings))

pub put_behind-at-requires-clause-held : goal.put_behind-at-requires-clause-held
put_behind-at-requires-clause-held c =
    part_is_held c.args.reader.now c.loop-left.reader c.next_few.new.self c.args.params.now _ _ _ _ c.loop-left.invariant.puts.same c.requires.settings
    (c.in_ok-next_few.ensures.read c.if-branch.true).piece (c.part_of-wanted.ensures ∙ ap (samples_from _ _) c.deref.ensures.value)

pub put_behind-at-requires-clause-room : goal.put_behind-at-requires-clause-room
put_behind-at-requires-clause-room c =
    part_fits c.args.reader.now c.loop-left.reader c.args.params.now c.args.part.first c.args.part.len c.loop-left.skip c.loop-left.left c.loop-left.at
    c.loop-left.out
    (subst IsAllowed (sym c.requires.settings) c.known_allowed.ensures) c.loop-left.invariant.puts c.loop-left.invariant.within
    (c.requires.read.0, c.requires.read.1, c.loop-left.invariant.whole ∙ c.requires.read.2) c.next_few.new.self c.next_few.new.samples.items
    c.part_of-wanted.result.now (c.in_ok-next_few.ensures.read c.if-branch.true)
    c.next_few.ensures.ends (c.part_of-wanted.ensures ∙ ap (samples_from _ _) c.deref.ensures.value)

pub loop-left-preserved : goal.loop-left-preserved
loop-left-preserved c =
    let p = c.args.part in let l = c.loop-left in let r = c.args.reader.now in let s = c.args.params.now in
    let is = c.part_of-wanted.ensures ∙ ap (samples_from _ _) c.deref.ensures.value in
    let a = subst IsAllowed (sym c.requires.settings) c.known_allowed.ensures in let step = c.in_ok-next_few.ensures.read c.if-branch.true in
    let room = part_fits r l.reader s p.first p.len l.skip l.left l.at l.out a l.invariant.puts l.invariant.within
    (c.requires.read.0, c.requires.read.1, l.invariant.whole ∙ c.requires.read.2) c.next_few.new.self c.next_few.new.samples.items
    c.part_of-wanted.result.now step c.next_few.ensures.ends is in
    let long = length-behind s l.at l.out c.put_behind-at.new.out c.part_of-wanted.result.now room c.put_behind-at.ensures.bytes in
    record {
      puts = puts_more r l.reader c.next_few.new.self s p.first p.len l.skip l.left _ _ _ _ _ [] [] c.next_few.new.samples.items
          c.part_of-wanted.result.now a l.invariant.puts step c.next_few.ensures.few c.next_few.ensures.ends is
          (puts_behind s l.at c.put_behind-at.result l.out c.put_behind-at.new.out c.part_of-wanted.result.now l.invariant.within
          c.put_behind-at.ensures.bytes c.put_behind-at.ensures.end) (omega arith) refl;
      within = omega (arith, c.put_behind-at.ensures.end, room, long);
      whole = long ∙ l.invariant.whole;
      few = omega (arith, l.invariant.few);
      room = λ some. omega (arith, l.invariant.room some, c.next_few.ensures.capacity);
    }

pub returns-else-branch-clause-filled : goal.returns-else-branch-clause-filled
returns-else-branch-clause-filled c =
    all_filled c.args.reader.now c.loop-left.reader c.args.params.now c.args.part.first c.args.part.len c.loop-left.skip c.loop-left.left c.loop-left.at
    c.loop-left.out
    (subst IsAllowed (sym c.requires.settings) c.known_allowed.ensures) c.loop-left.invariant.puts c.loop-left.invariant.within
    (c.requires.read.0, c.requires.read.1, c.loop-left.invariant.whole ∙ c.requires.read.2) (inr (sym c.in_ok-next_few.ensures.more ∙ c.if-branch.false))

pub returns-after-loop-left-clause-filled : goal.returns-after-loop-left-clause-filled
returns-after-loop-left-clause-filled c =
    all_filled c.args.reader.now c.loop-left.reader c.args.params.now c.args.part.first c.args.part.len c.loop-left.skip c.loop-left.left c.loop-left.at
    c.loop-left.out
    (subst IsAllowed (sym c.requires.settings) c.known_allowed.ensures) c.loop-left.invariant.puts c.loop-left.invariant.within
    (c.requires.read.0, c.requires.read.1, c.loop-left.invariant.whole ∙ c.requires.read.2) (inl (omega (arith, c.loop-left-test.false)))
