use Rattle.std.proofs.Common.{◌≡◌, ◌⊎◌, inl, inr, false, arith, sym, subst, ap, refl, ◌∙◌}
use Rattle.std.proofs.lemmas.List.{nil_from_length}
use Rattle.std.proofs.lemmas.Result.{err_from_is_err_and}
use Rattle.aec_params.specs.Params.{IsAllowed, interval_len}
use Rattle.aec_interval.specs.Pieces.{is_wanted_at}
use Rattle.aec_engine.specs.Output.{samples_from}
use Rattle.aec_engine.proofs.OutputLemmas.{Keeps-same}
use Rattle.aec_engine.proofs.PutRangeLemmas.{puts_none, puts_more, not_refused, part_is_held, puts_front_err, puts_rest}
use Rattle.aec_engine.proofs.engine.two_readings.put_range.Goals as goal
use Rattle.aec_engine.proofs.engine.two_readings.put_range.Goals.{then-loop-left-test+in_ok-next_few+else-branch, else-loop-left-test}

pub loop-left-init : goal.loop-left-init
loop-left-init g c = record {
  puts = puts_none c.args.reader.now c.args.params.now c.args.part.before c.args.part.first c.args.part.len _
      (g.W.Sink.taken c.args.sink.now) (g.W.Sink.taken c.args.sink.now) c.args.bytes.now.items (Keeps-same _)
      (nil_from_length c.args.bytes.now.items (omega (arith, c.args.bytes.now.ok, c.requires.empty))) refl c.requires.ready.begun;
  begun = refl;
  order = refl;
  failures = refl;
  waiting = omega (arith, c.requires.empty);
  room = c.requires.room.room;
  buffer = c.requires.room.buffer;
}

pub returns-in_err-next_few-clause-puts : goal.returns-in_err-next_few-clause-puts
returns-in_err-next_few-clause-puts g c =
    not_refused c.args.reader.now c.loop-left.reader _ _ _ _ _ _ _ _ _ c.in_err-next_few.field-0.0
    (subst IsAllowed (sym c.requires.ready.settings) c.requires.room.allowed) c.loop-left.invariant.puts c.requires.ready.read c.in_err-next_few.ensures.refuses
    c.in_err-next_few.ensures.full (omega (arith, c.loop-left.invariant.room, ap interval_len c.requires.ready.settings))

pub returns-in_err-next_few-clause-stays : goal.returns-in_err-next_few-clause-stays
returns-in_err-next_few-clause-stays g c =
    not_refused c.args.reader.now c.loop-left.reader _ _ _ _ _ _ _ _ _ c.in_err-next_few.field-0.0
    (subst IsAllowed (sym c.requires.ready.settings) c.requires.room.allowed) c.loop-left.invariant.puts c.requires.ready.read c.in_err-next_few.ensures.refuses
    c.in_err-next_few.ensures.full (omega (arith, c.loop-left.invariant.room, ap interval_len c.requires.ready.settings))

pub put_part-requires-clause-held : goal.put_part-requires-clause-held
put_part-requires-clause-held g c =
    part_is_held c.args.reader.now c.loop-left.reader c.next_few.new.self c.args.params.now _ _ _ _ c.loop-left.invariant.puts.same c.requires.ready.settings
    (c.in_ok-next_few.ensures.read c.if-branch.true).piece (c.part_of-wanted.ensures ∙ ap (samples_from _ _) c.deref.ensures.value)

pub returns-in_err-put_part-clause-puts : goal.returns-in_err-put_part-clause-puts
returns-in_err-put_part-clause-puts g c =
    let exit = err_from_is_err_and c.from_residual-in_err-put_part.result c.from_residual-in_err-put_part.ensures.1 in
    puts_front_err _ exit.0 c.args.reader.now c.loop-left.reader c.next_few.new.self c.args.params.now c.args.part.first c.args.part.len c.loop-left.skip
    c.loop-left.left _ _ _ c.loop-left.bytes.items c.next_few.new.samples.items c.part_of-wanted.result.now exit.1
    (subst IsAllowed (sym c.requires.ready.settings) c.requires.room.allowed) c.loop-left.invariant.puts (c.in_ok-next_few.ensures.read c.if-branch.true)
    c.next_few.ensures.ends (c.part_of-wanted.ensures ∙ ap (samples_from _ _) c.deref.ensures.value) c.in_err-put_part.ensures.front

pub loop-left-preserved : goal.loop-left-preserved
loop-left-preserved g c = record {
  puts = puts_more c.args.reader.now c.loop-left.reader c.next_few.new.self c.args.params.now c.args.part.first c.args.part.len c.loop-left.skip
      c.loop-left.left _ _ _ _ _ c.loop-left.bytes.items c.put_part.new.bytes.items c.next_few.new.samples.items c.part_of-wanted.result.now
      (subst IsAllowed (sym c.requires.ready.settings) c.requires.room.allowed) c.loop-left.invariant.puts (c.in_ok-next_few.ensures.read c.if-branch.true)
      c.next_few.ensures.few c.next_few.ensures.ends (c.part_of-wanted.ensures ∙ ap (samples_from _ _) c.deref.ensures.value) c.in_ok-put_part.ensures.ok
      (omega arith) refl;
  begun = c.put_part.ensures.stays.begun ∙ c.loop-left.invariant.begun;
  order = c.put_part.ensures.stays.order ∙ c.loop-left.invariant.order;
  failures = c.in_ok-put_part.ensures.stays.failures ∙ c.loop-left.invariant.failures;
  waiting = c.in_ok-put_part.ensures.few;
  room = omega (arith, c.loop-left.invariant.room, c.next_few.ensures.capacity);
  buffer = omega (arith, c.loop-left.invariant.buffer, c.put_part.ensures.capacity);
}

pub returns-clause-puts : goal.returns-clause-puts
returns-clause-puts g c =
    let ends : (c.loop-left.left ≡ 0) ⊎ (is_wanted_at c.loop-left.reader ≡ false) = elim c.loop-left-test.branch [
      | then-loop-left-test+in_ok-next_few+else-branch w ↦ inr (sym w.in_ok-next_few.ensures.more ∙ w.if-branch.false)
      | else-loop-left-test w ↦ inl (omega (arith, w.loop-left-test.false))
    ] in
    puts_rest c.args.reader.now c.loop-left.reader c.args.params.now c.args.part.first c.args.part.len c.loop-left.skip c.loop-left.left _ _ _
    c.loop-left.bytes.items _ c.put_all.result (subst IsAllowed (sym c.requires.ready.settings) c.requires.room.allowed) c.loop-left.invariant.puts
    ends c.deref-2.ensures.value c.put_all.ensures.ok c.put_all.ensures.front
