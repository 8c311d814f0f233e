use Rattle.std.proofs.Common.{◌∙◌, vec_len, length, ap, arith, refl, sym, subst}
use Rattle.std.specs.List.{AllByRecursion}
use Rattle.std.proofs.lemmas.Result.{err_from_is_err_and}
use Rattle.aec_params.specs.Params.{IsAllowed, IsHeld}
use Rattle.aec_interval.proofs.PieceReadingLemmas.{piece_is_held}
use Rattle.aec_engine.proofs.ReadTwiceLemmas.{settings-same, same_next, counts_more, counts_few, counts_refused}
use Rattle.aec_engine.proofs.KeepingLemmas.{counts_kept, few_more, keeps_more}
use Rattle.aec_engine.proofs.engine.decoding.keep_more.Goals as goal

pub loop-reader-init : goal.loop-reader-init
loop-reader-init c = record {
  keeps = c.requires.kept;
  same = refl;
  few = omega (arith, c.args.bytes.now.ok);
  room = omega arith;
  buffer = omega arith;
}

pub returns-in_err-next_few-clause-refuses : goal.returns-in_err-next_few-clause-refuses
returns-in_err-next_few-clause-refuses c =
    let exit = err_from_is_err_and c.from_residual.result c.from_residual.ensures.1 in
    counts_refused _ _ _ c.args.reader.now c.loop-reader.reader c.loop-reader.kept
    (subst IsAllowed (sym c.requires.settings) c.interval_len.ensures.allowed) exit.1 exit.2
    (counts_kept c.args.reader.now c.loop-reader.reader c.args.params.now _ _ c.loop-reader.invariant.same c.loop-reader.invariant.keeps)
    c.in_err-next_few.ensures.refuses

pub overflow_add-kept : goal.overflow_add-kept
overflow_add-kept c =
    let a = subst IsAllowed (sym c.requires.settings) c.interval_len.ensures.allowed in
    let counts = counts_kept c.args.reader.now c.loop-reader.reader c.args.params.now _ _ c.loop-reader.invariant.same c.loop-reader.invariant.keeps in
    let most = counts_few c.args.reader.now c.next_few.new.self _ a
    (counts_more c.args.reader.now c.loop-reader.reader c.next_few.new.self c.loop-reader.kept _ c.next_few.new.samples.items a counts
    (c.in_ok-next_few.ensures.read c.if-branch.true) refl c.next_few.ensures.few) in
    omega (arith, most, c.len-in-loop-reader-2.ensures, c.next_few.new.samples.ok)

pub loop-reader-preserved : goal.loop-reader-preserved
loop-reader-preserved c =
    let a = subst IsAllowed (sym c.requires.settings) c.interval_len.ensures.allowed in
    let step = c.in_ok-next_few.ensures.read c.if-branch.true in
    let same = c.loop-reader.invariant.same in
    let few = few_more c.args.reader.now c.loop-reader.reader c.args.params.now c.interval_len.result c.samples_within.result c.capacity-room.result
    (vec_len c.loop-reader.bytes) _ (vec_len c.append_stored.new.bytes) same c.requires.settings c.interval_len.ensures.value
    c.in_ok-next_few.ensures.at_most (omega (arith, c.samples_within.ensures.fit, c.len-in-loop-reader.ensures))
    (omega (arith, c.loop-reader-test.true, c.len.ensures))
    (omega (arith, c.append_stored.ensures.spare.len, ap length c.deref.ensures.value, c.next_few.new.samples.ok))
    (omega (arith, c.loop-reader.invariant.few, c.capacity-room.ensures)) in
    record {
      keeps = keeps_more c.args.reader.now c.loop-reader.reader c.next_few.new.self c.args.params.now c.loop-reader.kept c.len-in-loop-reader-2.result _
          c.loop-reader.bytes.items _ _ _ _ a same c.loop-reader.invariant.keeps step c.next_few.ensures.few c.next_few.ensures.ends refl
          c.append_stored.ensures.items c.deref.ensures.value (omega (arith, c.len-in-loop-reader-2.ensures, c.next_few.new.samples.ok)) refl;
      same = same_next c.args.reader.now c.loop-reader.reader c.next_few.new.self same step.piece.same;
      few = omega (arith, c.capacity-room.ensures, few);
      room = omega (arith, c.loop-reader.invariant.room, c.next_few.ensures.capacity);
      buffer = omega (arith, c.loop-reader.invariant.buffer, c.append_stored.ensures.spare.capacity);
    }

pub append_stored-requires-clause-held : goal.append_stored-requires-clause-held
append_stored-requires-clause-held c =
    let step = c.in_ok-next_few.ensures.read c.if-branch.true in
    subst (AllByRecursion (IsHeld c.args.params.now)) (sym c.deref.ensures.value)
    (subst (λ s. AllByRecursion (IsHeld s) c.next_few.new.samples.items)
    (settings-same c.args.reader.now c.loop-reader.reader c.loop-reader.invariant.same ∙ c.requires.settings)
    (piece_is_held c.loop-reader.reader c.next_few.new.self c.next_few.new.samples.items step.piece))
