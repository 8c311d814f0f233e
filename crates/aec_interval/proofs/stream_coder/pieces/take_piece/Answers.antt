use Rattle.std.proofs.Common.{[], arith}
use Rattle.aec_interval.proofs.RefusalLemmas.{of_answer}
use Rattle.aec_interval.proofs.PartLemmas.{short_fed, cut_at, front_longer, left_refused, part_stops, left_kept}
use Rattle.aec_interval.proofs.stream_coder.pieces.take_piece.Goals as goal

pub returns-then-piece-width-clause-takes : goal.returns-then-piece-width-clause-takes
returns-then-piece-width-clause-takes c =
    short_fed c.args.terms.now c.args.progress.now c.args.rest.now c.args.piece.now c.extend.new.self c.args.out.now.list c.requires.begun.progress
    c.extend.ensures (omega arith)

pub returns-in_err-left-clause-takes : goal.returns-in_err-left-clause-takes
returns-in_err-left-clause-takes c = of_answer _ _ _ _ c.from_residual.ensures.1 c.in_err-left.ensures.completes

pub loop-left-init : goal.loop-left-init
loop-left-init c = record { progress = c.in_ok-left.ensures.progress; so_far = c.in_ok-left.ensures.completes }

pub returns-in_err-len-clause-takes : goal.returns-in_err-len-clause-takes
returns-in_err-len-clause-takes c =
    of_answer _ _ _ _ c.from_residual-in_err-len.ensures.1
    (left_refused _ _ _ _ _ _ _ _ c.storage-width.ensures.allowed c.loop-left.invariant.so_far (c.in_err-len.ensures.stops _))

pub returns-in_err-take_part-clause-takes : goal.returns-in_err-take_part-clause-takes
returns-in_err-take_part-clause-takes c =
    of_answer _ _ _ _ c.from_residual-in_err-take_part.ensures.1
    (part_stops _ _ _ _ _ _ _ _ _ _ c.storage-width.ensures.allowed c.loop-left.invariant.so_far
    (cut_at _ _ _ _ c.split_at.ensures.front c.split_at.ensures.back) c.in_err-take_part.ensures.takes)

pub loop-left-preserved : goal.loop-left-preserved
loop-left-preserved c = record {
  progress = c.in_ok-take_part.ensures.progress;
  so_far = front_longer _ _ _ _ _ _ _ _ _ _ c.storage-width.ensures.allowed c.loop-left.invariant.so_far
      (cut_at _ _ _ _ c.split_at.ensures.front c.split_at.ensures.back) c.in_ok-take_part.ensures.takes;
}

pub returns-clause-takes : goal.returns-clause-takes
returns-clause-takes c =
    left_kept _ _ _ _ _ _ _ c.storage-width.ensures.allowed c.loop-left.invariant.so_far
    (short_fed c.args.terms.now _ [] c.loop-left.left.now _ _ c.loop-left.invariant.progress (rw (c.extend-2.ensures, c.complete_rest.ensures.empty))
    (omega arith))
