use Rattle.std.proofs.Common.{[], length}
use Rattle.aec_interval.specs.Progress.{IsProgress, FeedsFront, coder_at}
use Rattle.aec_interval.proofs.stream_coder.pieces.take_piece.Given as goal

abbrev pub invariant-loop-left : goal.invariant-loop-left
invariant-loop-left l = record {
  progress : IsProgress l.terms l.progress;
  so_far : FeedsFront (coder_at l.terms l.fn.progress l.fn.rest) l.fn.piece l.left l.fn.out.list l.out.list (coder_at l.terms l.progress []);
}

abbrev pub decreases-loop-left : goal.decreases-loop-left
decreases-loop-left l = length l.left
