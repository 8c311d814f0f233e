use Rattle.std.proofs.Common.{◌+◌, ◌-◌, length}
use Rattle.std.specs.Int.{div_ceil}
use Rattle.aec_engine.proofs.IntakeLemmas.{TakesBits}
use Rattle.aec_engine.proofs.engine.bit_intake.read_bits_past.Given as goal

abbrev pub invariant-loop-piece : goal.invariant-loop-piece
invariant-loop-piece g l = TakesBits (g.R.Source.left l.initial.source) (g.R.Source.left l.source) (g.R.Source.failed l.source) l.bits.list

abbrev pub decreases-loop-piece : goal.decreases-loop-piece
decreases-loop-piece g l = l.limit + 1 - div_ceil (length l.bits.list) 8
