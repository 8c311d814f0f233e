use Rattle.std.proofs.Common.{◌≡◌, ℤ, [], take, length}
use Rattle.aec_block.specs.Unmapping.{Unmaps}
use Rattle.aec_block.proofs.mapping.unmapping.put_patterns.Given as goal

abbrev pub invariant-loop-i : goal.invariant-loop-i
invariant-loop-i l = record {
  unmaps : (p : ℤ) → Unmaps l.params p (take l.i l.patterns) [] (take l.i l.samples);
  len : length l.samples ≡ length l.initial.samples;
}
