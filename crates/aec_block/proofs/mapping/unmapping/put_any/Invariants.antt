use Rattle.std.proofs.Common.{◌≡◌, ◌≤◌, [], take, length, pos}
use Rattle.std.specs.Prelude.{◌+ℤ◌}
use Rattle.aec_params.specs.Params.{x_min}
use Rattle.aec_block.specs.Offsets.{top_offset}
use Rattle.aec_block.specs.Unmapping.{UnmapsTo}
use Rattle.aec_block.proofs.mapping.unmapping.put_any.Given as goal

abbrev pub invariant-loop-i : goal.invariant-loop-i
invariant-loop-i l = record {
  unmaps : UnmapsTo l.params (x_min l.params +ℤ pos l.offset) (x_min l.params +ℤ pos l.last) (take l.i l.values) [] (take l.i l.samples);
  within : l.last ≤ top_offset l.params;
  len : length l.samples ≡ length l.initial.samples;
}
