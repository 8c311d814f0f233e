use Rattle.std.proofs.Common.{◌≡◌, ◌≤◌, [], take, drop, length, pos}
use Rattle.std.specs.Prelude.{◌+ℤ◌}
use Rattle.aec_params.specs.Params.{x_min}
use Rattle.aec_block.specs.Offsets.{top_offset, AreUnmapped}
use Rattle.aec_block.specs.Unmapping.{UnmapsTo}
use Rattle.aec_block.proofs.mapping.unmapping.put_places.Given as goal

abbrev pub invariant-loop-i : goal.invariant-loop-i
invariant-loop-i l = record {
  unmaps : UnmapsTo l.params (x_min l.params +ℤ pos l.offset) (x_min l.params +ℤ pos l.place) (take l.i l.values) [] (take l.i l.samples);
  within : l.place ≤ top_offset l.params;
  rest : AreUnmapped (top_offset l.params) l.place (drop l.i l.values) (drop l.i l.places);
  len : length l.samples ≡ length l.initial.samples;
}
