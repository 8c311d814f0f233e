use Rattle.std.proofs.Common.{◌≡◌, ◌+◌, ◌*◌, ◌≤◌, ◌++◌, length, vec_len, vec_capacity}
use Rattle.std.specs.List.{AllByRecursion}
use Rattle.aec_params.specs.Params.{IsHeld}
use Rattle.aec_engine.specs.Output.{all_stored}
use Rattle.aec_engine.proofs.engine.two_readings.append_stored.Given as goal

-- the bytes so far and those of the samples that are left are all bytes
abbrev pub invariant-loop-left : goal.invariant-loop-left
invariant-loop-left l = record {
  held : AllByRecursion (IsHeld l.params) l.left;
  room : vec_len l.bytes + 4 * length l.left ≤ vec_capacity l.bytes;
  items : l.bytes.items ++ all_stored l.params l.left ≡ l.fn.bytes.items ++ all_stored l.params l.fn.samples;
  len : vec_len l.bytes + 4 * length l.left ≤ vec_len l.fn.bytes + 4 * length l.fn.samples;
  capacity : vec_capacity l.fn.bytes ≤ vec_capacity l.bytes;
}

abbrev pub decreases-loop-left : goal.decreases-loop-left
decreases-loop-left l = length l.left
