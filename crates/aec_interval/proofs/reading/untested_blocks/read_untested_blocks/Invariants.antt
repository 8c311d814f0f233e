use Rattle.std.proofs.Common.{◌-◌, ◌+◌, ◌*◌, ◌≡◌, ◌≤◌, ◌<◌, max, vec_len, vec_capacity}
use Rattle.std.specs.List.{AllByRecursion}
use Rattle.aec_params.specs.Params.{IsHeld}
use Rattle.aec_interval.specs.UntestedBlocks.{IsUntestedAt, most_at_once}
use Rattle.aec_interval.proofs.reading.untested_blocks.read_untested_blocks.Given as goal

abbrev pub invariant-loop-next : goal.invariant-loop-next
invariant-loop-next l = record {
  here : IsUntestedAt l.params l.fn.wanted l.last l.next l.reader l.samples.items;
  held : AllByRecursion (IsHeld l.params) l.samples.items;
  list : l.reader.list ≡ l.fn.reader.list;
  forward : l.block ≤ l.next;
  within : l.next ≤ max l.block l.last;
  some : 0 < l.at_once;
  few : l.at_once ≤ most_at_once l.params;
  len : vec_len l.samples ≤ vec_len l.fn.samples + (l.next - l.block) * l.params.block_size;
  capacity : vec_capacity l.fn.samples ≤ vec_capacity l.samples;
}

abbrev pub decreases-loop-next : goal.decreases-loop-next
decreases-loop-next l = l.last - l.next
