use Rattle.std.proofs.Common.{◌≡◌, ◌+◌, ◌++◌, length, drop}
use Rattle.aec_params.specs.Mapping.{mapped_after}
use Rattle.aec_interval.proofs.ShortBlockLemmas.{MappedSoFar}
use Rattle.aec_interval.proofs.interval.short_blocks.push_mapped.Given as goal

abbrev pub invariant-loop-i : goal.invariant-loop-i
invariant-loop-i l = record {
  so_far : MappedSoFar l.params l.p (drop l.i l.samples) l.block.values
      (l.initial.block.values ++ mapped_after l.params l.fn.previous l.samples);
  len : length l.block.values ≡ length l.initial.block.values + l.i;
  reference : l.block.reference ≡ l.initial.block.reference;
}
