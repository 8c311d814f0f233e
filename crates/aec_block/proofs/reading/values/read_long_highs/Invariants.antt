use Rattle.aec_block.specs.Gathering.{bits_at}
use Rattle.aec_block.proofs.GatheringLemmas.{HasMoved, HighsGathered}
use Rattle.aec_block.proofs.reading.values.read_long_highs.Given as goal

abbrev pub invariant-loop-high : goal.invariant-loop-high
invariant-loop-high l = record {
  moved : HasMoved l.fn.reader l.reader;
  taken : HighsGathered l.limit (bits_at l.fn.reader) l.highs l.high-index l.fit (bits_at l.reader);
}
