use Rattle.aec_interval.proofs.RoundTripLemmas.{IsReading-stream_of}
use Rattle.aec_interval.proofs.laws.streams_are_read_back.Goals as goal

pub returns : goal.returns
returns c = IsReading-stream_of
