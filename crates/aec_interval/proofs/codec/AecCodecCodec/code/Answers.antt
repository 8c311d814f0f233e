use Rattle.aec_interval.proofs.IntervalFormatLemmas.{AreOfInterval-format}
use Rattle.aec_interval.proofs.codec.AecCodecCodec.code.Goals as goal

pub append_interval-requires : goal.append_interval-requires
append_interval-requires c = AreOfInterval-format c.args.self.now.params c.args.samples.now c.requires
