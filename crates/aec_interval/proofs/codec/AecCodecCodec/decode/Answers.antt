use Rattle.aec_interval.proofs.codec.AecCodecCodec.decode.Goals as goal

pub returns-clause-counts : goal.returns-clause-counts
returns-clause-counts c = c.one_read_more-self.ensures
