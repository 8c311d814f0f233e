use Rattle.aec_c.proofs.coder_calls.aecp_coder_feed.Goals as goal

pub returns-clause-feeds : goal.returns-clause-feeds
returns-clause-feeds c = rw (c.take-inside.ensures.held, c.put.ensures) c.feed.ensures
