use Rattle.std.proofs.Common.{◌≡◌, ◌-◌}
use Rattle.aec_params.specs.Limits.{most_blocks}
use Rattle.aec_engine.specs.EditsAhead.{AreAhead, left_in}
use Rattle.aec_engine.proofs.LoadingLemmas.{LoadsSoFar}
use Rattle.aec_engine.proofs.engine.loading.append_all.Given as goal

abbrev pub invariant-loop-spare : goal.invariant-loop-spare
invariant-loop-spare g l = record {
  loads : LoadsSoFar l.fn.reader l.reader (g.C.Codec.format l.fn.workspace.codec) l.fn.workspace.limit (left_in l.fn.ahead) (left_in l.ahead)
      l.workspace.samples (g.C.Codec.called l.workspace.codec);
  limit : l.workspace.limit ≡ l.fn.workspace.limit;
  format : g.C.Codec.format l.workspace.codec ≡ g.C.Codec.format l.fn.workspace.codec;
  ahead : AreAhead l.ahead;
}

abbrev pub decreases-loop-spare : goal.decreases-loop-spare
decreases-loop-spare g l = most_blocks - l.reader.block
