use Rattle.std.proofs.Common.{◌≡◌, length}
use Rattle.aec_engine.specs.EditsAhead.{AreAhead, left_in}
use Rattle.aec_engine.specs.EarlyEdits.{CarriesEarly}
use Rattle.aec_engine.proofs.engine.loading.carry_early.Given as goal

abbrev pub invariant-loop-ahead : goal.invariant-loop-ahead
invariant-loop-ahead g l = record {
  early : CarriesEarly (g.C.Codec.format l.initial.workspace.codec) l.initial.workspace.limit (left_in l.initial.ahead)
      l.initial.workspace.samples (g.C.Codec.called l.initial.workspace.codec) (left_in l.ahead) l.workspace.samples (g.C.Codec.called l.workspace.codec);
  limit : l.workspace.limit ≡ l.initial.workspace.limit;
  format : g.C.Codec.format l.workspace.codec ≡ g.C.Codec.format l.initial.workspace.codec;
  ahead : AreAhead l.ahead;
}

abbrev pub decreases-loop-ahead : goal.decreases-loop-ahead
decreases-loop-ahead g l = length (left_in l.ahead).edits
