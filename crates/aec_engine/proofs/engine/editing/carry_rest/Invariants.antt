use Rattle.std.proofs.Common.{◌≡◌, length}
use Rattle.aec_engine.specs.Editing.{left_with}
use Rattle.aec_engine.specs.EditsAhead.{AreAhead, left_in}
use Rattle.aec_engine.specs.EarlyEdits.{LeadsToEdits}
use Rattle.aec_engine.proofs.engine.editing.carry_rest.Given as goal

abbrev pub invariant-loop-ahead : goal.invariant-loop-ahead
invariant-loop-ahead g l = record {
  leads : LeadsToEdits (g.C.Codec.format l.initial.workspace.codec) l.initial.workspace.limit
      (left_with l.initial.workspace.samples (g.C.Codec.called l.initial.workspace.codec)) (left_in l.initial.ahead)
      (left_with l.workspace.samples (g.C.Codec.called l.workspace.codec)) (left_in l.ahead);
  limit : l.workspace.limit ≡ l.initial.workspace.limit;
  format : g.C.Codec.format l.workspace.codec ≡ g.C.Codec.format l.initial.workspace.codec;
  ahead : AreAhead l.ahead;
}

abbrev pub decreases-loop-ahead : goal.decreases-loop-ahead
decreases-loop-ahead g l = length (left_in l.ahead).edits
