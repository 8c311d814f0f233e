use Rattle.std.proofs.Common.{◌≡◌, ◌+◌, ◌-◌, ◌^◌, ◌≤◌, length}
use Rattle.aec_engine.specs.Editing.{left_with}
use Rattle.aec_engine.specs.EditsAhead.{AreAhead, left_in}
use Rattle.aec_engine.specs.EarlyEdits.{LeadsToEdits}
use Rattle.aec_engine.proofs.engine.at_once.carry_at_once.Given as goal

abbrev pub invariant-loop-alloc : goal.invariant-loop-alloc
invariant-loop-alloc g l = record {
  leads : LeadsToEdits (g.C.Codec.format l.initial.workspace.codec) l.initial.workspace.limit
      (left_with l.initial.workspace.samples (2 ^ 64 - 1 - l.left)) (left_in l.initial.ahead)
      (left_with l.workspace.samples (2 ^ 64 - 1 - l.rest)) (left_in l.ahead);
  calls : g.C.Codec.called l.workspace.codec + l.rest ≤ 2 ^ 64 - 1;
  limit : l.workspace.limit ≡ l.initial.workspace.limit;
  format : g.C.Codec.format l.workspace.codec ≡ g.C.Codec.format l.initial.workspace.codec;
  ahead : AreAhead l.ahead;
}

abbrev pub decreases-loop-alloc : goal.decreases-loop-alloc
decreases-loop-alloc g l = length (left_in l.ahead).edits
