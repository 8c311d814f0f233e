use Rattle.std.proofs.Common.{◌≡◌, ◌-◌, ◌≤◌, ◌++◌, List, ℤ, length, take, drop}
use Rattle.aec_edit.specs.Pieces.{places_after}
use Rattle.aec_edit.specs.Drafts.{AreAt, IsReader, KeepsList}
use Rattle.aec_edit.proofs.workspace.Workspace.gather_next.Given as goal

abbrev pub invariant-loop-left : goal.invariant-loop-left
invariant-loop-left g l =
    let all = l.fn.self.samples ++ l.values in
    record {
      few : l.left ≤ l.len;
      reader : IsReader (g.C.Codec.format l.fn.self.codec).most l.fn.self.samples l.reader;
      same : KeepsList g.C.Codec.format g.C.Codec.called 0 l.fn.self l.self;
      rest : (rest : List ℤ) → AreAt all (places_after l.fn.after.items) rest → l.len ≤ length rest
          → (l.reader.front.items ≡ take (l.len - l.left) rest) × AreAt all (places_after l.after.items) (drop (l.len - l.left) rest);
    }

abbrev pub decreases-loop-left : goal.decreases-loop-left
decreases-loop-left g l = l.left
