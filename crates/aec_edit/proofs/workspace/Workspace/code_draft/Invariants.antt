use Rattle.std.proofs.Common.{◌≡◌, ◌+◌, ◌-◌, ◌≤◌, List, ℤ, length}
use Rattle.aec_edit.specs.Drafts.{CanBeDrafted, IsReader, fresh_left}
use Rattle.aec_edit.proofs.StepLemmas.{IsCodedTo}
use Rattle.aec_edit.proofs.workspace.Workspace.code_draft.Given as goal

abbrev pub invariant-loop-left : goal.invariant-loop-left
invariant-loop-left g l =
    let f = g.C.Codec.format l.fn.self.codec in
    let old = l.fn.self.samples in
    let done = l.fn.draft.count - l.left in
    record {
      few : l.left ≤ l.fn.draft.count;
      count : l.draft.count ≡ l.fn.draft.count;
      reader : IsReader f.most old l.reader;
      samples : l.self.samples ≡ old;
      limit : l.self.limit ≡ l.fn.self.limit;
      format : g.C.Codec.format l.self.codec ≡ f;
      calls : g.C.Codec.called l.self.codec + fresh_left f.most old l.draft
          ≡ g.C.Codec.called l.fn.self.codec + fresh_left f.most old l.fn.draft;
      least : g.C.Codec.called l.fn.self.codec ≤ g.C.Codec.called l.self.codec;
      rest : (s : List ℤ) → CanBeDrafted g.C.Codec.format g.C.Codec.called l.fn.self s l.fn.draft → l.fn.draft.count ≡ length s
          → IsCodedTo f old s done l.draft l.coded;
    }

abbrev pub decreases-loop-left : goal.decreases-loop-left
decreases-loop-left g l = l.left
