use Rattle.std.proofs.Common.{◌∙◌, arith, rules}
use Rattle.aec_edit.proofs.FreshLemmas.{coming_moved, coming_decoded, emptied}
use Rattle.aec_edit.proofs.workspace.Workspace.gather.Goals as goal

pub returns-in_ok-decode_interval-clause-ok : goal.returns-in_ok-decode_interval-clause-ok
returns-in_ok-decode_interval-clause-ok g c =
    let n = (g.C.Codec.format c.args.self.now.codec).most in
    let s = c.args.self.now.samples in
    let now = c.gather_held.new.self in
    let was = c.args.fresh.now in
    let held = c.in_ok-gather_held.ensures.ok in
    let none = emptied c.interval_len-interval_len.result now.front.items now.values.now now.back.items held.full (omega (arith, c.if-len-interval_len.true)) in
    record {
      same =
          coming_decoded n s now.front.items now.values.now now.back.items c.decode_interval.new.out.items now.next now.end (omega (arith, c.if-fresh.true))
          none.0 none.1 c.in_ok-decode_interval.ensures.ok
          ∙ coming_moved n s was.front.items was.values.now was.back.items now.front.items now.values.now now.back.items was.next was.end now.next now.end
          held.all held.next held.end;
      moves = search rules;
    }
