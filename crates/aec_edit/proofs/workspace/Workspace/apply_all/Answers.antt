use Rattle.std.proofs.Common.{◌-◌, ◌^◌, Some, None, length, refl, ap, arith}
use Rattle.std.proofs.lemmas.Result.{err_from_is_err_and}
use Rattle.aec_edit.proofs.BatchLemmas.{due_now}
use Rattle.aec_edit.proofs.StepLemmas.{stop_with}
use Rattle.aec_edit.proofs.workspace.Workspace.apply_all.Goals as goal

pub rebuild-requires-clause-fit : goal.rebuild-requires-clause-fit
rebuild-requires-clause-fit g c =
    let seen = c.args.self.now in
    due_now (g.C.Codec.format seen.codec) seen.limit seen.samples (g.C.Codec.called seen.codec) (2 ^ 64 - 1 - c.calls-left.result) c.args.edits.now None
    (omega (arith, c.calls-left.ensures)) c.in_ok-judge_all.ensures.ok

pub returns-in_err-judge_all-clause-answer : goal.returns-in_err-judge_all-clause-answer
returns-in_err-judge_all-clause-answer g c =
    let seen = c.args.self.now in
    let p = err_from_is_err_and c.from_residual.result c.from_residual.ensures.1 in
    let due = due_now (g.C.Codec.format seen.codec) seen.limit seen.samples (g.C.Codec.called seen.codec) (2 ^ 64 - 1 - c.calls-left.result) c.args.edits.now
    (Some c.in_err-judge_all.field-0.0) (omega (arith, c.calls-left.ensures)) c.in_err-judge_all.ensures.refuses in
    rw (p.1, due) ((p.2, refl), refl)

pub returns-in-Ok-clause-answer : goal.returns-in-Ok-clause-answer
returns-in-Ok-clause-answer g c =
    let seen = c.args.self.now in
    let done = c.in-Ok.ensures in
    record {
      fit = due_now (g.C.Codec.format seen.codec) seen.limit seen.samples (g.C.Codec.called seen.codec) (2 ^ 64 - 1 - c.calls-left.result) c.args.edits.now
          None (omega (arith, c.calls-left.ensures)) c.in_ok-judge_all.ensures.ok;
      samples = done.ok;
      calls_are = done.coded;
      few = omega (arith, done.coded, done.rises.few);
    }

pub returns-in-Err-clause-answer : goal.returns-in-Err-clause-answer
returns-in-Err-clause-answer g c =
    let seen = c.args.self.now in
    let failed = c.in-Err.ensures in
    let none = due_now (g.C.Codec.format seen.codec) seen.limit seen.samples (g.C.Codec.called seen.codec) (2 ^ 64 - 1 - c.calls-left.result) c.args.edits.now
    None (omega (arith, c.calls-left.ensures)) c.in_ok-judge_all.ensures.ok in
    rw none (record { stop_is = ap (λ fault. stop_with (length c.args.edits.now) fault) failed.fault; rises = failed.rises }, failed.err)
