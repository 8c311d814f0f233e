use Rattle.std.proofs.Common.{arith, ◌++◌, ap, ◌∙◌}
use Rattle.aec_interval.proofs.RefusalLemmas.{of_answer}
use Rattle.aec_interval.proofs.PartLemmas.{no_rest, rest_refused, rest_completed, completed_sample, cut_at}
use Rattle.aec_interval.proofs.stream_coder.pieces.complete_rest.Goals as goal

pub returns-then-len-eq0-clause-completes : goal.returns-then-len-eq0-clause-completes
returns-then-len-eq0-clause-completes c =
    no_rest c.args.terms.now c.args.progress.now c.args.rest.now c.args.piece.now c.args.out.now.list c.requires.begun.progress (omega arith)

pub returns-in_err-len-clause-completes : goal.returns-in_err-len-clause-completes
returns-in_err-len-clause-completes c =
    let front = c.split_at.result.0.now in
    let sample = c.as_slice-bytes.ensures ∙ c.extend.ensures ∙ ap (λ r. r ++ front) c.replace-sample.ensures.value in
    of_answer _ _ _ _ c.from_residual.ensures.1
    (rest_refused c.args.terms.now c.args.progress.now c.args.rest.now c.as_slice-bytes.result.now c.args.piece.now front c.split_at.result.1.now
    c.args.out.now.list c.args.out.now.list _ c.storage.ensures.allowed sample
    (cut_at _ _ _ _ c.split_at.ensures.front c.split_at.ensures.back) (c.in_err-len.ensures.stops c.args.out.now.list))

pub returns-in_err-take_part-clause-completes : goal.returns-in_err-take_part-clause-completes
returns-in_err-take_part-clause-completes c =
    let u = c.args.terms.now in let p = c.args.progress.now in let front = c.split_at.result.0.now in
    let before = c.args.out.now.list in let after = c.take_part.new.out.list in
    let sample = completed_sample u p c.args.rest.now front c.as_slice-bytes.result.now _ _ _
    (rw (c.as_slice-bytes.ensures, c.extend.ensures, c.replace-sample.ensures.value)) c.split_at.ensures.front_len
    c.storage.ensures.value c.len-2.ensures c.requires.begun.short c.in_ok-len.ensures.within c.in_ok-len.ensures.part in
    of_answer _ _ _ _ c.from_residual-in_err-take_part.ensures.1
    (rest_refused u p c.args.rest.now _ c.args.piece.now front c.split_at.result.1.now before after _ c.storage.ensures.allowed sample
    (cut_at _ _ _ _ c.split_at.ensures.front c.split_at.ensures.back) c.in_err-take_part.ensures.takes)

pub returns-clause-completes : goal.returns-clause-completes
returns-clause-completes c =
    let u = c.args.terms.now in let p = c.args.progress.now in let front = c.split_at.result.0.now in
    let before = c.args.out.now.list in let after = c.take_part.new.out.list in
    let sample = completed_sample u p c.args.rest.now front c.as_slice-bytes.result.now _ _ _
    (rw (c.as_slice-bytes.ensures, c.extend.ensures, c.replace-sample.ensures.value)) c.split_at.ensures.front_len
    c.storage.ensures.value c.len-2.ensures c.requires.begun.short c.in_ok-len.ensures.within c.in_ok-len.ensures.part in
    rest_completed u p c.take_part.new.progress c.args.rest.now _ c.args.piece.now front c.split_at.result.1.now before after sample
    (cut_at _ _ _ _ c.split_at.ensures.front c.split_at.ensures.back) c.in_ok-take_part.ensures.takes
