use Rattle.std.proofs.lemmas.Result.{err_from_is_err_and}
use Rattle.aec_engine.proofs.EditedStreamLemmas.{decoded_left, read_as_counted, refused_for_memory}
use Rattle.aec_engine.proofs.edited_streams.decode_edited.Goals as goal

pub returns-in_err-samples-clause-fault : goal.returns-in_err-samples-clause-fault
returns-in_err-samples-clause-fault c =
    let exit = err_from_is_err_and c.from_residual-in_err-samples.result c.from_residual-in_err-samples.ensures.1 in
    refused_for_memory c.streams_are_read_back.ensures c.bits_are_read_in_one_way.ensures c.runs_leave_samples.ensures c.args.params.now _ _ _ _ _ _ _ _ _
    c.in_ok-w.ensures.written exit.1 exit.2 c.in_err-samples.ensures.refuses

pub returns-clause-samples : goal.returns-clause-samples
returns-clause-samples c =
    decoded_left c.streams_are_read_back.ensures c.bits_are_read_in_one_way.ensures c.runs_leave_samples.ensures c.args.params.now _ _ _ _ _ _ _
    c.in_ok-w.ensures.written c.in_ok-samples.ensures.ok.1

pub returns-clause-reading : goal.returns-clause-reading
returns-clause-reading c =
    read_as_counted c.streams_are_read_back.ensures c.bits_are_read_in_one_way.ensures c.runs_leave_samples.ensures c.args.params.now _ _ _ _ _ _ _ _
    c.in_ok-w.ensures.written c.in_ok-w.ensures.stream c.in_ok-samples.ensures.ok.1
