use Rattle.std.proofs.Common.{◌≡◌, ◌∙◌, ap, arith, length, []}
use Rattle.std.proofs.lemmas.Grind.{common_steps}
use Rattle.aec_params.specs.Codewords.{bytes_of, bits_of_bytes}
use Rattle.aec_params.specs.Streams.{stream_of}
use Rattle.aec_interval.specs.IntervalFormat.{interval_format}
use Rattle.aec_edit.specs.Runs.{AnswersAll, all_left}
use Rattle.aec_engine.proofs.edited_streams.write_stream.Goals as goal

pub returns-clause-written : goal.returns-clause-written
returns-clause-written c =
    let edited = c.in-Ok.edited in
    let streamed : c.into_inner-stream.result.items ≡ bytes_of (stream_of c.args.params.now (all_left [] c.args.edits.now edited.outcomes.items)) =
    grind (arith, common_steps) in
    let answers : AnswersAll (interval_format c.args.params.now) c.args.limit [] 0 c.args.edits.now edited.outcomes.items edited.codec.calls =
    grind (arith, common_steps) in
    record {
      allowed = c.known_allowed.ensures;
      answers = answers;
      bits_are = c.in_ok-bits.ensures.ok ∙ ap bits_of_bytes (c.deref.ensures.value ∙ streamed);
      count_is = omega (arith, edited.samples.ok.0, ap length c.in-Ok.ensures.samples);
    }
