use Rattle.std.proofs.Common.{map}
use Rattle.std.specs.String.{string_bytes}
use Rattle.clap.specs.Faults.{fault_of}
use Rattle.clap.specs.Kinds.{HasKind}
use Rattle.clap.specs.Matches.{found_of}
use Rattle.aec_cli.specs.Commands.{aec_app}
use Rattle.aec_cli.specs.Ends.{IsFoundIn}
use Rattle.aec_cli.proofs.StatusLemmas.{ends_by_error, ends_by_memory, ends_by_usage, ends_by_job, ends_job}
use Rattle.aec_cli.proofs.program.run_words.Goals as goal

pub returns-in-Err-clause-mistakes : goal.returns-in-Err-clause-mistakes
returns-in-Err-clause-mistakes g c =
    let has : HasKind (fault_of aec_app (map string_bytes c.args.words.items)) c.in-Err.error =
    rw c.as_slice.ensures.value at c.in-Err.ensures.kinds in
    ends_by_error _ c.in-Err.error c.unparsed.result has c.unparsed.ensures

pub returns-in-Err-clause-refusals : goal.returns-in-Err-clause-refusals
returns-in-Err-clause-refusals g c sound =
    let has : HasKind (fault_of aec_app (map string_bytes c.args.words.items)) c.in-Err.error =
    rw c.as_slice.ensures.value at c.in-Err.ensures.kinds in
    ends_by_memory _ c.in-Err.error c.unparsed.result (rw sound at has) c.unparsed.ensures

pub returns-in-Err-settings-clause-refusals : goal.returns-in-Err-settings-clause-refusals
returns-in-Err-settings-clause-refusals g c sound =
    let finds : IsFoundIn (map string_bytes c.args.words.items) (found_of c.in-Ok.matches) = rw c.as_slice.ensures.value at c.in-Ok.ensures.entries in
    ends_by_usage _ (found_of c.in-Ok.matches) c.settings.result c.in-Err-settings.usage c.failed.result finds c.in-Err-settings.is
    c.settings.ensures.refuses c.settings.ensures.memory c.failed.ensures

pub returns-clause-refusals : goal.returns-clause-refusals
returns-clause-refusals g c sound =
    let finds : IsFoundIn (map string_bytes c.args.words.items) (found_of c.in-Ok.matches) = rw c.as_slice.ensures.value at c.in-Ok.ensures.entries in
    ends_by_job _ (found_of c.in-Ok.matches) _ _ finds c.in-Ok-settings.ensures.ok
    (ends_job c.run.result c.ended.result c.ended.ensures c.run.ensures.done c.run.ensures.fault)
