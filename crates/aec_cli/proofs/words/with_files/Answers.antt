use Rattle.std.proofs.Common.{refl}
use Rattle.std.proofs.lemmas.Result.{IfOk-weaker}
use Rattle.aec_cli.specs.Commands.{file_rules}
use Rattle.aec_cli.proofs.WordLemmas.{app_of-added}
use Rattle.aec_cli.proofs.words.with_files.Goals as goal

pub returns : goal.returns
unfolding file_rules
returns c =
    let first = app_of-added _ _ _ _ _ c.in_ok-arg.ensures c.file-source.ensures.local refl c.file-source.ensures.rule in
    IfOk-weaker c.arg-2.result _ _ (λ r added. app_of-added _ _ _ _ _ added c.file-dest.ensures.local first c.file-dest.ensures.rule) c.arg-2.ensures
