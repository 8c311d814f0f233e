use Rattle.std.proofs.Common.{refl}
use Rattle.std.proofs.lemmas.Result.{IfOk-weaker}
use Rattle.aec_cli.specs.Commands.{coding_rules}
use Rattle.aec_cli.proofs.WordLemmas.{app_of-added}
use Rattle.aec_cli.proofs.words.with_coding.Goals as goal

pub returns : goal.returns
unfolding coding_rules
returns c =
    let first = app_of-added _ _ _ _ _ c.in_ok-arg.ensures c.flag-no_preprocessing.ensures.local refl c.flag-no_preprocessing.ensures.rule in
    let second = app_of-added _ _ _ _ _ c.in_ok-arg-2.ensures c.long_flag-even_blocks.ensures.local first c.long_flag-even_blocks.ensures.rule in
    let third = app_of-added _ _ _ _ _ c.in_ok-arg-3.ensures c.flag-pad.ensures.local second c.flag-pad.ensures.rule in
    IfOk-weaker c.arg-4.result _ _ (λ r added. app_of-added _ _ _ _ _ added c.flag-restricted.ensures.local third c.flag-restricted.ensures.rule)
    c.arg-4.ensures
