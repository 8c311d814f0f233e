use Rattle.std.proofs.Common.{refl}
use Rattle.std.proofs.lemmas.Result.{IfOk-weaker}
use Rattle.aec_cli.specs.Commands.{storage_rules}
use Rattle.aec_cli.proofs.WordLemmas.{app_of-added}
use Rattle.aec_cli.proofs.words.with_storage.Goals as goal

pub returns : goal.returns
unfolding storage_rules
returns c =
    let first = app_of-added _ _ _ _ _ c.in_ok-arg.ensures c.flag-signed.ensures.local refl c.flag-signed.ensures.rule in
    let second = app_of-added _ _ _ _ _ c.in_ok-arg-2.ensures c.flag-msb_first.ensures.local first c.flag-msb_first.ensures.rule in
    IfOk-weaker c.arg-3.result _ _ (λ r added. app_of-added _ _ _ _ _ added c.flag-three_byte.ensures.local second c.flag-three_byte.ensures.rule)
    c.arg-3.ensures
