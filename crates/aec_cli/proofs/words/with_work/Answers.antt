use Rattle.std.proofs.Common.{ap, codes, refl, ◌≡◌, ◌∙◌}
use Rattle.std.proofs.lemmas.Result.{IfOk-weaker}
use Rattle.clap.specs.Walk.{rule_of}
use Rattle.aec_cli.specs.Commands.{long_parser, number_rule, long_number_rule, work_rules}
use Rattle.aec_cli.proofs.WordLemmas.{app_of-added}
use Rattle.aec_cli.proofs.words.with_work.Goals as goal

pub returns : goal.returns
unfolding work_rules
returns c =
    let count : rule_of c.long_number-count.result ≡ long_number_rule long_parser (codes "count") =
    c.long_number-count.ensures.rule ∙ ap (λ p. long_number_rule p (codes "count")) c.value_parser.ensures in
    let buffer : rule_of c.number-buffer.result ≡ number_rule long_parser (codes "buffer") 98 =
    c.number-buffer.ensures.rule ∙ ap (λ p. number_rule p (codes "buffer") 98) c.value_parser-2.ensures in
    let first = app_of-added _ _ _ _ _ c.in_ok-arg.ensures c.flag-decode.ensures.local refl c.flag-decode.ensures.rule in
    let second = app_of-added _ _ _ _ _ c.in_ok-arg-2.ensures c.long_text-range.ensures.local first c.long_text-range.ensures.rule in
    let third = app_of-added _ _ _ _ _ c.in_ok-arg-3.ensures c.long_text-edit.ensures.local second c.long_text-edit.ensures.rule in
    let fourth = app_of-added _ _ _ _ _ c.in_ok-arg-4.ensures c.long_number-count.ensures.local third count in
    IfOk-weaker c.arg-5.result _ _ (λ r added. app_of-added _ _ _ _ _ added c.number-buffer.ensures.local fourth buffer) c.arg-5.ensures
