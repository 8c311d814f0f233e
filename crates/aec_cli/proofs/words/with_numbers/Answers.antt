use Rattle.std.proofs.Common.{ap, codes, refl, ◌≡◌, ◌∙◌}
use Rattle.std.proofs.lemmas.Result.{IfOk-weaker}
use Rattle.clap.specs.Walk.{rule_of}
use Rattle.aec_cli.specs.Commands.{number_rule, number_rules, word_parser}
use Rattle.aec_cli.proofs.WordLemmas.{app_of-added}
use Rattle.aec_cli.proofs.words.with_numbers.Goals as goal

pub returns : goal.returns
unfolding number_rules
returns c =
    let bits : rule_of c.number-bits.result ≡ number_rule word_parser (codes "bits") 110 =
    c.number-bits.ensures.rule ∙ ap (λ p. number_rule p (codes "bits") 110) c.value_parser.ensures in
    let block_size : rule_of c.number-block_size.result ≡ number_rule word_parser (codes "block-size") 106 =
    c.number-block_size.ensures.rule ∙ ap (λ p. number_rule p (codes "block-size") 106) c.value_parser-2.ensures in
    let interval : rule_of c.number-interval.result ≡ number_rule word_parser (codes "interval") 114 =
    c.number-interval.ensures.rule ∙ ap (λ p. number_rule p (codes "interval") 114) c.value_parser-3.ensures in
    let first = app_of-added _ _ _ _ _ c.in_ok-arg.ensures c.number-bits.ensures.local refl bits in
    let second = app_of-added _ _ _ _ _ c.in_ok-arg-2.ensures c.number-block_size.ensures.local first block_size in
    IfOk-weaker c.arg-3.result _ _ (λ r added. app_of-added _ _ _ _ _ added c.number-interval.ensures.local second interval)
    c.arg-3.ensures
