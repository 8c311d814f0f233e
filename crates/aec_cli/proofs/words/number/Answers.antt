use Rattle.std.proofs.Common.{◌≡◌, Some, ap, rules, ◌∙◌}
use Rattle.clap.specs.Walk.{Rule, rule_of}
use Rattle.aec_cli.proofs.words.number.Goals as goal

pub returns-clause-rule : goal.returns-clause-rule
returns-clause-rule c =
    let judged : c.value_parser.result.value_parser ≡ Some c.args.parser = search rules in
    ap rule_of c.help.ensures ∙ (ap rule_of c.value_parser.ensures.others
    ∙ (ap (λ p. record (rule_of c.value_name.result) { parser = p }) judged
    ∙ (ap (λ a. record (rule_of a) { parser = Some c.args.parser }) c.value_name.ensures
    ∙ (ap (λ a. record (rule_of a) { parser = Some c.args.parser; value_names = 1 }) c.short.ensures
    ∙ ap {A = Rule} (λ r. record r { short = Some c.args.letter; parser = Some c.args.parser; value_names = 1 }) c.new.ensures.rule))))
