use Rattle.std.proofs.Common.{Some, ap, ◌∙◌}
use Rattle.clap.specs.Walk.{Rule, rule_of}
use Rattle.aec_cli.proofs.words.long_text.Goals as goal

pub returns-clause-rule : goal.returns-clause-rule
returns-clause-rule c = ap rule_of c.help.ensures ∙ (ap rule_of c.value_name.ensures
    ∙ (ap (λ a. record (rule_of a) { value_names = 1 }) c.long.ensures
    ∙ ap {A = Rule} (λ r. record r { long = Some c.args.name.now; value_names = 1 }) c.new.ensures.rule))
