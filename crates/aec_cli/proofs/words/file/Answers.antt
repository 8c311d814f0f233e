use Rattle.std.proofs.Common.{true, ap, ◌∙◌}
use Rattle.clap.specs.Walk.{Rule, rule_of}
use Rattle.aec_cli.proofs.words.file.Goals as goal

pub returns-clause-rule : goal.returns-clause-rule
returns-clause-rule c = ap rule_of c.help.ensures ∙ (ap rule_of c.required.ensures
    ∙ ap {A = Rule} (λ r. record r { required = true }) c.new.ensures.rule)
