use Rattle.std.proofs.Common.{Some, ap, ◌∙◌}
use Rattle.clap.specs.Walk.{Rule, rule_of}
use Rattle.clap.specs.declared.builder.action.ArgAction.TheVariants.{SetTrue}
use Rattle.aec_cli.proofs.words.flag.Goals as goal

pub returns-clause-rule : goal.returns-clause-rule
returns-clause-rule c = ap rule_of c.help.ensures ∙ (ap rule_of c.action.ensures
    ∙ (ap (λ a. record (rule_of a) { action = Some SetTrue }) c.short.ensures
    ∙ ap {A = Rule} (λ r. record r { short = Some c.args.letter; action = Some SetTrue }) c.new.ensures.rule))
