-- What a parse sees of the command, and what it returns.
use Rattle.std.proofs.Common.{◌≡◌, ◌∙◌, ap, ap₂, false, true, refl, subst, List}
use Rattle.std.specs.Prelude.{IfOk, Result}
use Rattle.std.proofs.lemmas.Result.{IfOk-weaker}
use Rattle.clap.proofs.OnLiterals.{clap_on_literals}
use Rattle.clap.specs.Built.{AddsArg}
use Rattle.clap.specs.Faults.{fault_of, is_simple_and_free}
use Rattle.clap.specs.Kinds.{FailsBy}
use Rattle.clap.specs.Matches.{found_of}
use Rattle.clap.specs.Simple.{App, HasMatchesOf, app_of, is_simple, matches_of, with_rule}
use Rattle.clap.specs.Walk.{Rule, Text, rows_of, rule_of}
use Rattle.clap.specs.declared.builder.arg.Arg.{Arg}
use Rattle.clap.specs.declared.builder.command.Command.{Command}
use Rattle.clap.specs.declared.error.Error.{Error}
use Rattle.clap.specs.declared.parser.matches.ArgMatches.{ArgMatches}
use Rattle.aec_cli.specs.Commands.{aec_app, coding_rules, file_rules, number_rules, storage_rules, work_rules}

pub app_of-added : (old new : Command) (a : Arg) (app : App) (rule : Rule)
    → AddsArg old a new → a.global ≡ false → app_of old ≡ app → rule_of a ≡ rule → app_of new ≡ with_rule app rule
app_of-added old new a app rule adds local was is = adds.shape local ∙ ap₂ with_rule was is

-- the command is simple: the words alone determine what a parse returns
is_simple-aec_app : is_simple aec_app ≡ true
unfolding aec_app number_rules coding_rules storage_rules work_rules file_rules clap_on_literals
is_simple-aec_app = refl

is_simple_and_free-aec_app : is_simple_and_free aec_app ≡ true
unfolding aec_app number_rules coding_rules storage_rules work_rules file_rules clap_on_literals
is_simple_and_free-aec_app = refl

pub entries_of_words : (app : App) (words : List Text) (result : Result ArgMatches Error)
    → app ≡ aec_app → IfOk result (HasMatchesOf app words) → IfOk result (λ m. rows_of (found_of m) ≡ matches_of aec_app words)
entries_of_words app words result is all = IfOk-weaker result _ _
    (λ m entries. (entries (ap is_simple is ∙ is_simple-aec_app)).0 ∙ ap (λ a. matches_of a words) is) all

pub kinds_of_words : (app : App) (words : List Text) (result : Result ArgMatches Error)
    → app ≡ aec_app → (is_simple_and_free app ≡ true → FailsBy (fault_of app words) result) → FailsBy (fault_of aec_app words) result
kinds_of_words app words result is all =
    let P : App → Type 0 = λ a. FailsBy (fault_of a words) result in
    subst P is (all (ap is_simple_and_free is ∙ is_simple_and_free-aec_app))
