use Rattle.std.proofs.Common.{ap, codes, true, ◌≡◌, ◌∙◌}
use Rattle.clap.specs.Simple.{app_of, app_of_fields, new_app, on_top}
use Rattle.aec_cli.specs.Commands.{aec_app, coding_rules, file_rules, number_rules, storage_rules, versioned_app, with_rules, work_rules}
use Rattle.aec_cli.proofs.words.command.Goals as goal

pub returns-clause-app : goal.returns-clause-app
unfolding aec_app
returns-clause-app c =
    let named : app_of c.about.result ≡ new_app (codes "aec") = ap app_of_fields c.about.ensures ∙ c.new.ensures.app in
    let versioned : app_of c.version-command.result ≡ versioned_app (codes "aec") =
    ap app_of_fields c.version-command.ensures ∙ ap (on_top (λ shape. record shape { has_version = true })) named in
    let numbers = c.in_ok-command.ensures ∙ ap (λ a. with_rules a number_rules) versioned in
    let coding = c.in_ok-command-2.ensures ∙ ap (λ a. with_rules a coding_rules) numbers in
    let storage = c.in_ok-command-3.ensures ∙ ap (λ a. with_rules a storage_rules) coding in
    let work = c.in_ok-command-4.ensures ∙ ap (λ a. with_rules a work_rules) storage in
    c.in_ok-with_files.ensures ∙ ap (λ a. with_rules a file_rules) work
