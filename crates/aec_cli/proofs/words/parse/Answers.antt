use Rattle.std.proofs.Common.{map}
use Rattle.std.specs.String.{string_bytes}
use Rattle.clap.specs.Simple.{app_of}
use Rattle.aec_cli.proofs.WordLemmas.{entries_of_words, kinds_of_words}
use Rattle.aec_cli.proofs.words.parse.Goals as goal

pub returns-clause-entries : goal.returns-clause-entries
returns-clause-entries c = entries_of_words (app_of c.in-Ok.command) (map string_bytes c.args.words.now) c.try_get_matches_from.result
    c.in-Ok.ensures.app c.try_get_matches_from.ensures.matches

pub returns-clause-kinds : goal.returns-clause-kinds
returns-clause-kinds c = kinds_of_words (app_of c.in-Ok.command) (map string_bytes c.args.words.now) c.try_get_matches_from.result
    c.in-Ok.ensures.app c.try_get_matches_from.ensures.kinds
