-- Answers of cutting out a range, from the results of its parts.
use Rattle.std.proofs.Common.{◌≡◌, ℕ, Option, Result, Err, List, sym, subst}
use Rattle.aec_params.specs.declared.settings.Settings.{Settings}
use Rattle.aec_params.specs.declared.fault.Fault.{Fault}
use Rattle.aec_params.specs.Limits.{Caps}
use Rattle.aec_engine.specs.Output.{IsDecoded, IsRanged, not_decoded}
use Rattle.aec_engine.specs.Transfers.{Taking, are_past, GivesAnswer, given, lacks_memory}

-- a refusal of decoding is a refusal of cutting out
pub refused_as_decoding : (s : Settings) (caps : Caps) (count : Option ℕ) (first len : ℕ) (source : Taking) (answer : Result (List ℕ) Fault) (fault : Fault)
    → answer ≡ Err fault → GivesAnswer (IsDecoded s caps count) source (are_past caps.bytes) answer
    → GivesAnswer (IsRanged s caps count first len) source (are_past caps.bytes) answer
refused_as_decoding s caps count first len source answer fault is (given input a gave answered) =
    given input answer gave (subst (IsRanged s caps count first len input) (sym is) (not_decoded fault (subst (IsDecoded s caps count input) is answered)))
refused_as_decoding s caps count first len source answer fault is lacks_memory = lacks_memory
