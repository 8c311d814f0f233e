-- What cutting out a range leaves if source and sink are bytes in memory.
use Rattle.std.proofs.Common.{◌≡◌, ℕ, false, Option, Some, Ok, Err, List, [], refl, ◌⊎◌}
use Rattle.aec_params.specs.declared.settings.Settings.{Settings}
use Rattle.aec_params.specs.declared.fault.Fault.{Fault}
use Rattle.aec_params.specs.declared.fault.Fault.TheVariants.{Memory, Write}
use Rattle.aec_params.specs.Limits.{Caps}
use Rattle.aec_engine.specs.Transfers.{input_of, are_past, Taking, Putting, Leaves}
use Rattle.aec_engine.specs.Output.{IsRanged}
use Rattle.aec_engine.proofs.FrontLemmas.{ranging-whole}
use Rattle.aec_engine.proofs.InMemoryLemmas.{answered_ok, answered_err, as_refusal}

pub ranged_in_memory : (s : Settings) (caps : Caps) (count : Option ℕ) (first len : ℕ) (source : Taking) (sink : Putting) (coded held : List ℕ)
    → source.before ≡ Some coded → source.failures ≡ 0 → sink.before ≡ Some [] → sink.after ≡ Some held
    → Leaves (IsRanged s caps count first len) source (are_past caps.bytes) sink (Ok tt)
    → IsRanged s caps count first len (input_of coded false) (Ok held)
ranged_in_memory s caps count first len source sink coded held before sound empty holds leaves =
    answered_ok (IsRanged s caps count first len) (are_past caps.bytes) source sink coded held (Ok tt) (ranging-whole s caps count first len)
    before sound empty holds leaves refl

pub not_ranged_in_memory : (s : Settings) (caps : Caps) (count : Option ℕ) (first len : ℕ) (source : Taking) (sink : Putting) (coded : List ℕ)
    (fault f : Fault)
    → source.before ≡ Some coded → source.failures ≡ 0 → (fault ≡ Write → f ≡ Memory) → (f ≡ fault) ⊎ (fault ≡ Write)
    → Leaves (IsRanged s caps count first len) source (are_past caps.bytes) sink (Err fault)
    → (f ≡ Memory) ⊎ IsRanged s caps count first len (input_of coded false) (Err f)
not_ranged_in_memory s caps count first len source sink coded fault f before sound memory other leaves =
    as_refusal (λ f. IsRanged s caps count first len (input_of coded false) (Err f)) fault f memory other
    (answered_err (IsRanged s caps count first len) (are_past caps.bytes) source sink coded (Err fault) fault
    (ranging-whole s caps count first len) before sound leaves refl)
