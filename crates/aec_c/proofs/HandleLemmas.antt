-- What a handle holds, from the contracts of taking it out and putting it back.
use Rattle.std.proofs.Common.{◌≡◌, ℕ, Option, None, Some, Result, Ok, Err, List, length, take, drop, ap, sym, ◌∙◌}
use Rattle.std.specs.Prelude.{ℤ, Box, IfOk, IfErr, OnOk}
use Rattle.std.specs.Global.{Global}
use Rattle.aec_params.specs.declared.fault.Fault.{Fault}
use Rattle.aec_params.specs.declared.fault.Fault.TheVariants.{Memory}
use Rattle.aec_params.specs.Codewords.{bytes_of}
use Rattle.aec_bits.specs.Codec.{code_of}
use Rattle.aec_edit.specs.Calls.{range_refusal, IsDue}
use Rattle.aec_engine.specs.Transfers.{answer_by}
use Rattle.aec_c.specs.HandleCalls.{format_of}
use Rattle.aec_c.specs.HandleReads.{IsCodeOf, IsRangeOf}
use Rattle.aec_c.specs.declared.kinds.OpenWorkspace.{OpenWorkspace}
use Rattle.aec_c.specs.declared.kinds.Open.{Open}
use Rattle.aec_c.specs.Kinds.{value_in}

-- a handle held what the box that was taken out of it contains
pub kind_was : {X : Type 0} (kind_in : Option Open → Option X) (inside : Option (Box Open Global)) (held : Box Open Global) (now is : Open)
    → inside ≡ Some held → now ≡ held.value → now ≡ is → kind_in (value_in inside) ≡ kind_in (Some is)
kind_was kind_in inside held now is there same kind = ap (λ i. kind_in (value_in i)) there ∙ ap (λ o. kind_in (Some o)) (sym same ∙ kind)

-- the answer of coding: the bytes of the code, or `Memory`
pub code_answer : {X : Type 0} (w : OpenWorkspace) (view : X → List ℕ) (r : Result X Fault)
    → IfOk r (λ x. view x ≡ bytes_of (code_of (format_of w) w.workspace.samples))
    → IfErr r (λ fault. fault ≡ Memory) → IsCodeOf w (answer_by view r)
code_answer w view (Ok x) is memory = is
code_answer w view (Err fault) is memory = memory

-- the answer of a range: its samples, or why they are refused
pub range_answer : {X : Type 0} (samples : List ℤ) (first len : ℕ) (view : X → List ℤ) (r : Result X Fault)
    → IfOk r (λ x. view x ≡ take len (drop first samples)) → OnOk r (range_refusal (length samples) first len ≡ None)
    → IfErr r (λ fault. IsDue (range_refusal (length samples) first len) fault) → IsRangeOf samples first len (answer_by view r)
range_answer samples first len view (Ok x) is within refuses = (is, within)
range_answer samples first len view (Err fault) is within refuses = refuses
