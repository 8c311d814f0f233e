-- What a buffer contains after a call.
use Rattle.std.specs.Prelude.{◌≡◌, ℕ, nat_le, if◌then◌else◌, Result, Ok, Err, List, ◌++◌, length, drop, ◌⊎◌}
use Rattle.aec_params.specs.declared.fault.Fault.{Fault}
use Rattle.aec_params.specs.declared.fault.Fault.TheVariants.{Memory}
use Rattle.aec_engine.specs.Transfers.{answer_by}

-- a list whose front is replaced by items, if it has room for all of them; else the list as it was
abbrev pub front_put : {X : Type 0} → List X → List X → List X
front_put items before = if nat_le (length items) (length before) then items ++ drop (length items) before else before

-- what a buffer contains after a call with this result
abbrev pub left_of : {X : Type 0} → Result (List X) Fault → List X → List X
left_of (Ok items) before = front_put items before
left_of (Err fault) before = before

-- a call has one of these results, has written it to a buffer, and returns its length
pub record FillsOne (answers : Result (List ℕ) Fault → Type 0) (before after : List ℕ)
    (result : Result ℕ Fault) : Type 0 where
  pub answer : Result (List ℕ) Fault
  pub answered : answers answer
  pub told : result ≡ answer_by (λ (bytes : List ℕ). length bytes) answer
  pub left : after ≡ left_of answer before

-- one of these results, or `Memory`
abbrev pub OrMemory : (Result (List ℕ) Fault → Type 0) → Result (List ℕ) Fault → Type 0
OrMemory answers answer = (answer ≡ Err Memory) ⊎ answers answer
