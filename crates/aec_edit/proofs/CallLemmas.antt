-- Calls that are left, and the result of an exchange.
use Rattle.std.proofs.Common.{◌≡◌, ℕ, ◌+◌, ◌-◌, ◌/◌, ◌^◌, ◌<◌, ◌≤◌, None, List, ℤ, refl, arith}
use Rattle.std.specs.Int.{div_ceil}
use Rattle.std.proofs.lemmas.Bool.Decides.{nat_tests}
use Rattle.aec_params.specs.declared.fault.Fault.{Fault}
use Rattle.aec_params.specs.declared.fault.Fault.TheVariants.{Memory}
use Rattle.aec_bits.specs.Codec.{Format}
use Rattle.aec_bits.specs.Devices.{counted}
use Rattle.aec_edit.specs.Calls.{want_of_calls, RisesAtMost}
use Rattle.aec_edit.specs.Changes.{IsNotExchanged, recoded, exchange_calls}

pub calls_left : (calls needed : ℕ) → needed ≤ 2 ^ 64 - 1 - calls → want_of_calls calls needed ≡ None
calls_left calls needed enough = grind (arith, nat_tests)

-- how many intervals are coded, as the code computes it
pub needed_is : (m n first len c : ℕ) → m ≡ n → c ≡ div_ceil (first + len) m → c - first / m ≡ exchange_calls n first len
needed_is m n first len c m_is c_is = cc

-- refused with `Memory`, though enough calls were left
pub lacks_memory : (needed calls after : ℕ) (fault : Fault) → needed ≤ 2 ^ 64 - 1 - calls → fault ≡ Memory → 0 < needed → calls ≤ after → after ≤ calls + needed
    → IsNotExchanged needed calls fault after
lacks_memory needed calls after fault enough fault_is some least most =
    rw (calls_left calls needed enough) (record { fault_is = fault_is; some = some; stays = least; few = most })

-- the same recoding, stated by other variables
pub recoded_at : (f g : Format) (from from' to to' : ℕ) (s s' fresh fresh' : List ℤ) → g ≡ f → from' ≡ from → to' ≡ to
    → s' ≡ s → fresh' ≡ fresh → recoded g from' to' fresh' s' ≡ recoded f from to fresh s
recoded_at f g from from' to to' s s' fresh fresh' format_is from_is to_is s_is fresh_is = rw (format_is, from_is, to_is, s_is, fresh_is) refl

-- a count of reads rises by one, unless it is at its greatest
pub one_more_read : (before old after : ℕ) → after ≡ counted before → before ≡ old → before ≤ 2 ^ 64 - 1 → RisesAtMost 1 old after
one_more_read before old after after_is same few = record { stays = omega (arith, after_is, same, few); few = omega (arith, after_is, same, few) }
