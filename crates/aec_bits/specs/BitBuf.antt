-- A buffer of bits as its callers see it.
use Rattle.std.specs.Prelude.{◌≡◌, ℕ, ◌+◌, ◌^◌, ◌<◌, ◌≤◌, Bool, List, ◌++◌, Result, OnOk, OnErr, IfErr}
use Rattle.aec_params.specs.declared.fault.Fault.{Fault}
use Rattle.aec_params.specs.declared.fault.Fault.TheVariants.{Memory}

-- the bits in order, and how many bits can be appended with no further memory (the code has words
-- and a length: the list is the front of their bits)
pub record Bits : Type 0 where
  pub list : List Bool
  pub room : ℕ

-- a number of n bits, where n is at most 64
pub record FitsWidth (n value : ℕ) : Type 0 where
  pub width : n ≤ 64
  pub fits : value < 2 ^ n

-- A part of n bits is appended, and the room shrinks by at most n. If the call fails, it fails with
-- `Memory`, the room was less than n, and nothing has changed.
pub record AppendsBits (n : ℕ) (part : List Bool) (old new : Bits) (result : Result (Unit {0}) Fault) : Type 0 where
  pub ok : OnOk result (new.list ≡ old.list ++ part)
  pub room : OnOk result (old.room ≤ new.room + n)
  pub err : OnErr result (new ≡ old)
  pub full : OnErr result (old.room < n)
  pub fault : IfErr result (λ e. e ≡ Memory)
