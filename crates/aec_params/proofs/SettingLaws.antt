-- Bounds of the format's settings. Of a block size, proofs use only what is stated here: it is
-- even, and from 8 to 64.
use Rattle.std.proofs.Common.{◌≡◌, ℕ, ◌*◌, ◌/◌, ◌%◌, ◌<◌, ◌≤◌, Bool, true, false, if◌then◌else◌, leb, arith}
use Rattle.std.proofs.lemmas.Bool.{and_parts, leb-true}
use Rattle.std.proofs.lemmas.Bool.Decides.{nat_tests}
use Rattle.aec_params.specs.declared.settings.Settings.{Settings}
use Rattle.aec_params.specs.Params.{IsAllowed, is_block_size, is_even_block_size}

pub at_least_one_bit : (s : Settings) → IsAllowed s → 1 ≤ s.bits
at_least_one_bit s allowed = leb-true 1 s.bits (and_parts (leb 1 s.bits) (leb s.bits 32) allowed.bits).0

pub interval-positive : (s : Settings) → IsAllowed s → 0 < s.interval
interval-positive s allowed = leb-true 1 s.interval (and_parts (leb 1 s.interval) (leb s.interval 4096) allowed.interval).0

record IsSize (j : ℕ) : Type 0 where
  least : 8 ≤ j
  most : j ≤ 64
  even : j % 2 ≡ 0

standard_size : (j : ℕ) → is_block_size j ≡ true → IsSize j
standard_size j e = record { least = grind (arith, nat_tests); most = grind (arith, nat_tests); even = grind (arith, nat_tests) }

even_size : (j : ℕ) → is_even_block_size j ≡ true → IsSize j
even_size j e = record { least = grind (arith, nat_tests); most = grind (arith, nat_tests); even = grind (arith, nat_tests) }

size_by : (flag : Bool) (j : ℕ) → (if flag then is_even_block_size j else is_block_size j) ≡ true → IsSize j
size_by true j e = even_size j e
size_by false j e = standard_size j e

size_of : (s : Settings) → IsAllowed s → IsSize s.block_size
size_of s allowed = size_by s.even_blocks s.block_size allowed.block_size

pub block_size-least : (s : Settings) → IsAllowed s → 8 ≤ s.block_size
block_size-least s allowed = (size_of s allowed).least

pub block_size-most : (s : Settings) → IsAllowed s → s.block_size ≤ 64
block_size-most s allowed = (size_of s allowed).most

pub block_size-even : (s : Settings) → IsAllowed s → 2 * (s.block_size / 2) ≡ s.block_size
block_size-even s allowed = let size = size_of s allowed in omega arith

pub block_size-positive : (s : Settings) → IsAllowed s → 0 < s.block_size
block_size-positive s allowed = let size = size_of s allowed in omega arith
