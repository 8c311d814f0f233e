-- The bits of a number joined to bits gathered before.
use Rattle.std.proofs.Common.{◌≡◌, ℕ, ◌+◌, ◌*◌, ◌/◌, ◌%◌, ◌-◌, ◌^◌, ◌<◌, ◌≤◌, ◌++◌, ap, ◌∙◌, sym, arith, Bool, List, [], length, append_assoc, append-nil, length-append}
use Rattle.std.proofs.lemmas.Nat.{shl_whole, mul-add-lt, pow-add, shr_below}
use Rattle.std.proofs.Math.Pow.{pow_mono}
use Rattle.aec_params.proofs.CodewordLaws.{length-fs, length-binary}
use Rattle.aec_params.specs.Codewords.{binary}
use Rattle.aec_bits.specs.BitBuf.{Bits}
use Rattle.aec_block.specs.Written.{GathersBits}
use Rattle.aec_bits.proofs.WordLemmas.{binary-add, binary-join, binary-mod}
use Rattle.aec_bits.proofs.BitBufLemmas.{binary-one}

-- a word of `used` bits, shifted left by `width` bits, plus a number of `width` bits
pub record IsJoined (used width word value : ℕ) : Type 0 where
  pub within : used + width ≤ 64
  pub fits : word * 2 ^ width % 2 ^ 64 + value < 2 ^ 64
  pub below : word * 2 ^ width % 2 ^ 64 + value < 2 ^ (used + width)
  pub bits : binary (used + width) (word * 2 ^ width % 2 ^ 64 + value) ≡ binary used word ++ binary width value

pub is_joined_number : (used width word value : ℕ) → used + width ≤ 64 → word < 2 ^ used → value < 2 ^ width → IsJoined used width word value
is_joined_number used width word value within high low =
    let moved : word * 2 ^ width % 2 ^ 64 ≡ word * 2 ^ width = shl_whole word used width 64 high within in
    let turned : 2 ^ width * 2 ^ used ≡ 2 ^ (used + width) = omega (arith, pow-add 2 used width) in
    let below : word * 2 ^ width + value < 2 ^ (used + width) = rw (← turned) (mul-add-lt word (2 ^ width) value (2 ^ used) high low) in
    let most : 2 ^ (used + width) ≤ 2 ^ 64 = pow_mono within in
    record {
      within = within;
      fits = omega arith;
      below = rw moved below;
      bits = rw moved (binary-join used width word value low);
    }

pub is_joined : (bits : List Bool) (used width word value : ℕ) → binary used word ≡ bits → length bits + width ≤ 64 → word < 2 ^ used → value < 2 ^ width
    → IsJoined used width word value
is_joined bits used width word value is place high low =
    is_joined_number used width word value (omega (arith, length-binary used word, ap (length {A = Bool}) is)) high low

-- a word of `used` bits, and after them the first bits of a number without its `over` last ones: a
-- whole word
pub record IsFilled (used width over word value : ℕ) : Type 0 where
  pub some : 0 < used
  pub few : over < 64
  pub fits : word * 2 ^ (64 - used) % 2 ^ 64 + value / 2 ^ over < 2 ^ 64
  pub bits : binary 64 (word * 2 ^ (64 - used) % 2 ^ 64 + value / 2 ^ over) ++ binary over (value % 2 ^ over)
      ≡ binary used word ++ binary width value

is_filled_number : (used width over word value : ℕ) → used ≤ 64 → width < 64 → used + width ≡ 64 + over → word < 2 ^ used → value < 2 ^ width
    → IsFilled used width over word value
is_filled_number used width over word value most narrow sum high low =
    let free : ℕ = 64 - used in
    let whole : used + free ≡ 64 = omega arith in
    let parts : free + over ≡ width = omega arith in
    let moved : word * 2 ^ free % 2 ^ 64 ≡ word * 2 ^ free = shl_whole word used free 64 high (omega arith) in
    let first : value / 2 ^ over < 2 ^ free = shr_below value free over (rw (← parts) at low) in
    let turned : 2 ^ free * 2 ^ used ≡ 2 ^ 64 = omega (arith, pow-add 2 used free, ap (λ n. 2 ^ n) whole) in
    let below : word * 2 ^ free + value / 2 ^ over < 2 ^ 64 = rw (← turned) (mul-add-lt word (2 ^ free) (value / 2 ^ over) (2 ^ used) high first) in
    record {
      some = omega arith;
      few = omega arith;
      fits = rw moved below;
      bits =
          ap (λ n. binary 64 (n + value / 2 ^ over) ++ binary over (value % 2 ^ over)) moved
          ∙ ap (λ n. binary n (word * 2 ^ free + value / 2 ^ over) ++ binary over (value % 2 ^ over)) (sym whole)
          ∙ ap (λ (bits : List Bool). bits ++ binary over (value % 2 ^ over)) (binary-join used free word (value / 2 ^ over) first)
          ∙ append_assoc (binary used word) (binary free (value / 2 ^ over)) (binary over (value % 2 ^ over))
          ∙ ap (λ (bits : List Bool). binary used word ++ (binary free (value / 2 ^ over) ++ bits)) (binary-mod over value)
          ∙ ap (λ (bits : List Bool). binary used word ++ bits) (sym (binary-add free over value) ∙ ap (λ n. binary n value) parts);
    }

pub is_filled : (bits : List Bool) (used width over word value : ℕ) → binary used word ≡ bits → length bits + width ≡ 64 + over → used ≤ 64 → width < 64
    → word < 2 ^ used → value < 2 ^ width → IsFilled used width over word value
is_filled bits used width over word value is sum most narrow high low =
    is_filled_number used width over word value most narrow (omega (arith, length-binary used word, ap (length {A = Bool}) is)) high low

-- a whole word appended, and the last bits of the number kept
pub gathers-filled : (old new : Bits) (gathered kept : List Bool) (word over value low : ℕ) → new.list ≡ old.list ++ binary 64 word
    → old.room ≡ new.room + 64 → kept ≡ binary over (value % low) → low ≡ 2 ^ over
    → binary 64 word ++ binary over (value % 2 ^ over) ≡ gathered → GathersBits gathered old kept new
gathers-filled old new gathered kept word over value low added shrunk is whole filled =
    let last : kept ≡ binary over (value % 2 ^ over) = is ∙ ap (λ n. binary over (value % n)) whole in
    record {
      list =
          ap (λ (bits : List Bool). new.list ++ bits) last ∙ ap (λ (bits : List Bool). bits ++ binary over (value % 2 ^ over)) added
          ∙ append_assoc old.list (binary 64 word) (binary over (value % 2 ^ over)) ∙ ap (λ (bits : List Bool). old.list ++ bits) filled;
      room = omega (
        arith,
        shrunk,
        ap (length {A = Bool}) last,
        ap (length {A = Bool}) filled,
        length-append (binary 64 word) (binary over (value % 2 ^ over)),
        length-binary 64 word,
        length-binary over (value % 2 ^ over),
      );
    }

pub one_below : (v : ℕ) → 1 < 2 ^ (v + 1)
one_below v = let some : 2 ^ 1 ≤ 2 ^ (v + 1) = pow_mono {i = 1} {j = v + 1} (omega arith) in omega arith

pub ruleset gathered_bits = (append_assoc, append-nil, length-append, length-binary, length-fs, binary-one, one_below)
