-- Identifiers: what was spelled is read back, and what is read was spelled.
use Rattle.std.proofs.Common.{◌≡◌, ℕ, zero, suc, ◌+◌, ◌-◌, ◌*◌, ◌/◌, ◌%◌, ◌^◌, ◌<◌, ◌≤◌, ◌==◌, Bool, true, false, List, [], ◌∷◌, ◌++◌, refl, sym, ap, ◌∙◌, append_assoc, inl, inr, arith}
use Rattle.std.proofs.lemmas.Nat.{pow_pos, div-mul-add}
use Rattle.std.proofs.Math.Nat.{pow-suc, div-eq_of_lt}
use Rattle.std.proofs.lemmas.Bool.{cases_eq, cases_lt, eq-eqb, ne_eqb}
use Rattle.aec_params.specs.Codewords.{binary}
use Rattle.aec_block.specs.declared.reading.Kind.{Kind}
use Rattle.aec_block.specs.declared.reading.Kind.TheVariants.{ZeroBlocks, SecondExtension, Split, NoCompression}
use Rattle.aec_bits.specs.BitReader.{has_one}
use Rattle.aec_block.specs.ReadAt.{taken, map_taken, binary_at, kind_of_last, kind_of_number, kind_after, kind_at}
use Rattle.aec_block.proofs.CodewordLemmas.{then_at-passed, map_taken-mapped, binary-add, binary_at-binary, binary_at-spelled}

-- the bits of an identifier
abbrev pub kind_bits : ℕ → Kind → List Bool
kind_bits len NoCompression = binary len (2 ^ len - 1)
kind_bits len SecondExtension = binary (len + 1) 1
kind_bits len (Split k) = binary len (k + 1)
kind_bits len ZeroBlocks = binary (len + 1) 0

-- the kinds that identifiers of `len` bits or one more distinguish
abbrev pub IsKind : ℕ → Kind → Type 0
IsKind len NoCompression = Unit {0}
IsKind len SecondExtension = Unit {0}
IsKind len (Split k) = k < 2 ^ len - 2
IsKind len ZeroBlocks = Unit {0}

two_or_more : (len : ℕ) → 0 < len → 2 ≤ 2 ^ len
two_or_more zero some = absurd (omega arith)
two_or_more (suc len) some = omega (arith, pow-suc 2 len, pow_pos len)

pub kind_at-bits : (len : ℕ) (kind : Kind) (rest : List Bool) → 0 < len → IsKind len kind → kind_at len (kind_bits len kind ++ rest) ≡ taken kind rest
kind_at-bits len NoCompression rest some is_kind =
    let two = two_or_more len some in
    rw (binary_at-binary len (2 ^ len - 1) rest (omega arith), ne_eqb (2 ^ len - 1) 0 (omega arith), eq-eqb (2 ^ len - 1) (2 ^ len - 1) refl) refl
kind_at-bits len SecondExtension rest some is_kind =
    rw (
      binary-add len 1 1,
      append_assoc (binary len 0) (binary 1 1) rest,
      binary_at-binary len 0 (binary 1 1 ++ rest) (pow_pos len),
      binary_at-binary 1 1 rest (omega arith),
    ) refl
kind_at-bits len (Split k) rest some is_kind =
    let less : k + 1 - 1 ≡ k = omega arith in
    rw (binary_at-binary len (k + 1) rest (omega arith), ne_eqb (k + 1) 0 (omega arith), ne_eqb (k + 1) (2 ^ len - 1) (omega arith), less) refl
kind_at-bits len ZeroBlocks rest some is_kind =
    rw (
      binary-add len 1 0,
      append_assoc (binary len 0) (binary 1 0) rest,
      binary_at-binary len 0 (binary 1 0 ++ rest) (pow_pos len),
      binary_at-binary 1 0 rest (omega arith),
    ) refl

-- what a reading of an identifier has taken: a kind whose identifier begins the bits
pub record SpelledKind (len : ℕ) (bits : List Bool) (kind : Kind) (rest : List Bool) : Type 0 where
  pub is_kind : IsKind len kind
  pub spelled : bits ≡ kind_bits len kind ++ rest

one_bit_more : (len last : ℕ) (bits behind rest : List Bool) → last < 2 → bits ≡ binary len 0 ++ behind → behind ≡ binary 1 last ++ rest
    → bits ≡ binary (len + 1) last ++ rest
one_bit_more len last bits behind rest small spelled spelled_last =
    let joined : binary (len + 1) last ≡ binary len 0 ++ binary 1 last =
    binary-add len 1 last ∙ ap (λ n. binary len n ++ binary 1 last) (div-eq_of_lt small) in
    spelled ∙ (ap (λ l. binary len 0 ++ l) spelled_last ∙ (sym (append_assoc (binary len 0) (binary 1 last) rest) ∙ ap (λ l. l ++ rest) (sym joined)))

-- an identifier whose first bits are the number 0 has one more bit
spelled_zero : (len : ℕ) (bits behind : List Bool) (kind : Kind) (rest : List Bool) → bits ≡ binary len 0 ++ behind
    → map_taken kind_of_last (binary_at 1 behind) ≡ taken kind rest → SpelledKind len bits kind rest
spelled_zero len bits behind kind rest spelled e =
    let m = map_taken-mapped kind_of_last (binary_at 1 behind) kind rest e in
    let last = binary_at-spelled 1 behind m.value rest m.before in
    let spelled_all = one_bit_more len m.value bits behind rest last.0 spelled last.1 in
    elim (cases_eq m.value 0) [
      | inl is_zero ↦
          let kind_is : ZeroBlocks ≡ kind = rw is_zero at m.after in
          rw (← kind_is) (record { is_kind = tt; spelled = rw is_zero at spelled_all })
      | inr not_zero ↦
          let one : m.value ≡ 1 = omega (arith, last.0) in
          let kind_is : SecondExtension ≡ kind = rw one at m.after in
          rw (← kind_is) (record { is_kind = tt; spelled = rw one at spelled_all })
    ]

-- an identifier whose first bits are a number above 0 has no more bits
spelled_number : (len number : ℕ) (bits : List Bool) (kind : Kind) (rest : List Bool) → 0 < number → number < 2 ^ len → bits ≡ binary len number ++ rest
    → kind_of_number len number ≡ kind → SpelledKind len bits kind rest
spelled_number len number bits kind rest some small spelled kind_is =
    elim (cases_eq number (2 ^ len - 1)) [
      | inl last ↦
          let plain : NoCompression ≡ kind = rw (eq-eqb number (2 ^ len - 1) last) at kind_is in
          rw (← plain) (record { is_kind = tt; spelled = rw last at spelled })
      | inr other ↦
          let split : Split (number - 1) ≡ kind = rw (ne_eqb number (2 ^ len - 1) other) at kind_is in
          let again : number - 1 + 1 ≡ number = omega arith in
          rw (← split) (record { is_kind = omega arith; spelled = rw again spelled })
    ]

pub kind_at-spelled : (len : ℕ) (bits : List Bool) (kind : Kind) (rest : List Bool) → kind_at len bits ≡ taken kind rest → SpelledKind len bits kind rest
kind_at-spelled len bits kind rest e =
    let p = then_at-passed (binary_at len bits) (kind_after len) kind rest e in
    let number = binary_at-spelled len bits p.value p.behind p.before in
    elim (cases_eq p.value 0) [
      | inl is_zero ↦ spelled_zero len bits p.behind kind rest (rw is_zero at number.1) (rw is_zero at p.after)
      | inr not_zero ↦
          let read : taken (kind_of_number len p.value) p.behind ≡ taken kind rest = rw (ne_eqb p.value 0 not_zero) at p.after in
          let kind_is : kind_of_number len p.value ≡ kind = cc in
          let same : p.behind ≡ rest = cc in
          spelled_number len p.value bits kind rest (omega arith) number.0 (rw same at number.1) kind_is
    ]

-- ---- a 1 in a number above 0

top_bit : (w v : ℕ) → 2 ^ w ≤ v → v < 2 ^ suc w → (v / 2 ^ w % 2 == 1) ≡ true
top_bit w v most fits =
    let rest : v ≡ 1 * 2 ^ w + (v - 2 ^ w) = omega arith in
    let one : v / 2 ^ w ≡ 1 = ap (λ n. n / 2 ^ w) rest ∙ div-mul-add 1 (2 ^ w) (v - 2 ^ w) (omega (arith, fits, pow-suc 2 w)) in
    ap (λ q. q % 2 == 1) one

one_in_number : (w v : ℕ) (rest : List Bool) → 0 < v → v < 2 ^ w → has_one (binary w v ++ rest) ≡ true
one_in_number zero v rest some fits = absurd (omega arith)
one_in_number (suc w) v rest some fits =
    elim (cases_lt v (2 ^ w)) [
      | inl less ↦ by_bit (v / 2 ^ w % 2 == 1) (one_in_number w v rest some less)
      | inr most ↦ ap (λ b. has_one (b ∷ (binary w v ++ rest))) (top_bit w v most fits)
    ]
  where
    by_bit : (b : Bool) → has_one (binary w v ++ rest) ≡ true → has_one (b ∷ (binary w v ++ rest)) ≡ true
    by_bit true later = refl
    by_bit false later = later

has_one-after : (xs ys : List Bool) → has_one ys ≡ true → has_one (xs ++ ys) ≡ true
has_one-after [] ys one = one
has_one-after (true ∷ xs) ys one = refl
has_one-after (false ∷ xs) ys one = has_one-after xs ys one

-- bits that begin with a number above 0
pub one_in_first : (w v : ℕ) (bits rest : List Bool) → binary_at w bits ≡ taken v rest → 0 < v → has_one bits ≡ true
one_in_first w v bits rest read some =
    let spelled = binary_at-spelled w bits v rest read in ap has_one spelled.1 ∙ one_in_number w v rest some spelled.0

-- bits that have a 1 after a number
pub one_after_first : (w v : ℕ) (bits rest : List Bool) → binary_at w bits ≡ taken v rest → has_one rest ≡ true → has_one bits ≡ true
one_after_first w v bits rest read one =
    let spelled = binary_at-spelled w bits v rest read in ap has_one spelled.1 ∙ has_one-after (binary w v) rest one
