-- Samples cut at the end of a block: the block of the front, and the blocks of the rest.
use Rattle.std.proofs.Common.{◌≡◌, ℕ, zero, suc, ◌+◌, ◌*◌, ◌%◌, ◌<◌, ◌≤◌, Option, Some, None, ℤ, List, [], ◌∷◌, ◌++◌, length, map, replicate, refl, sym, ap, ◌∙◌, arith}
use Rattle.std.specs.Prelude.{if◌then◌else◌}
use Rattle.std.specs.List.{last_or}
use Rattle.std.proofs.Math.Nat.{add-mod_right, mod_self, mul-mod_left, one-mul, sub-zero}
use Rattle.std.proofs.lemmas.List.{append_assoc, append-nil, length-append}
use Rattle.aec_params.specs.declared.settings.Settings.{Settings}
use Rattle.aec_params.specs.Params.{sample_pattern}
use Rattle.aec_params.specs.Cutting.{up_to_multiple}
use Rattle.aec_params.specs.Blocks.{filled_samples, with_reference}
use Rattle.aec_block.proofs.ListMappingLemmas.{last_or-append}
use Rattle.aec_interval.specs.Chunks.{values_after, reference_after, block_after, blocks_after}
use Rattle.aec_interval.proofs.CuttingLemmas.{IsPieceBefore, pieces_of-nil, pieces_of-cons, div_ceil-one}
use Rattle.aec_interval.proofs.BlockLemmas.{length-mapped_after, length-mapped_values, length-filled_samples}

-- ---- the last sample

pub last_or-some : {X : Type 0} (x : X) (xs : List X) → (y : X) × (last_or (Some x) xs ≡ Some y)
last_or-some x [] = (x, refl)
last_or-some x (y ∷ xs) = last_or-some y xs

-- ---- filling

pub filled_samples-nil : (s : Settings) → 0 < s.block_size → filled_samples s [] ≡ []
filled_samples-nil s h = grind arith

-- whole blocks get no filler
pub filled_samples-whole : (s : Settings) (v : List ℤ) → 0 < s.block_size → (k : ℕ) → length v ≡ k * s.block_size → filled_samples s v ≡ v
filled_samples-whole s v positive k whole = rw (none, append-nil)
  where
    even : length v % s.block_size ≡ 0
    even = rw (whole, mul-mod_left)

    none : up_to_multiple s.block_size (length v) ≡ 0
    none = rw (even, sub-zero, mod_self)

up_to_multiple-add : (n m : ℕ) → up_to_multiple n (n + m) ≡ up_to_multiple n m
up_to_multiple-add n m =
    let e : n + m ≡ m + n = omega arith in
    rw (e, add-mod_right)

pub filled_samples-append : (s : Settings) (front rest : List ℤ) → 0 < s.block_size → IsPieceBefore s.block_size front rest
    → filled_samples s (front ++ rest) ≡ filled_samples s front ++ filled_samples s rest
filled_samples-append s front [] h piece = rw (append-nil, filled_samples-nil, append-nil)
filled_samples-append s front (y ∷ rest) h piece =
    let whole : length front ≡ s.block_size = piece.full (omega arith) in
    let last : last_or None (front ++ y ∷ rest) ≡ last_or (Some y) rest = last_or-append None front (y ∷ rest) in
    let missing : up_to_multiple s.block_size (length (front ++ y ∷ rest)) ≡ up_to_multiple s.block_size (length (y ∷ rest)) =
    rw (length-append, whole, up_to_multiple-add) in
    rw (missing, last, append_assoc, filled_samples-whole s front h 1 (whole ∙ sym (one-mul s.block_size)))

pub last_or-replicate : (y : ℤ) (n : ℕ) → last_or (Some y) (replicate n y) ≡ Some y
last_or-replicate y zero = refl
last_or-replicate y (suc n) = last_or-replicate y n

-- with the filler the last sample stays the same
last_or-filled : (s : Settings) (o : Option ℤ) (x : ℤ) (xs : List ℤ) → last_or o (filled_samples s (x ∷ xs)) ≡ last_or o (x ∷ xs)
last_or-filled s o x xs =
    let last = last_or-some x xs in
    rw (last_or-append, last.1, last_or-replicate)

-- one block is filled up to J samples
pub length-filled_block : (s : Settings) (v : List ℤ) → 0 < length v → length v ≤ s.block_size → length (filled_samples s v) ≡ s.block_size
length-filled_block s v some few = grind (arith, div_ceil-one, length-filled_samples)

-- ---- values

pub values_after-append : (s : Settings) (o : Option ℤ) (xs ys : List ℤ) → values_after s o (xs ++ ys) ≡ values_after s o xs ++ values_after s (last_or o xs) ys
values_after-append s None [] ys = refl
values_after-append s (Some p) [] ys = refl
values_after-append s None (x ∷ xs) ys = ap (λ l. (if s.preprocess then 0 else sample_pattern s x) ∷ l) (values_after-append s (Some x) xs ys)
values_after-append s (Some p) (x ∷ xs) ys = rw (values_after-append s (Some x) xs)

pub length-values_after : (s : Settings) (o : Option ℤ) (v : List ℤ) → length (values_after s o v) ≡ length v
length-values_after s None v = length-mapped_values s v
length-values_after s (Some p) v = length-mapped_after s p v

-- ---- blocks

no_values : (s : Settings) (o : Option ℤ) → values_after s o [] ≡ []
no_values s None = refl
no_values s (Some p) = refl

pub blocks_after-nil : (s : Settings) (o : Option ℤ) → 0 < s.block_size → blocks_after s o [] ≡ []
blocks_after-nil s o h = rw (filled_samples-nil, no_values, pieces_of-nil)

reference_after-some : (s : Settings) (x : ℤ) (xs rest : List ℤ) → reference_after s (last_or (Some x) xs) rest ≡ None
reference_after-some s x xs rest = rw (last_or-some x xs).1

reference_after-front : (s : Settings) (o : Option ℤ) (x : ℤ) (xs ys : List ℤ) → reference_after s o (x ∷ xs) ≡ reference_after s o (x ∷ ys)
reference_after-front s None x xs ys = refl
reference_after-front s (Some p) x xs ys = refl

with_no_reference : (groups : List (List ℕ)) → map (λ values. record { reference = None; values = values }) groups ≡ with_reference None groups
with_no_reference [] = refl
with_no_reference (g ∷ groups) = refl

-- the first block, and the blocks after it
pub blocks_after-cons : (s : Settings) (o : Option ℤ) (front rest : List ℤ) → 0 < s.block_size → IsPieceBefore s.block_size front rest
    → blocks_after s o (front ++ rest) ≡ block_after s o front ∷ blocks_after s (last_or o front) rest
blocks_after-cons s o [] rest h piece = absurd (omega arith)
blocks_after-cons s o (x ∷ xs) rest h piece =
    rw (
      reference_after-front s o x (xs ++ rest) xs,
      values,
      pieces_of-cons s.block_size first later one,
      with_no_reference,
      reference_after-some s x xs,
    )
  where
    front : List ℤ
    front = x ∷ xs

    first : List ℕ
    first = values_after s o (filled_samples s front)

    later : List ℕ
    later = values_after s (last_or o front) (filled_samples s rest)

    values : values_after s o (filled_samples s (front ++ rest)) ≡ first ++ later
    values = rw (filled_samples-append, values_after-append, last_or-filled)

    len : length first ≡ s.block_size
    len = length-values_after s o (filled_samples s front) ∙ length-filled_block s front piece.some piece.fits

    one : IsPieceBefore s.block_size first later
    one = record { some = omega (arith, len); fits = omega (arith, len); full = λ _. len }
