-- Blocks: each has J values below 2^n. It has a reference sample, and 0 in the reference place,
-- exactly if one is due.
use Rattle.std.proofs.Common.{◌≡◌, ℕ, zero, suc, ◌+◌, ◌-◌, ◌*◌, ◌^◌, ◌<◌, Some, ℤ, pos, List, [], ◌∷◌, ◌++◌, length, replicate, subst, arith, ⊎_elim, ◌≤◌, add-one, mod-eq_of_lt, lt_of_mul-lt-mul_right}
use Rattle.std.specs.Prelude.{⊤, unwrap_or}
use Rattle.std.specs.List.{AllByRecursion, last_or}
use Rattle.std.specs.Int.{div_ceil}
use Rattle.std.proofs.lemmas.List.{length-append, length-replicate}
use Rattle.std.proofs.lemmas.Bool.{cases_lt, cond_both}
use Rattle.std.proofs.lemmas.Nat.{pow_pos}
use Rattle.aec_params.specs.declared.settings.Settings.{Settings}
use Rattle.aec_params.specs.Params.{IsAllowed, IsHeld, interval_len, sample_pattern}
use Rattle.aec_params.specs.Cutting.{pieces_of, up_to_multiple}
use Rattle.aec_params.specs.Mapping.{mapped_after, mapped_values}
use Rattle.aec_params.specs.Blocks.{Block, filled_samples, blocks_of}
use Rattle.aec_params.specs.BlockShapes.{IsBlockAt, AreBlocksFrom}
use Rattle.aec_interval.proofs.CuttingLemmas.{IsPieceBefore, by_pieces, pieces_of-nil, pieces_of-cons, length-pieces_of, up_to_multiple-fills, div_ceil-times, div_ceil-bounds}
pub use Rattle.aec_params.proofs.ListLaws.{all-append, all-front as all_left, all-back as all_right, all-replicate}
pub use Rattle.aec_params.proofs.SampleLaws.{length-mapped_values}
pub use Rattle.aec_block.proofs.ListMappingLemmas.{length-mapped_after}
use Rattle.aec_params.proofs.SampleLaws.{length-with_reference}
use Rattle.aec_params.proofs.ValueLaws.{mapped_value-fits}
use Rattle.aec_params.proofs.PatternLaws.{pattern-fits}
use Rattle.aec_params.proofs.SampleShapeLaws.{blocks_of-shape}
use Rattle.aec_params.proofs.SettingLaws.{block_size-positive}

-- if a list has k * n elements, each of its pieces has n
pub whole_pieces : {X : Type 0} (n : ℕ) → 0 < n → (xs : List X) (k : ℕ) → length xs ≡ k * n → AllByRecursion (λ piece. length piece ≡ n) (pieces_of n xs)
whole_pieces n h = by_pieces (λ xs. (k : ℕ) → length xs ≡ k * n → AllByRecursion (λ piece. length piece ≡ n) (pieces_of n xs)) n h
    (λ k e. rw pieces_of-nil tt)
    (λ front rest piece ih k e. rw pieces_of-cons (let f = full front rest piece k e in (f, ih (k - 1) (less front rest f k e))))
  where
    less : {X : Type 0} (front rest : List X) → length front ≡ n → (k : ℕ) → length (front ++ rest) ≡ k * n → length rest ≡ (k - 1) * n
    less front rest f zero e = omega (arith, length-append front rest)
    less front rest f (suc k) e = grind (arith, length-append)

    full : {X : Type 0} (front rest : List X) → IsPieceBefore n front rest → (k : ℕ) → length (front ++ rest) ≡ k * n → length front ≡ n
    full front rest piece zero e = absurd (omega (arith, length-append front rest))
    full front rest piece (suc k) e = ⊎_elim (λ l. piece.full l) (λ l. omega (arith, length-append front rest)) (cases_lt 0 (length rest))

-- ---- an interval's values

pub last_or-held : {X : Type 0} (P : X → Type 0) (x d : X) (xs : List X) → P x → AllByRecursion P xs → P (unwrap_or (last_or (Some x) xs) d)
last_or-held P x d [] h k = h
last_or-held P x d (y ∷ xs) h k = last_or-held P y d xs k.0 k.1

pub all-mapped_after : (s : Settings) (p : ℤ) (xs : List ℤ) → IsAllowed s → IsHeld s p → AllByRecursion (IsHeld s) xs
    → AllByRecursion (λ v. v < 2 ^ s.bits) (mapped_after s p xs)
all-mapped_after s p [] a h k = tt
all-mapped_after s p (x ∷ xs) a h k = (mapped_value-fits s p x a h k.0, all-mapped_after s x xs a k.0 k.1)

pub all-mapped_values : (s : Settings) (xs : List ℤ) → IsAllowed s → AllByRecursion (IsHeld s) xs
    → AllByRecursion (λ v. v < 2 ^ s.bits) (mapped_values s xs)
all-mapped_values s [] a h = tt
all-mapped_values s (x ∷ xs) a h = (
  cond_both s.preprocess 0 (sample_pattern s x) (λ v. v < 2 ^ s.bits) (λ _. pow_pos s.bits) (λ _. pattern-fits s x a h.0),
  all-mapped_after s x xs a h.0 h.1,
)

pub length-filled_samples : (s : Settings) (v : List ℤ) → 0 < s.block_size → length (filled_samples s v) ≡ div_ceil (length v) s.block_size * s.block_size
length-filled_samples s v h = rw (length-append, length-replicate, up_to_multiple-fills)

pub all-filled_samples : (s : Settings) (x : ℤ) (v : List ℤ) → AllByRecursion (IsHeld s) (x ∷ v) → AllByRecursion (IsHeld s) (filled_samples s (x ∷ v))
all-filled_samples s x v h =
    all-append (IsHeld s) (x ∷ v) (replicate (up_to_multiple s.block_size (length (x ∷ v))) (unwrap_or (last_or (Some x) v) (pos 0))) h
    (all-replicate (IsHeld s) (up_to_multiple s.block_size (length (x ∷ v))) (unwrap_or (last_or (Some x) v) (pos 0))
    (last_or-held (IsHeld s) x (pos 0) v h.0 h.1))

-- ---- blocks

-- blocks from block p of an interval on, each of which can be at its place
abbrev pub AreDueFrom : Settings → ℕ → List Block → Type 0
AreDueFrom s p [] = ⊤
AreDueFrom s p (b ∷ blocks) = IsBlockAt s p b × AreDueFrom s (suc p) blocks

-- blocks of a stream, if they end within the first interval
AreDueFrom-stream : (s : Settings) (p : ℕ) (blocks : List Block) → p + length blocks ≤ s.interval → AreBlocksFrom s p blocks → AreDueFrom s p blocks
AreDueFrom-stream s p [] within h = tt
AreDueFrom-stream s p (b ∷ blocks) within h = (
  subst (λ q. IsBlockAt s q b) (mod-eq_of_lt (omega arith)) h.0,
  AreDueFrom-stream s (suc p) blocks (omega arith) (rw add-one at h.1),
)

-- the number of blocks is the number of samples divided by J, rounded up
pub length-blocks_of : (s : Settings) (v : List ℤ) → IsAllowed s → length (blocks_of s v) ≡ div_ceil (length v) s.block_size
length-blocks_of s v a =
    grind (arith, length-with_reference, length-pieces_of, length-mapped_values, length-filled_samples, div_ceil-times, block_size-positive)

-- no more blocks than an interval has
pub blocks-few : (s : Settings) (v : List ℤ) → IsAllowed s → length v ≤ interval_len s → length (blocks_of s v) ≤ s.interval
blocks-few s v a h =
    let positive = block_size-positive s a in
    let bound = (div_ceil-bounds (length v) s.block_size positive).1 in
    let len = length-blocks_of s v a in
    let k = lt_of_mul-lt-mul_right s.block_size {m = div_ceil (length v) s.block_size} {n = s.interval + 1} (omega arith) in
    omega arith

pub AreDueFrom-blocks_of : (s : Settings) (x : ℤ) (v : List ℤ) → IsAllowed s → AllByRecursion (IsHeld s) (x ∷ v) → length (x ∷ v) ≤ interval_len s
    → AreDueFrom s 0 (blocks_of s (x ∷ v))
AreDueFrom-blocks_of s x v a h few = AreDueFrom-stream s 0 (blocks_of s (x ∷ v)) (omega (arith, blocks-few)) (blocks_of-shape s x v a h few)
