-- If samples gain one block, their blocks are the old ones and the new one.
use Rattle.std.proofs.Common.{◌≡◌, ℕ, zero, suc, ◌+◌, ◌-◌, ◌*◌, ◌<◌, ◌≤◌, Option, None, ℤ, List, [], ◌∷◌, ◌++◌, length, sym, append-nil, append_assoc, ◌∙◌, arith, ⊎_elim}
use Rattle.std.proofs.lemmas.List.{length-append}
use Rattle.std.proofs.lemmas.Bool.{cases_lt, ne_eqb}
use Rattle.aec_params.specs.declared.settings.Settings.{Settings}
use Rattle.aec_params.specs.Params.{interval_len}
use Rattle.aec_params.specs.Cutting.{pieces_of}
use Rattle.aec_params.specs.Mapping.{mapped_after, mapped_values}
use Rattle.aec_params.specs.Blocks.{Block, reference_of, with_reference, blocks_of, all_blocks_of}
use Rattle.aec_block.proofs.ListMappingLemmas.{last_or-append, mapped_after-append}
use Rattle.aec_interval.specs.NextBlock.{last_sample, next_block_of}
use Rattle.std.proofs.lemmas.List.{map-append}
use Rattle.std.proofs.Math.Nat.{mod_self, mod-eq_of_lt, add-mod_left, one-mul, mul-pos, mul-le-mul_right, le-mul_of_pos_right, mul_comm, mul-sub}
use Rattle.aec_interval.proofs.BlockLemmas.{length-mapped_after, length-mapped_values}
use Rattle.aec_interval.proofs.ChunkLemmas.{filled_samples-whole}
use Rattle.aec_interval.proofs.StreamLemmas.{all_blocks_of-cons, all_blocks_of-one}
use Rattle.aec_interval.proofs.CuttingLemmas.{pieces_of-nil, pieces_of-cons, pieces_of-one, IsPieceBefore, by_pieces, length-pieces_of, div_ceil-positive}

pub mapped_values-append : (s : Settings) (x : ℤ) (xs ys : List ℤ)
    → mapped_values s ((x ∷ xs) ++ ys) ≡ mapped_values s (x ∷ xs) ++ mapped_after s (last_sample (x ∷ xs)) ys
mapped_values-append s x xs ys = rw (mapped_after-append s x xs)

-- if a list has k * n elements, its first piece has n, and the rest a multiple of n
pub front_full : (n a b k : ℕ) → 0 < n → a ≤ n → 0 < a → (0 < b → a ≡ n) → a + b ≡ k * n → (a ≡ n) × ((j : ℕ) × (b ≡ j * n))
front_full n a b zero positive fits some full whole = absurd (omega arith)
front_full n a b (suc k) positive fits some full whole = (is_full, (k, omega (arith, is_full)))
  where
    is_full : a ≡ n
    is_full = ⊎_elim full (λ l. omega arith) (cases_lt 0 b)

pub with_reference-push : (reference : Option ℕ) (groups : List (List ℕ)) (values : List ℕ) → 0 < length groups
    → with_reference reference (groups ++ values ∷ []) ≡ with_reference reference groups ++ (record { reference = None; values = values }) ∷ []
with_reference-push reference [] values some = absurd (omega arith)
with_reference-push reference (first ∷ groups) values some =
    let block : List ℕ → Block = λ values. record { reference = None; values = values } in
    rw (map-append block groups)

-- one piece more after whole pieces
pub pieces_of-push : {X : Type 0} (n : ℕ) → 0 < n → (xs ys : List X) (k : ℕ) → length xs ≡ k * n → length ys ≡ n
    → pieces_of n (xs ++ ys) ≡ pieces_of n xs ++ ys ∷ []
pieces_of-push {X} n positive xs ys k whole last = by_pieces P n positive nothing step xs k whole
  where
    P : List X → Type 0
    P xs = (k : ℕ) → length xs ≡ k * n → pieces_of n (xs ++ ys) ≡ pieces_of n xs ++ ys ∷ []

    nothing : P []
    nothing k h = rw (pieces_of-one n ys (omega arith) (omega arith), pieces_of-nil)

    step : (front rest : List X) → IsPieceBefore n front rest → P rest → P (front ++ rest)
    step front rest piece ih k h =
        let parts = front_full n (length front) (length rest) k positive piece.fits piece.some piece.full (sym (length-append front rest) ∙ h) in
        rw (
          append_assoc,
          pieces_of-cons n front (rest ++ ys) (record { some = piece.some; fits = piece.fits; full = λ _. parts.0 }),
          ih parts.1.0 parts.1.1,
          pieces_of-cons,
        )

pub pieces_of-some : {X : Type 0} (n : ℕ) (xs : List X) → 0 < n → 0 < length xs → 0 < length (pieces_of n xs)
pieces_of-some n xs positive some = omega (arith, length-pieces_of, div_ceil-positive)

-- one block more after whole blocks of one interval
pub blocks_of-push : (s : Settings) (v ys : List ℤ) (k : ℕ) → 0 < s.block_size → 0 < length v → length v ≡ k * s.block_size → length ys ≡ s.block_size
    → blocks_of s (v ++ ys) ≡ blocks_of s v ++ (record { reference = None; values = mapped_after s (last_sample v) ys }) ∷ []
blocks_of-push s [] ys k positive some whole last = absurd (omega arith)
blocks_of-push s (x ∷ v) ys k positive some whole last =
    cc (
      filled_samples-whole s ((x ∷ v) ++ ys) positive (suc k) (omega (arith, length-append (x ∷ v) ys)),
      mapped_values-append s x v ys,
      pieces_of-push s.block_size positive (mapped_values s (x ∷ v)) (mapped_after s (last_sample (x ∷ v)) ys) k
          (length-mapped_values s (x ∷ v) ∙ whole) (length-mapped_after s _ ys ∙ last),
      with_reference-push (reference_of s (x ∷ v)) (pieces_of s.block_size (mapped_values s (x ∷ v))) (mapped_after s (last_sample (x ∷ v)) ys)
          (pieces_of-some s.block_size (mapped_values s (x ∷ v)) positive (omega arith)),
      filled_samples-whole s (x ∷ v) positive k whole,
    )

-- one block by itself
pub blocks_of-one : (s : Settings) (ys : List ℤ) → 0 < s.block_size → length ys ≡ s.block_size
    → blocks_of s ys ≡ (record { reference = reference_of s ys; values = mapped_values s ys }) ∷ []
blocks_of-one s ys positive last =
    rw (
      filled_samples-whole s ys positive 1 (last ∙ sym (one-mul s.block_size)),
      pieces_of-one s.block_size (mapped_values s ys) (omega (arith, length-mapped_values)) (omega (arith, length-mapped_values)),
    )

-- ---- all intervals

pub all_blocks_of-nil : (s : Settings) → 0 < interval_len s → all_blocks_of s [] ≡ []
all_blocks_of-nil s positive = rw pieces_of-nil

pub last_sample-append : (xs ys : List ℤ) → 0 < length ys → last_sample (xs ++ ys) ≡ last_sample ys
last_sample-append xs [] some = absurd (omega arith)
last_sample-append xs (y ∷ ys) some = rw last_or-append

-- a whole interval before the other samples doesn't change the next block
pub next_block_of-rest : (s : Settings) (front rest ys : List ℤ) → 0 < interval_len s → length front ≡ interval_len s
    → next_block_of s (front ++ rest) ys ≡ next_block_of s rest ys
next_block_of-rest s front [] ys positive full = rw (append-nil, full, mod_self, mod-eq_of_lt)
next_block_of-rest s front (x ∷ rest) ys positive full = rw (length-append, full, add-mod_left, last_sample-append front (x ∷ rest) (omega arith))

-- the next block at the start of an interval, and within one
pub next_block_of-first : (s : Settings) (ys : List ℤ) → 0 < interval_len s
    → next_block_of s [] ys ≡ record { reference = reference_of s ys; values = mapped_values s ys }
next_block_of-first s ys positive = rw mod-eq_of_lt

pub next_block_of-later : (s : Settings) (v ys : List ℤ) → 0 < length v → length v < interval_len s
    → next_block_of s v ys ≡ record { reference = None; values = mapped_after s (last_sample v) ys }
next_block_of-later s v ys some within = rw (mod-eq_of_lt, ne_eqb (length v) 0 (λ e. absurd (omega arith)))

-- after a whole interval, whole blocks are left; and an interval that isn't full has room for one
-- block more
rest_whole : (j r k a b : ℕ) → a ≡ j * r → a + b ≡ k * j → b ≡ (k - r) * j
rest_whole j r k a b is_full whole = omega (arith, mul-sub, mul_comm)

one_more_fits : (j r k a : ℕ) → a ≡ k * j → a < j * r → a + j ≤ j * r
one_more_fits j r k a whole short = ⊎_elim (λ below. grind arith) (λ past. absurd (omega (arith, mul-le-mul_right j past))) (cases_lt k r)

-- one block more after whole blocks
pub all_blocks_of-push : (s : Settings) (xs ys : List ℤ) (k : ℕ) → 0 < s.block_size → 0 < s.interval → length xs ≡ k * s.block_size → length ys ≡ s.block_size
    → all_blocks_of s (xs ++ ys) ≡ all_blocks_of s xs ++ next_block_of s xs ys ∷ []
all_blocks_of-push s xs ys k block interval whole last = by_pieces P (interval_len s) positive nothing step xs k whole
  where
    positive : 0 < interval_len s
    positive = mul-pos block interval

    P : List ℤ → Type 0
    P xs = (k : ℕ) → length xs ≡ k * s.block_size → all_blocks_of s (xs ++ ys) ≡ all_blocks_of s xs ++ next_block_of s xs ys ∷ []

    one_fits : s.block_size ≤ interval_len s
    one_fits = le-mul_of_pos_right s.block_size interval

    nothing : P []
    nothing k h =
        rw (
          all_blocks_of-one s ys (omega arith) (omega (arith, one_fits)),
          blocks_of-one s ys block last,
          next_block_of-first s ys positive,
          all_blocks_of-nil s positive,
        )

    full : (front rest : List ℤ) → IsPieceBefore (interval_len s) front rest → P rest → length front ≡ interval_len s → P (front ++ rest)
    full front rest piece ih is_full k h =
        rw (
          append_assoc front rest ys,
          all_blocks_of-cons s front (rest ++ ys)
              (record { some = piece.some; fits = piece.fits; full = λ _. is_full }),
          ih (k - s.interval) (rest_whole s.block_size s.interval k (length front) (length rest) is_full (sym (length-append front rest) ∙ h)),
          next_block_of-rest s front rest ys positive is_full,
          all_blocks_of-cons s front rest piece,
          append_assoc (blocks_of s front) (all_blocks_of s rest) (next_block_of s rest ys ∷ []),
        )

    within : (front : List ℤ) → 0 < length front → length front < interval_len s → P front
    within front some short k h =
        rw (
          all_blocks_of-one s (front ++ ys) (omega (arith, length-append front ys))
              (omega (arith, length-append front ys, one_more_fits s.block_size s.interval k (length front) h short)),
          blocks_of-push s front ys k block some h last,
          next_block_of-later s front ys some short,
          all_blocks_of-one s front some (omega arith),
        )

    step : (front rest : List ℤ) → IsPieceBefore (interval_len s) front rest → P rest → P (front ++ rest)
    step front rest piece ih = ⊎_elim (λ short. alone rest piece short) (λ l. full front rest piece ih (omega (arith, piece.fits, l)))
        (cases_lt (length front) (interval_len s))
      where
        alone : (rest : List ℤ) → IsPieceBefore (interval_len s) front rest → length front < interval_len s → P (front ++ rest)
        alone [] piece short = rw (append-nil front) (within front piece.some short)
        alone (x ∷ rest) piece short = absurd (omega (arith, piece.full (omega arith)))
