-- Lists cut into pieces: one piece before the others, an induction over the pieces, and whole
-- multiples.
use Rattle.std.proofs.Common.{◌≡◌, ℕ, zero, suc, ◌+◌, ◌-◌, ◌*◌, ◌%◌, ◌<◌, ◌≤◌, List, [], ◌∷◌, ◌++◌, length, take, drop, refl, append-nil, arith, ⊎_elim}
use Rattle.std.proofs.Math.Nat.{mul-div_cancel, mul-mod_left}
use Rattle.std.proofs.lemmas.List.{take_at, drop_at, take-append-drop, length-take, length-drop, length-append, take_all, drop_all}
pub use Rattle.std.proofs.lemmas.Grind.{div_ceil_times as div_ceil-bounds}
use Rattle.std.proofs.lemmas.Bool.{cases_lt}
use Rattle.std.specs.Int.{div_ceil}
use Rattle.std.specs.Simd.{first_chunks}
use Rattle.aec_params.specs.Cutting.{pieces_of, up_to_multiple}
pub use Rattle.aec_params.proofs.CuttingLaws.{div_ceil-zero, div_ceil-step, pieces_of-nil, pieces_of-one}

pub div_ceil-one : (m n : ℕ) → 0 < m → m ≤ n → div_ceil m n ≡ 1
div_ceil-one m n h k = grind arith

pub div_ceil-positive : (m n : ℕ) → 0 < n → 0 < m → 0 < div_ceil m n
div_ceil-positive m n h k = omega (arith, div_ceil-step)

-- the first piece of a list, and what comes after it
take_front : {X : Type 0} (n : ℕ) (front rest : List X) → length front ≤ n → (0 < length rest → length front ≡ n) → take n (front ++ rest) ≡ front
take_front n front [] k full = rw (append-nil, take_all)
take_front n front (x ∷ rest) k full = take_at front (x ∷ rest) n (full (omega arith))

drop_front : {X : Type 0} (n : ℕ) (front rest : List X) → length front ≤ n → (0 < length rest → length front ≡ n) → drop n (front ++ rest) ≡ rest
drop_front n front [] k full = rw (append-nil, drop_all)
drop_front n front (x ∷ rest) k full = drop_at front (x ∷ rest) n (full (omega arith))

-- the premises of one step: a front that is a piece, and what comes after it
pub record IsPieceBefore {X : Type 0} (n : ℕ) (front rest : List X) : Type 0 where
  pub some : 0 < length front
  pub fits : length front ≤ n
  pub full : 0 < length rest → length front ≡ n

-- the first piece of a list that isn't empty
pub first_piece : {X : Type 0} (n : ℕ) (xs : List X) → 0 < n → 0 < length xs → IsPieceBefore n (take n xs) (drop n xs)
first_piece n xs positive some = record {
  some = omega (arith, length-take n xs);
  fits = omega (arith, length-take n xs);
  full = λ more. omega (arith, length-take n xs, length-drop n xs);
}

pub pieces_of-cons : {X : Type 0} (n : ℕ) (front rest : List X) → IsPieceBefore n front rest → pieces_of n (front ++ rest) ≡ front ∷ pieces_of n rest
pieces_of-cons n front rest h = rw (count, take_front n front rest h.fits h.full, drop_front n front rest h.fits h.full)
  where
    left : length (front ++ rest) - n ≡ length rest
    left = ⊎_elim (λ l. omega (arith, length-append front rest)) (λ l. omega (arith, length-append front rest)) (cases_lt 0 (length rest))

    count : div_ceil (length (front ++ rest)) n ≡ suc (div_ceil (length rest) n)
    count = rw (div_ceil-step (length (front ++ rest)) n (omega arith) (omega (arith, length-append front rest)), left)

-- P holds of each list if it holds of the empty list, and of a piece and the rest if it holds of
-- the rest
module _ {X : Type 0} (P : List X → Type 0) (n : ℕ) (positive : 0 < n) (nothing : P [])
    (piece : (front rest : List X) → IsPieceBefore n front rest → P rest → P (front ++ rest)) where
  by_pieces_within : (fuel : ℕ) (xs : List X) → length xs ≤ fuel → P xs
  by_pieces_within fuel [] h = nothing
  by_pieces_within zero (x ∷ xs) h = absurd (omega arith)
  by_pieces_within (suc fuel) (x ∷ xs) h =
      let whole = x ∷ xs in
      rw take-append-drop at (piece (take n whole) (drop n whole) (first_piece n whole positive (omega arith))
      (by_pieces_within fuel (drop n whole) (omega (arith, length-drop n whole))))

  pub by_pieces : (xs : List X) → P xs
  by_pieces xs = by_pieces_within (length xs) xs (omega arith)

pub length-first_chunks : {X : Type 0} (n k : ℕ) (xs : List X) → length (first_chunks n k xs) ≡ k
length-first_chunks n zero xs = refl
length-first_chunks n (suc k) xs = rw (length-first_chunks n k (drop n xs))

pub length-pieces_of : {X : Type 0} (n : ℕ) (xs : List X) → length (pieces_of n xs) ≡ div_ceil (length xs) n
length-pieces_of n xs = length-first_chunks n (div_ceil (length xs) n) xs

-- m, filled up to a multiple of n, is `div_ceil m n` times n
pub up_to_multiple-fills : (n m : ℕ) → 0 < n → m + up_to_multiple n m ≡ div_ceil m n * n
up_to_multiple-fills n m h = ⊎_elim (λ part. grind arith) (λ whole. grind arith) (cases_lt 0 (m % n))

pub div_ceil-times : (k n : ℕ) → 0 < n → div_ceil (k * n) n ≡ k
div_ceil-times k n h = omega (arith, mul-div_cancel, mul-mod_left)
