-- Lists of blocks that fit at their places, joined and split.
use Rattle.std.proofs.Common.{◌≡◌, ℕ, suc, ◌+◌, List, [], ◌∷◌, ◌++◌, length, sym, subst, arith}
use Rattle.std.proofs.Math.Nat.{add-mod_right}
use Rattle.aec_params.specs.declared.settings.Settings.{Settings}
use Rattle.aec_params.specs.Blocks.{Block}
use Rattle.aec_params.specs.BlockShapes.{IsBlockAt, AreBlocksFrom}

-- ---- the places of blocks

pub AreBlocksFrom-append : (s : Settings) (i : ℕ) (xs ys : List Block)
    → AreBlocksFrom s i xs → AreBlocksFrom s (i + length xs) ys → AreBlocksFrom s i (xs ++ ys)
AreBlocksFrom-append s i [] ys h k = let e : i + 0 ≡ i = omega arith in subst (λ (t : ℕ). AreBlocksFrom s t ys) e k
AreBlocksFrom-append s i (x ∷ xs) ys h k =
    let e : i + suc (length xs) ≡ i + 1 + length xs = omega arith in
    (h.0, AreBlocksFrom-append s (i + 1) xs ys h.1 (subst (λ (t : ℕ). AreBlocksFrom s t ys) e k))

pub AreBlocksFrom-front : (s : Settings) (i : ℕ) (xs ys : List Block) → AreBlocksFrom s i (xs ++ ys) → AreBlocksFrom s i xs
AreBlocksFrom-front s i [] ys h = tt
AreBlocksFrom-front s i (x ∷ xs) ys h = (h.0, AreBlocksFrom-front s (i + 1) xs ys h.1)

pub AreBlocksFrom-back : (s : Settings) (i : ℕ) (xs ys : List Block) → AreBlocksFrom s i (xs ++ ys) → AreBlocksFrom s (i + length xs) ys
AreBlocksFrom-back s i [] ys h = let e : i ≡ i + 0 = omega arith in subst (λ (t : ℕ). AreBlocksFrom s t ys) e h
AreBlocksFrom-back s i (x ∷ xs) ys h =
    let e : i + 1 + length xs ≡ i + suc (length xs) = omega arith in
    subst (λ (t : ℕ). AreBlocksFrom s t ys) e (AreBlocksFrom-back s (i + 1) xs ys h.1)

-- blocks that fit one interval later also fit here
pub AreBlocksFrom-interval : (s : Settings) (i : ℕ) (xs : List Block) → AreBlocksFrom s (i + s.interval) xs → AreBlocksFrom s i xs
AreBlocksFrom-interval s i [] h = tt
AreBlocksFrom-interval s i (x ∷ xs) h =
    let e : i + s.interval + 1 ≡ i + 1 + s.interval = omega arith in (
      subst (λ (t : ℕ). IsBlockAt s t x) (add-mod_right i s.interval) h.0,
      AreBlocksFrom-interval s (i + 1) xs (subst (λ (t : ℕ). AreBlocksFrom s t xs) e h.1),
    )

pub AreBlocksFrom-later : (s : Settings) (i : ℕ) (xs : List Block) → AreBlocksFrom s i xs → AreBlocksFrom s (i + s.interval) xs
AreBlocksFrom-later s i [] h = tt
AreBlocksFrom-later s i (x ∷ xs) h =
    let e : i + 1 + s.interval ≡ i + s.interval + 1 = omega arith in (
      subst (λ (t : ℕ). IsBlockAt s t x) (sym (add-mod_right i s.interval)) h.0,
      subst (λ (t : ℕ). AreBlocksFrom s t xs) e (AreBlocksFrom-later s (i + 1) xs h.1),
    )
