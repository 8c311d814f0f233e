-- Sums in lanes are the sums of the values.
use Rattle.std.proofs.Common.{◌≡◌, ℕ, ◌+◌, ◌-◌, ◌*◌, ◌/◌, ◌^◌, ◌≤◌, refl, ap, ◌∙◌, sym, subst, arith, Option, Some, None, List, [], ◌∷◌, length, map, take, drop, get_or}
use Rattle.std.specs.Simd.Lanes.{sum_l, Each1, zip2, fold_l}
use mir.Syntax.{add, unsigned, w32, w64}
use mir.Val.{Fits}
use borrow.Rule.Simd.Lanes.{act2}
use borrow.Table.Row.{s_int}
use Rattle.std.proofs.Math.Seq.{take-add}
use Rattle.std.proofs.lemmas.List.{take_all, take_rest}
use Rattle.std.proofs.lemmas.Nat.{shr_le}
use Rattle.std.proofs.lemmas.Simd.{adds_fit, sum_fits, sum-zip2, fold-sum, length-zip2, zip2_splat, chunk-fits, shifts_fit_splat, widens}
use Rattle.std.proofs.lemmas.List.Sums.{sum_by-cons, sum_by-append, sum_by-take-drop}
use Rattle.aec_params.specs.Blocks.{Block}
use Rattle.aec_params.specs.Places.{placed_values}
use Rattle.aec_params.specs.Spellings.{after_reference, written_values}
use Rattle.aec_block.specs.BlockShape.{IsSound}
use Rattle.aec_block.specs.Lengths.{sum_of_shifted}

-- the lanes of shifted values add up to the sum of the shifted values
pub sum_l-shifted : (k : ℕ) (values : List ℕ) → sum_l (map (λ v. v / 2 ^ k) values) ≡ sum_of_shifted k values
sum_l-shifted k [] = refl
sum_l-shifted k (v ∷ values) =
    let rest = sum_l-shifted k values in
    let added = sum_by-cons (λ (u : ℕ). u / 2 ^ k) v values in
    omega arith

-- values of 32 bits add up to at most 2 ^ 32 times their number
shifted-le : (k : ℕ) (values : List ℕ) → Each1 (Fits w32) values → sum_of_shifted k values ≤ length values * 2 ^ 32
shifted-le k [] fit = omega arith
shifted-le k (v ∷ values) fit =
    let rest = shifted-le k values fit.1 in
    let added = sum_by-cons (λ (u : ℕ). u / 2 ^ k) v values in
    let below = shr_le v k in
    let small = fit.0.fits in
    omega arith

pub eight_shifted-le : (k : ℕ) (values : List ℕ) → length values ≡ 8 → ((i : ℕ) → Fits w32 (get_or values i 0)) → sum_of_shifted k values ≤ 8 * 2 ^ 32
eight_shifted-le k values long fit =
    let P : List ℕ → Type 0 = λ vs. Each1 (Fits w32) vs in
    let each : Each1 (Fits w32) values = subst P (take_all 8 values (omega arith)) (chunk-fits w32 0 8 values fit) in
    omega (arith, shifted-le k values each)

-- a 0 before the values adds nothing
zero_in_front : (k : ℕ) (values : List ℕ) → sum_of_shifted k (0 ∷ values) ≡ sum_of_shifted k values
zero_in_front k values =
    let added = sum_by-cons (λ (u : ℕ). u / 2 ^ k) 0 values in
    let nothing = shr_le 0 k in
    omega arith

-- the reference place adds nothing
by_reference : (k : ℕ) (reference : Option ℕ) (values : List ℕ) → values ≡ placed_values reference (after_reference reference values)
    → sum_of_shifted k values ≡ sum_of_shifted k (after_reference reference values)
by_reference k None values placed = refl
by_reference k (Some r) values placed = ap (sum_of_shifted k) placed ∙ zero_in_front k (after_reference (Some r) values)

pub written-sums : (b : Block) → IsSound b → (k : ℕ) → sum_of_shifted k b.values ≡ sum_of_shifted k (written_values b)
written-sums b sound k = by_reference k b.reference b.values sound.placed

pub ruleset shifts = (chunk-fits, shifts_fit_splat, widens, zip2_splat, take_all, sum_l-shifted, eight_shifted-le)

-- adding lane to lane adds the sums of the lanes; adding up the lanes makes their sum
pub sum_l-added : (xs ys : List ℕ) → length xs ≡ 8 → length ys ≡ 8
    → sum_l (zip2 (act2 (add unsigned) (s_int w64) (s_int w64) (s_int w64)) xs ys) ≡ sum_l xs + sum_l ys
sum_l-added xs ys long_x long_y = sum-zip2 xs ys (long_x ∙ sym long_y)

pub fold_l-added : (xs : List ℕ) → fold_l (act2 (add unsigned) (s_int w64) (s_int w64) (s_int w64)) 0 xs ≡ sum_l xs
fold_l-added xs = omega (arith, fold-sum 0 xs)

pub ruleset additions = (adds_fit, sum_fits, sum_l-added, fold_l-added, length-zip2)

-- with eight more values, their sum is added
pub eight_more : (k i : ℕ) (values : List ℕ)
    → sum_of_shifted k (take (8 * (i + 1)) values)
    ≡ sum_of_shifted k (take (8 * i) values) + sum_of_shifted k (take (8 * i + 8 - 8 * i) (drop (8 * i) values))
eight_more k i values =
    let more : 8 * (i + 1) ≡ 8 * i + 8 = omega arith in
    let eight : 8 * i + 8 - 8 * i ≡ 8 = omega arith in
    rw (more, eight) (ap (sum_of_shifted k) (take-add (8 * i) 8 values)
    ∙ sum_by-append (λ (v : ℕ). v / 2 ^ k) (take (8 * i) values) (take 8 (drop (8 * i) values)))

-- the values that fill lanes and the values after them add up to the sum of all values
pub lanes_and_rest : (k : ℕ) (values : List ℕ)
    → sum_of_shifted k (take (8 * (length values / 8)) values) + sum_of_shifted k (drop (8 * (length values / 8)) values) ≡ sum_of_shifted k values
lanes_and_rest k values = sum_by-take-drop (λ (v : ℕ). v / 2 ^ k) values (8 * (length values / 8))

pub ruleset rests = (take_rest)

pub ruleset joined_sums = (lanes_and_rest)
