-- The members of pairs with small numbers.
use Rattle.std.proofs.Common.{◌≡◌, ℕ, zero, suc, ◌+◌, ◌-◌, ◌*◌, ◌<◌, ◌≤◌, Bool, true, false, List, [], ◌∷◌, ◌++◌, length, take, drop, set, refl, sym, ap, ◌∙◌, inl, inr, append_assoc, arith}
use Rattle.std.specs.List.{flat_map}
use Rattle.std.specs.Prelude.{slice_index_or}
use Rattle.std.proofs.lemmas.Bool.{cases_lt, lt-ltb}
use Rattle.std.proofs.lemmas.Grind.{take_at_read}
use Rattle.std.proofs.lemmas.List.{take_all, take_more_set, length-set}
use Rattle.aec_params.specs.Codewords.{fs}
use Rattle.aec_bits.specs.BitReader.{AreBelow, Cursor}
use Rattle.aec_block.specs.ReadAt.{Pair, taken, map_taken, pair_with_number, before_members, members_at}
use Rattle.aec_block.specs.Gathering.{bits_at, all_below, when, members_of_numbers, kept_members, small_members}
use Rattle.aec_block.proofs.CodewordLemmas.{fs_at-fs}
use Rattle.aec_block.proofs.PairLemmas.{triangle, triangle_number}

-- the members of the pair with a number
abbrev pub members_of : ℕ → List ℕ
members_of number = before_members (pair_with_number number) []

-- ---- the members of pairs with given numbers

members-append : (before : List ℕ) (m : ℕ)
    → members_of_numbers (before ++ m ∷ []) ≡ members_of_numbers before ++ before_members (pair_with_number m) []
members-append [] m = refl
members-append (n ∷ before) m = ap (before_members (pair_with_number n)) (members-append before m)

pub members_taken : (numbers : List ℕ) (rest : List Bool)
    → members_at (length numbers) (flat_map fs numbers ++ rest) ≡ taken (members_of_numbers numbers) rest
members_taken [] rest = refl
members_taken (m ∷ numbers) rest =
    rw (append_assoc (fs m) (flat_map fs numbers) rest, fs_at-fs m (flat_map fs numbers ++ rest), members_taken numbers rest) refl

-- a triangle with a side of more than 10 is greater than 63
late : (d n : ℕ) → n ≡ d + 11 → 66 ≤ triangle n
late zero n e = let t : triangle 11 ≡ 66 = refl in rw e (omega (arith, t))
late (suc d) zero e = absurd (omega arith)
late (suc d) (suc n) e = omega (arith, late d n (omega arith))

side : (sum second : ℕ) → triangle sum + second < 64 → sum < 11
side sum second few =
    elim (cases_lt sum 11) [
      | inl less ↦ less
      | inr more ↦ absurd (omega (arith, late (sum - 11) sum (omega arith), few))
    ]

pub members_small : (numbers : List ℕ) → AreBelow 64 numbers → AreBelow 11 (members_of_numbers numbers)
members_small [] small = small
members_small (m ∷ numbers) small =
    let p : Pair = pair_with_number m in
    let sum : p.first + p.second < 11 = side (p.first + p.second) p.second (omega (arith, triangle_number m, small.0)) in
    (omega (arith, sum), (omega (arith, sum), members_small numbers small.1))

-- ---- what is kept of them

pub kept_small : (placed : Bool) (values : List ℕ) → AreBelow 11 values → AreBelow 11 (kept_members placed values)
kept_small false values small = small
kept_small true [] small = (omega arith, small)
kept_small true (v ∷ values) small = (omega arith, small.1)

pub small-below : (limit : ℕ) (values : List ℕ) → 10 < limit → AreBelow 11 values → all_below limit values ≡ true
small-below limit [] past small = refl
small-below limit (v ∷ values) past small =
    rw (lt-ltb v limit (omega (arith, small.0)), small-below limit values past small.1) refl

-- ---- the members written to their places

-- after the members of one more pair were written
pairs_put : (numbers before : List ℕ) (i m : ℕ) → 2 * i + 1 < length before → i < length numbers → m ≡ slice_index_or numbers i 0
    → take (2 * i) before ≡ members_of_numbers (take i numbers)
    → take (2 * (i + 1)) (set (set before (2 * i) (pair_with_number m).first) (2 * i + 1) (pair_with_number m).second)
    ≡ members_of_numbers (take (i + 1) numbers)
pairs_put numbers before i m room within is so_far =
    let p : Pair = pair_with_number m in
    let between : List ℕ = set before (2 * i) p.first in
    let place : 2 * (i + 1) ≡ 2 * i + 1 + 1 = omega arith in
    let one : take (2 * i + 1) between ≡ take (2 * i) before ++ p.first ∷ [] = take_more_set before (2 * i) p.first (omega arith) in
    let two : take (2 * i + 1 + 1) (set between (2 * i + 1) p.second) ≡ take (2 * i + 1) between ++ p.second ∷ [] =
    take_more_set between (2 * i + 1) p.second (omega (arith, length-set before (2 * i) p.first)) in
    let more : take (i + 1) numbers ≡ take i numbers ++ m ∷ [] = (take_at_read numbers i 0 within).1 ∙ ap (λ n. take i numbers ++ n ∷ []) (sym is) in
    ap (λ n. take n (set between (2 * i + 1) p.second)) place
    ∙ (two ∙ (ap (λ l. l ++ p.second ∷ []) (one ∙ ap (λ l. l ++ p.first ∷ []) so_far)
    ∙ (append_assoc (members_of_numbers (take i numbers)) (p.first ∷ []) (p.second ∷ [])
    ∙ (sym (members-append (take i numbers) m) ∙ ap members_of_numbers (sym more)))))

pub row_put : (numbers before row : List ℕ) (i : ℕ) → length before ≡ 2 * length numbers → i < length numbers
    → row ≡ before_members (pair_with_number (slice_index_or numbers i 0)) []
    → take (2 * i) before ≡ members_of_numbers (take i numbers)
    → take (2 * (i + 1)) (set (set before (2 * i) (slice_index_or row 0 0)) (2 * i + 1) (slice_index_or row 1 0))
    ≡ members_of_numbers (take (i + 1) numbers)
row_put numbers before row i room within is so_far =
    rw is (pairs_put numbers before i (slice_index_or numbers i 0) (omega arith) within refl so_far)

pub all_put : (numbers values : List ℕ) (i : ℕ) → length values ≡ 2 * length numbers → length numbers ≤ i
    → take (2 * i) values ≡ members_of_numbers (take i numbers) → values ≡ members_of_numbers numbers
all_put numbers values i room past so_far =
    sym (take_all (2 * i) values (omega arith)) ∙ (so_far ∙ ap members_of_numbers (take_all i numbers past))

-- ---- pairs read at once

pub pairs_read : (limit : ℕ) (placed : Bool) (old new : Cursor) (numbers members values : List ℕ) (n : ℕ) (fit : Bool)
    → drop old.pos old.list ≡ flat_map fs numbers ++ drop new.pos old.list → new.list ≡ old.list → length numbers ≡ n
    → members ≡ members_of_numbers numbers → values ≡ kept_members placed members → fit ≡ all_below limit values
    → map_taken (small_members limit placed) (members_at n (bits_at old)) ≡ taken (when fit values) (bits_at new)
pairs_read limit placed old new numbers members values n fit bits same count put kept test =
    rw (same, ← count, test, kept, put) (ap (λ l. map_taken (small_members limit placed) (members_at (length numbers) l)) bits
    ∙ ap (map_taken (small_members limit placed)) (members_taken numbers (drop new.pos old.list)))

pub length-members : (numbers : List ℕ) → length (members_of_numbers numbers) ≡ 2 * length numbers
length-members [] = refl
length-members (m ∷ numbers) = omega (arith, length-members numbers)
