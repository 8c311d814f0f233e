-- Where the intervals of samples begin in their code.
use Rattle.std.proofs.Common.{◌≡◌, ℕ, zero, suc, ◌+◌, ◌-◌, ◌*◌, ◌<◌, ◌≤◌, Bool, List, [], ◌∷◌, ◌++◌, length}
use Rattle.std.proofs.Common.{map, take, drop, get_or, ℤ, refl, sym, ap, ◌∙◌, ◌⊎◌, inl, inr, arith, length-append}
use Rattle.std.specs.Int.{div_ceil}
use Rattle.std.specs.List.{flat_map}
use Rattle.std.proofs.Math.Nat.{mul-le-mul_right}
use Rattle.std.proofs.lemmas.Bool.{cases_lt}
use Rattle.std.proofs.lemmas.List.{append-nil, nil_from_length, length-take, take_at, drop_at, take_all, drop_all, take-append-drop, take-take, drop-take}
use Rattle.aec_params.specs.Cutting.{pieces_of}
use Rattle.aec_params.proofs.CuttingLaws.{length-pieces_of, div_ceil-zero, div_ceil-step}
use Rattle.aec_bits.specs.Codec.{Format, code_of}
use Rattle.aec_bits.proofs.CodeLaws.{pieces_of-step, pieces_of-nil, pieces_of-append, code_of-nil, code_of_split}
use Rattle.aec_edit.specs.Workspace.{interval_count, start_of}
use Rattle.aec_params.proofs.CountLaws.{before_end}
use Rattle.aec_edit.specs.Index.{piece_starts, starts_of}

-- ---- pieces

piece_starts-append : (bits_of : List ℤ → List Bool) (place : ℕ) (ps qs : List (List ℤ))
    → piece_starts bits_of place (ps ++ qs) ≡ piece_starts bits_of place ps ++ piece_starts bits_of (place + length (flat_map bits_of ps)) qs
piece_starts-append bits_of place [] qs = ap (λ n. piece_starts bits_of n qs) (let e : place ≡ place + 0 = omega arith in e)
piece_starts-append bits_of place (p ∷ ps) qs =
    let sum : place + length (bits_of p) + length (flat_map bits_of ps) ≡ place + length (bits_of p ++ flat_map bits_of ps) =
    omega (arith, length-append (bits_of p) (flat_map bits_of ps)) in
    ap (λ l. place ∷ l) (piece_starts-append bits_of (place + length (bits_of p)) ps qs
    ∙ ap (λ n. piece_starts bits_of (place + length (bits_of p)) ps ++ piece_starts bits_of n qs) sum)

-- the starts of pieces that are coded from a later place on
piece_starts-add : (bits_of : List ℤ → List Bool) (base place : ℕ) (ps : List (List ℤ))
    → map (λ x. base + x) (piece_starts bits_of place ps) ≡ piece_starts bits_of (base + place) ps
piece_starts-add bits_of base place [] = refl
piece_starts-add bits_of base place (p ∷ ps) =
    let e : base + (place + length (bits_of p)) ≡ base + place + length (bits_of p) = omega arith in
    ap (λ l. (base + place) ∷ l) (piece_starts-add bits_of base (place + length (bits_of p)) ps ∙ ap (λ n. piece_starts bits_of n ps) e)

piece_starts-move : (bits_of : List ℤ → List Bool) (old new by : ℕ) (ps : List (List ℤ))
    → map (λ x. x - old + new) (piece_starts bits_of (old + by) ps) ≡ piece_starts bits_of (new + by) ps
piece_starts-move bits_of old new by [] = refl
piece_starts-move bits_of old new by (p ∷ ps) =
    let first : old + by - old + new ≡ new + by = omega arith in
    let e : old + by + length (bits_of p) ≡ old + (by + length (bits_of p)) = omega arith in
    let d : new + (by + length (bits_of p)) ≡ new + by + length (bits_of p) = omega arith in
    ap (λ n. n ∷ map (λ x. x - old + new) (piece_starts bits_of (old + by + length (bits_of p)) ps)) first
    ∙ ap (λ l. (new + by) ∷ l) (ap (λ n. map (λ x. x - old + new) (piece_starts bits_of n ps)) e
    ∙ piece_starts-move bits_of old new (by + length (bits_of p)) ps ∙ ap (λ n. piece_starts bits_of n ps) d)

length-piece_starts : (bits_of : List ℤ → List Bool) (place : ℕ) (ps : List (List ℤ)) → length (piece_starts bits_of place ps) ≡ length ps
length-piece_starts bits_of place [] = refl
length-piece_starts bits_of place (p ∷ ps) = ap suc (length-piece_starts bits_of (place + length (bits_of p)) ps)

get_or-piece_starts : (bits_of : List ℤ → List Bool) (place : ℕ) (ps : List (List ℤ)) (i d : ℕ) → i < length ps
    → get_or (piece_starts bits_of place ps) i d ≡ place + length (flat_map bits_of (take i ps))
get_or-piece_starts bits_of place [] i d within = absurd (omega arith)
get_or-piece_starts bits_of place (p ∷ ps) zero d within = omega arith
get_or-piece_starts bits_of place (p ∷ ps) (suc i) d within =
    get_or-piece_starts bits_of (place + length (bits_of p)) ps i d (omega arith)
    ∙ omega (arith, length-append (bits_of p) (flat_map bits_of (take i ps)))

-- each start is between the first place and the end of the code
piece_starts-within : (bits_of : List ℤ → List Bool) (place : ℕ) (ps : List (List ℤ)) (i : ℕ) → i < length ps
    → (place ≤ get_or (piece_starts bits_of place ps) i 0) × (get_or (piece_starts bits_of place ps) i 0 ≤ place + length (flat_map bits_of ps))
piece_starts-within bits_of place [] i within = absurd (omega arith)
piece_starts-within bits_of place (p ∷ ps) zero within = (omega arith, omega arith)
piece_starts-within bits_of place (p ∷ ps) (suc i) within =
    let rest = piece_starts-within bits_of (place + length (bits_of p)) ps i (omega arith) in
    let sum = length-append (bits_of p) (flat_map bits_of ps) in
    (omega (arith, rest.0), omega (arith, rest.1))

-- the first i pieces are the pieces of the first i * n elements
take-pieces_of : {X : Type 0} (n i : ℕ) (xs : List X) → 0 < n → take i (pieces_of n xs) ≡ pieces_of n (take (i * n) xs)
take-pieces_of {X} n zero xs h = sym (ap (λ k. pieces_of n (take k xs)) (let e : 0 * n ≡ 0 = omega arith in e) ∙ pieces_of-nil {X = X} n h)
take-pieces_of {X} n (suc i) [] h =
    let none = pieces_of-nil {X = X} n h in
    let front : take (suc i * n) [] ≡ [] = nil_from_length (take (suc i * n) []) (length-take {A = X} (suc i * n) [] ∙ omega arith) in
    rw (front, none) refl
take-pieces_of {X} n (suc i) (x ∷ xs) h =
    let all : List X = x ∷ xs in
    let grown : suc i * n ≡ n + i * n = omega arith in
    let some : 0 < length (take (suc i * n) all) = omega (arith, length-take (suc i * n) all) in
    let front : take n (take (suc i * n) all) ≡ take n all = take-take n (suc i * n) all (omega arith) in
    let rest : drop n (take (suc i * n) all) ≡ take (i * n) (drop n all) = ap (λ k. drop n (take k all)) grown ∙ drop-take n (i * n) all in
    ap (take (suc i)) (pieces_of-step n all h (omega arith))
    ∙ ap (λ l. take n all ∷ l) (take-pieces_of n i (drop n all) h ∙ ap (pieces_of n) (sym rest))
    ∙ ap (λ p. p ∷ pieces_of n (drop n (take (suc i * n) all))) (sym front)
    ∙ sym (pieces_of-step n (take (suc i * n) all) h some)

-- ---- the starts of samples

pub length-starts_of : (f : Format) (place : ℕ) (s : List ℤ) → 1 ≤ f.most → length (starts_of f place s) ≡ interval_count f s
length-starts_of f place s h = length-piece_starts f.bits_of place (pieces_of f.most s) ∙ length-pieces_of f.most s h

-- where an interval begins
pub get_or-starts_of : (f : Format) (place : ℕ) (s : List ℤ) (i d : ℕ) → 1 ≤ f.most → i < interval_count f s
    → get_or (starts_of f place s) i d ≡ place + start_of f s i
get_or-starts_of f place s i d h within =
    get_or-piece_starts f.bits_of place (pieces_of f.most s) i d (omega (arith, length-pieces_of f.most s h))
    ∙ ap (λ ps. place + length (flat_map f.bits_of ps)) (take-pieces_of f.most i s h)

pub starts_of-nil : (f : Format) (place : ℕ) → 1 ≤ f.most → starts_of f place [] ≡ []
starts_of-nil f place h = ap (piece_starts f.bits_of place) (pieces_of-nil f.most h)

pub starts_of-append : (f : Format) (place k : ℕ) (a b : List ℤ) → 1 ≤ f.most → length a ≡ k * f.most
    → starts_of f place (a ++ b) ≡ starts_of f place a ++ starts_of f (place + length (code_of f a)) b
starts_of-append f place k a b h whole =
    ap (piece_starts f.bits_of place) (pieces_of-append f.most k a b h whole)
    ∙ piece_starts-append f.bits_of place (pieces_of f.most a) (pieces_of f.most b)

-- the first interval, and the others
pub starts_of_first : (f : Format) (place : ℕ) (s : List ℤ) → 1 ≤ f.most → 0 < length s
    → starts_of f place s ≡ place ∷ starts_of f (place + length (f.bits_of (take f.most s))) (drop f.most s)
starts_of_first f place s h some = ap (piece_starts f.bits_of place) (pieces_of-step f.most s h some)

pub starts_of-add : (f : Format) (base : ℕ) (s : List ℤ) → map (λ x. base + x) (starts_of f 0 s) ≡ starts_of f base s
starts_of-add f base s =
    let e : base + 0 ≡ base = omega arith in
    piece_starts-add f.bits_of base 0 (pieces_of f.most s) ∙ ap (λ n. starts_of f n s) e

pub starts_of-move : (f : Format) (old new : ℕ) (s : List ℤ) → map (λ x. x - old + new) (starts_of f old s) ≡ starts_of f new s
starts_of-move f old new s =
    let d : old ≡ old + 0 = omega arith in
    let e : new + 0 ≡ new = omega arith in
    ap (λ n. map (λ x. x - old + new) (starts_of f n s)) d ∙ piece_starts-move f.bits_of old new 0 (pieces_of f.most s) ∙ ap (λ n. starts_of f n s) e

pub starts_of-within : (f : Format) (place : ℕ) (s : List ℤ) (i : ℕ) → 1 ≤ f.most → i < interval_count f s
    → (place ≤ get_or (starts_of f place s) i 0) × (get_or (starts_of f place s) i 0 ≤ place + length (code_of f s))
starts_of-within f place s i h within = piece_starts-within f.bits_of place (pieces_of f.most s) i (omega (arith, length-pieces_of f.most s h))

-- ---- cut at an interval

-- k intervals reach the end of the samples, or end within them
pub ends_within : (n k len : ℕ) → (len ≤ k * n) ⊎ (k * n ≤ len)
ends_within n k len = elim (cases_lt (k * n) len) [ inl a ↦ inr (omega arith) | inr b ↦ inl b ]

pub code_of-cut : (f : Format) (k : ℕ) (s : List ℤ) → 1 ≤ f.most
    → code_of f s ≡ code_of f (take (k * f.most) s) ++ code_of f (drop (k * f.most) s)
code_of-cut f k s h =
    elim (ends_within f.most k (length s)) [
      | inl past ↦ rw (take_all (k * f.most) s past, drop_all (k * f.most) s past, code_of-nil f h) (sym (append-nil (code_of f s)))
      | inr within ↦ code_of_split f k s h within
    ]

pub starts_of-cut : (f : Format) (place k : ℕ) (s : List ℤ) → 1 ≤ f.most
    → starts_of f place s ≡ starts_of f place (take (k * f.most) s) ++ starts_of f (place + start_of f s k) (drop (k * f.most) s)
starts_of-cut f place k s h =
    elim (ends_within f.most k (length s)) [
      | inl past ↦
          ap (starts_of f place) (sym (take_all (k * f.most) s past)) ∙ sym (append-nil (starts_of f place (take (k * f.most) s)))
          ∙ ap (λ l. starts_of f place (take (k * f.most) s) ++ l)
          (sym (ap (starts_of f (place + start_of f s k)) (drop_all (k * f.most) s past) ∙ starts_of-nil f (place + start_of f s k) h))
      | inr within ↦
          ap (starts_of f place) (sym (take-append-drop (k * f.most) s))
          ∙ starts_of-append f place k (take (k * f.most) s) (drop (k * f.most) s) h (omega (arith, length-take (k * f.most) s))
    ]

-- the code before interval k, and from there on
pub take-code_of : (f : Format) (k : ℕ) (s : List ℤ) → 1 ≤ f.most → take (start_of f s k) (code_of f s) ≡ code_of f (take (k * f.most) s)
take-code_of f k s h = ap (take (start_of f s k)) (code_of-cut f k s h)
    ∙ take_at (code_of f (take (k * f.most) s)) (code_of f (drop (k * f.most) s)) (start_of f s k) refl

pub drop-code_of : (f : Format) (k : ℕ) (s : List ℤ) → 1 ≤ f.most → drop (start_of f s k) (code_of f s) ≡ code_of f (drop (k * f.most) s)
drop-code_of f k s h = ap (drop (start_of f s k)) (code_of-cut f k s h)
    ∙ drop_at (code_of f (take (k * f.most) s)) (code_of f (drop (k * f.most) s)) (start_of f s k) refl

pub start_of-le : (f : Format) (k : ℕ) (s : List ℤ) → 1 ≤ f.most → start_of f s k ≤ length (code_of f s)
start_of-le f k s h =
    let e = ap length (code_of-cut f k s h) ∙ length-append (code_of f (take (k * f.most) s)) (code_of f (drop (k * f.most) s)) in omega arith

-- k whole intervals are k intervals
pub whole_count : (n k : ℕ) → 0 < n → div_ceil (k * n) n ≡ k
whole_count n zero h = ap (λ m. div_ceil m n) (let e : 0 * n ≡ 0 = omega arith in e) ∙ div_ceil-zero n h
whole_count n (suc k) h =
    let some : 0 < suc k * n = omega arith in
    let less : suc k * n - n ≡ k * n = omega arith in
    div_ceil-step (suc k * n) n h some ∙ ap suc (ap (λ m. div_ceil m n) less ∙ whole_count n k h)

-- a later interval doesn't begin earlier
pub start_of-mono : (f : Format) (i j : ℕ) (s : List ℤ) → 1 ≤ f.most → i ≤ j → start_of f s i ≤ start_of f s j
start_of-mono f i j s h order =
    let front : take (i * f.most) (take (j * f.most) s) ≡ take (i * f.most) s = take-take (i * f.most) (j * f.most) s (mul-le-mul_right f.most order) in
    let within = start_of-le f i (take (j * f.most) s) h in
    omega (arith, ap (λ l. length (code_of f l)) front)

-- the first k intervals have k starts
pub starts_of-front : (f : Format) (place k : ℕ) (s : List ℤ) → 1 ≤ f.most → k ≤ interval_count f s → length (starts_of f place (take (k * f.most) s)) ≡ k
starts_of-front f place k s h within =
    length-starts_of f place (take (k * f.most) s) h
    ∙ elim (ends_within f.most k (length s)) as (λ _. div_ceil (length (take (k * f.most) s)) f.most ≡ k) [
      | inl past ↦
          ap (λ l. div_ceil (length l) f.most) (take_all (k * f.most) s past)
          ∙ elim (cases_lt k (div_ceil (length s) f.most)) as (λ _. div_ceil (length s) f.most ≡ k) [
            | inl less ↦ absurd (omega (arith, before_end k (length s) f.most h less))
            | inr all ↦ omega arith
          ]
      | inr inside ↦ ap (λ n. div_ceil n f.most) (let e : length (take (k * f.most) s) ≡ k * f.most = omega (arith, length-take (k * f.most) s) in e)
          ∙ whole_count f.most k h
    ]

pub take-starts_of : (f : Format) (k : ℕ) (s : List ℤ) → 1 ≤ f.most → k ≤ interval_count f s → take k (starts_of f 0 s) ≡ starts_of f 0 (take (k * f.most) s)
take-starts_of f k s h within =
    ap (take k) (starts_of-cut f 0 k s h)
    ∙ take_at (starts_of f 0 (take (k * f.most) s)) (starts_of f (0 + start_of f s k) (drop (k * f.most) s)) k (starts_of-front f 0 k s h within)

pub drop-starts_of : (f : Format) (k : ℕ) (s : List ℤ) → 1 ≤ f.most → k ≤ interval_count f s
    → drop k (starts_of f 0 s) ≡ starts_of f (start_of f s k) (drop (k * f.most) s)
drop-starts_of f k s h within =
    let e : 0 + start_of f s k ≡ start_of f s k = omega arith in
    ap (drop k) (starts_of-cut f 0 k s h)
    ∙ drop_at (starts_of f 0 (take (k * f.most) s)) (starts_of f (0 + start_of f s k) (drop (k * f.most) s)) k (starts_of-front f 0 k s h within)
    ∙ ap (λ n. starts_of f n (drop (k * f.most) s)) e
