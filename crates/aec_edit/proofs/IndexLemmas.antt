-- A list of numbers that is overwritten, one number after the other.
use Rattle.std.proofs.Common.{◌≡◌, ℕ, suc, ◌+◌, ◌-◌, ◌<◌, ◌≤◌, List, [], ◌∷◌, ◌++◌, length, map, take, drop, replicate, get_or, set, refl, sym, ap, ◌∙◌, arith, append_assoc, length-append}
use Rattle.std.proofs.lemmas.List.{length-take, length-drop, length-map, length-replicate, drop_more, take_more, take-take, take-append-le, take_at, drop_at, take-append-drop, get_or-drop, map-append, set_at, get_or_at}

-- the list s with the numbers ws in it, from index `at` on
abbrev pub written_over : List ℕ → ℕ → List ℕ → List ℕ
written_over s at ws = take at s ++ (ws ++ drop (at + length ws) s)

-- the next number to overwrite is still the old one
next_there : (s : List ℕ) (at : ℕ) (ws : List ℕ) (d : ℕ) → at + length ws < length s
    → written_over s at ws ≡ (take at s ++ ws) ++ get_or s (at + length ws) d ∷ drop (at + length ws + 1) s
next_there s at ws d within =
    sym (append_assoc (take at s) ws (drop (at + length ws) s)) ∙ ap (λ l. (take at s ++ ws) ++ l) (drop_more s (at + length ws) d within)

front_length : (s : List ℕ) (at : ℕ) (ws : List ℕ) → at + length ws < length s → length (take at s ++ ws) ≡ at + length ws
front_length s at ws within = length-append (take at s) ws ∙ omega (arith, length-take at s)

pub get_or-written_over : (s : List ℕ) (at : ℕ) (ws : List ℕ) (d : ℕ) → at + length ws < length s
    → get_or (written_over s at ws) (at + length ws) d ≡ get_or s (at + length ws) d
get_or-written_over s at ws d within =
    ap (λ l. get_or l (at + length ws) d) (next_there s at ws d within)
    ∙ get_or_at (take at s ++ ws) (get_or s (at + length ws) d) (drop (at + length ws + 1) s) d (at + length ws) (front_length s at ws within)

pub set-written_over : (s : List ℕ) (at : ℕ) (ws : List ℕ) (y : ℕ) → at + length ws < length s
    → set (written_over s at ws) (at + length ws) y ≡ written_over s at (ws ++ y ∷ [])
set-written_over s at ws y within =
    let next : at + length ws + 1 ≡ at + length (ws ++ y ∷ []) = omega (arith, length-append ws (y ∷ [])) in
    ap (λ l. set l (at + length ws) y) (next_there s at ws 0 within)
    ∙ set_at (take at s ++ ws) (get_or s (at + length ws) 0) (drop (at + length ws + 1) s) y (at + length ws) (front_length s at ws within)
    ∙ append_assoc (take at s) ws (y ∷ drop (at + length ws + 1) s)
    ∙ ap (λ l. take at s ++ l) (sym (append_assoc ws (y ∷ []) (drop (at + length ws + 1) s)) ∙ ap (λ n. (ws ++ y ∷ []) ++ drop n s) next)

-- one more number is changed by h
pub map_more : (h : ℕ → ℕ) (xs : List ℕ) (i d : ℕ) → i < length xs → map h (take (i + 1) xs) ≡ map h (take i xs) ++ h (get_or xs i d) ∷ []
map_more h xs i d within = ap (map h) (take_more xs i d within) ∙ map-append h (take i xs) (get_or xs i d ∷ [])

pub length-mapped : (h : ℕ → ℕ) (xs : List ℕ) (i : ℕ) → i ≤ length xs → length (map h (take i xs)) ≡ i
length-mapped h xs i within = length-map (take i xs) h ∙ omega (arith, length-take i xs)

-- one more number is changed by h and written, at index j
pub over_more : (h : ℕ → ℕ) (s xs l : List ℕ) (at i j y : ℕ) → i < length xs → at + i < length s → j ≡ at + i
    → l ≡ written_over s at (map h (take i xs)) → y ≡ h (get_or xs i 0) → set l j y ≡ written_over s at (map h (take (i + 1) xs))
over_more h s xs l at i j y within inside here so_far value =
    let len : length (map h (take i xs)) ≡ i = length-mapped h xs i (omega arith) in
    let there : at + length (map h (take i xs)) < length s = omega arith in
    let place : j ≡ at + length (map h (take i xs)) = omega arith in
    ap (λ k. set k j y) so_far
    ∙ ap (λ n. set (written_over s at (map h (take i xs))) n y) place
    ∙ set-written_over s at (map h (take i xs)) y there
    ∙ ap (λ z. written_over s at (map h (take i xs) ++ z ∷ [])) value
    ∙ ap (written_over s at) (sym (map_more h xs i 0 within))

-- the number at index j is still the old one
pub over_read : (h : ℕ → ℕ) (s xs l : List ℕ) (at i j d : ℕ) → i ≤ length xs → at + i < length s → j ≡ at + i
    → l ≡ written_over s at (map h (take i xs)) → get_or l j d ≡ get_or s j d
over_read h s xs l at i j d within inside here so_far =
    let len : length (map h (take i xs)) ≡ i = length-mapped h xs i within in
    let there : at + length (map h (take i xs)) < length s = omega arith in
    let place : j ≡ at + length (map h (take i xs)) = omega arith in
    ap (λ k. get_or k j d) so_far
    ∙ ap (λ n. get_or (written_over s at (map h (take i xs))) n d) place
    ∙ get_or-written_over s at (map h (take i xs)) d there
    ∙ ap (λ n. get_or s n d) (sym place)

-- ---- numbers that are moved by 0

unmoved_all : (e : ℕ) (xs : List ℕ) → ((k : ℕ) → k < length xs → e ≤ get_or xs k 0) → map (λ x. x - e + e) xs ≡ xs
unmoved_all e [] h = refl
unmoved_all e (x ∷ xs) h =
    let low : e ≤ x = h 0 (omega arith) in
    let same : x - e + e ≡ x = omega arith in
    ap (λ y. y ∷ map (λ z. z - e + e) xs) same ∙ ap (λ ys. x ∷ ys) (unmoved_all e xs (λ k l. h (suc k) (omega arith)))

pub unmoved : (start end at : ℕ) (xs : List ℕ) → start ≡ end → at ≤ length xs → ((k : ℕ) → at ≤ k → k < length xs → start ≤ get_or xs k 0)
    → xs ≡ take at xs ++ map (λ x. x - start + end) (drop at xs)
unmoved start end at xs same within low =
    let later : (k : ℕ) → k < length (drop at xs) → start ≤ get_or (drop at xs) k 0 =
    λ k l. omega (arith, low (at + k) (omega arith) (omega (arith, length-drop at xs)), get_or-drop at xs k) in
    sym (take-append-drop at xs)
    ∙ ap (λ ys. take at xs ++ ys) (sym (unmoved_all start (drop at xs) later) ∙ ap (λ n. map (λ x. x - start + n) (drop at xs)) same)

-- ---- a part replaced by numbers of another length

-- the numbers from index `from` up to `to` are replaced by `with`: later numbers are moved to make
-- room, `with` is written, and the later numbers are changed
pub replaced : (add move : ℕ → ℕ) (olds with moved written shifted : List ℕ) (from to : ℕ) → from ≤ to → to ≤ length olds
    → moved ≡ take (from + length with) (olds ++ replicate (from + length with - to) 0) ++ drop to olds
    → written ≡ take from moved ++ (map add with ++ drop (from + length with) moved)
    → shifted ≡ take (from + length with) written ++ map move (drop (from + length with) written)
    → shifted ≡ take from olds ++ (map add with ++ map move (drop to olds))
replaced add move olds with moved written shifted from to order within moved_is written_is shifted_is =
    let end : ℕ = from + length with in
    let filled : List ℕ = olds ++ replicate (end - to) 0 in
    let filled_len : length (take end filled) ≡ end = omega (
      arith,
      length-take end filled,
      length-append olds (replicate
          (end - to) 0),
      length-replicate {A = ℕ} (end - to) 0,
    ) in
    let front : take from moved ≡ take from olds =
    ap (take from) moved_is ∙ take-append-le from (take end filled) (drop to olds) (omega arith) ∙ take-take from end filled (omega arith)
    ∙ take-append-le from olds (replicate (end - to) 0) (omega arith) in
    let back : drop end moved ≡ drop to olds = ap (drop end) moved_is ∙ drop_at (take end filled) (drop to olds) end filled_len in
    let head : List ℕ = take from olds ++ map add with in
    let head_len : length head ≡ end = omega (arith, length-append (take from olds) (map add with), length-take from olds, length-map with add) in
    let parts : written ≡ head ++ drop to olds =
    written_is ∙ ap (λ l. l ++ (map add with ++ drop end moved)) front ∙ ap (λ l. take from olds ++ (map add with ++ l)) back
    ∙ sym (append_assoc (take from olds) (map add with) (drop to olds)) in
    shifted_is
    ∙ ap (λ l. take end l ++ map move (drop end l)) parts
    ∙ ap (λ l. l ++ map move (drop end (head ++ drop to olds))) (take_at head (drop to olds) end head_len)
    ∙ ap (λ l. head ++ map move l) (drop_at head (drop to olds) end head_len)
    ∙ append_assoc (take from olds) (map add with) (map move (drop to olds))
