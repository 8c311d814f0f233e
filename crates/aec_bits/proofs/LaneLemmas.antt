-- Laws of four words that are shifted and stored at once.
use Rattle.std.proofs.Common.{◌≡◌, ℕ, zero, suc, ◌+◌, ◌-◌, ◌*◌, ◌/◌, ◌%◌, ◌^◌, ◌<◌, ◌≤◌, Bool, List, [], ◌∷◌, ◌++◌, length, take, drop, replicate, get_or, refl, sym, ap, ap₂, ◌∙◌, arith, append_assoc, take-add}
use Rattle.std.specs.Prelude.{bit_or}
use Rattle.std.specs.Simd.Lanes.{zip2, put_chunk}
use Rattle.std.proofs.lemmas.Simd.{put_chunk_is}
use Rattle.std.proofs.lemmas.List.{drop-append-le, take-append-le, drop-drop, length-drop, get_or-drop}
use Rattle.aec_bits.specs.Words.{bits_of_words}
use Rattle.aec_bits.specs.WordBits.{word_bits}
use Rattle.aec_bits.proofs.OverwriteLemmas.{overwritten, take-append-add}
use Rattle.aec_bits.proofs.WordLemmas.{length-word_bits, bits_of_words-cons, bits_of_words-append, bits_of_words-take, bits_of_words-drop, joined_bits}

-- the bits from place `at` of a word on: the rest of that word, the first `at` bits of the next
-- word, and the bits from place `at` of the next word on
next_word : (x y : ℕ) (ys : List ℕ) (at n : ℕ) → at ≤ 64
    → (drop at (word_bits x) ++ take at (word_bits y)) ++ take (64 * n) (drop at (bits_of_words (y ∷ ys)))
    ≡ take (64 * suc n) (drop at (bits_of_words (x ∷ y ∷ ys)))
next_word x y ys at n within =
    let later : List Bool = bits_of_words (y ∷ ys) in
    let front : List Bool = drop at (word_bits x) in
    let e : 64 * suc n ≡ 64 - at + (at + 64 * n) = omega arith in
    let short : at ≤ length (word_bits x) = omega (arith, length-word_bits x) in
    let long : length front ≡ 64 - at = omega (arith, length-drop at (word_bits x), length-word_bits x) in
    let next : take at later ≡ take at (word_bits y)
    = ap (take at) (bits_of_words-cons y ys) ∙ take-append-le at (word_bits y) (bits_of_words ys) (omega (arith, length-word_bits y)) in
    append_assoc front (take at (word_bits y)) (take (64 * n) (drop at later))
    ∙ ap (λ (l : List Bool). front ++ (l ++ take (64 * n) (drop at later))) (sym next)
    ∙ ap (λ (l : List Bool). front ++ l) (sym (take-add at (64 * n) later))
    ∙ sym (take-append-add front later (64 - at) (at + 64 * n) long)
    ∙ ap₂ (λ (k : ℕ) (l : List Bool). take k l) (sym e)
    (sym (ap (drop at) (bits_of_words-cons x (y ∷ ys)) ∙ drop-append-le at (word_bits x) later short))

-- words joined with the words after them, by functions equal to shifts and OR
joined_lanes : (f g h : ℕ → ℕ → ℕ) → ((x y : ℕ) → f x y ≡ bit_or x y) → ((x s : ℕ) → g x s ≡ x * 2 ^ s % 2 ^ 64) → ((x s : ℕ) → h x s ≡ x / 2 ^ s)
    → (n : ℕ) (xs : List ℕ) (at : ℕ) → at ≤ 64 → n < length xs → ((i : ℕ) → get_or xs i 0 < 2 ^ 64)
    → bits_of_words (zip2 f (zip2 g (take n xs) (replicate n at)) (zip2 h (take n (drop 1 xs)) (replicate n (64 - at))))
    ≡ take (64 * n) (drop at (bits_of_words xs))
joined_lanes f g h ef eg eh zero xs at within long small = refl
joined_lanes f g h ef eg eh (suc n) [] at within long small = absurd (omega arith)
joined_lanes f g h ef eg eh (suc n) (x ∷ []) at within long small = absurd (omega arith)
joined_lanes f g h ef eg eh (suc n) (x ∷ y ∷ ys) at within long small =
    let word : ℕ = f (g x at) (h y (64 - at)) in
    let rest : List ℕ = zip2 f (zip2 g (take n (y ∷ ys)) (replicate n at)) (zip2 h (take n ys) (replicate n (64 - at))) in
    let value : word ≡ bit_or (x * 2 ^ at % 2 ^ 64) (y / 2 ^ (64 - at)) = ef (g x at) (h y (64 - at)) ∙ ap₂ bit_or (eg x at) (eh y (64 - at)) in
    bits_of_words-cons word rest
    ∙ ap₂ ◌++◌ (ap word_bits value ∙ joined_bits x y at within (small 1))
    (joined_lanes f g h ef eg eh n (y ∷ ys) at within (omega arith) (λ i. small (suc i)))
    ∙ next_word x y ys at n within

-- four such joined words, from word `from` on
pub joined_four : (f g h : ℕ → ℕ → ℕ) → ((x y : ℕ) → f x y ≡ bit_or x y) → ((x s : ℕ) → g x s ≡ x * 2 ^ s % 2 ^ 64) → ((x s : ℕ) → h x s ≡ x / 2 ^ s)
    → (ws : List ℕ) (from at : ℕ) → at ≤ 64 → from + 5 ≤ length ws → ((i : ℕ) → get_or ws i 0 < 2 ^ 64)
    → bits_of_words (zip2 f (zip2 g (take 4 (drop from ws)) (replicate 4 at)) (zip2 h (take 4 (drop (from + 1) ws)) (replicate 4 (64 - at))))
    ≡ take 256 (drop (64 * from + at) (bits_of_words ws))
joined_four f g h ef eg eh ws from at within long small =
    ap (λ (l : List ℕ). bits_of_words (zip2 f (zip2 g (take 4 (drop from ws)) (replicate 4 at)) (zip2 h (take 4 l) (replicate 4 (64 - at)))))
    (sym (drop-drop 1 from ws))
    ∙ joined_lanes f g h ef eg eh 4 (drop from ws) at within (omega (arith, length-drop from ws)) (λ i. rw (get_or-drop from ws i 0) (small (from + i)))
    ∙ ap (λ (l : List Bool). take 256 (drop at l)) (bits_of_words-drop ws from (omega arith))
    ∙ ap (take 256) (drop-drop at (64 * from) (bits_of_words ws))

-- four stored words overwrite 256 bits
pub stored_four : (ws four : List ℕ) (place : ℕ) (bits : List Bool) → length four ≡ 4 → place + 4 ≤ length ws → bits_of_words four ≡ bits
    → bits_of_words (put_chunk place ws four) ≡ overwritten (64 * place) 256 bits (bits_of_words ws)
stored_four ws four place bits long within stand =
    let e : 64 * (place + 4) ≡ 64 * place + 256 = omega arith in
    ap bits_of_words (put_chunk_is place ws four (omega arith))
    ∙ bits_of_words-append (take place ws) (four ++ drop (length four) (drop place ws))
    ∙ ap₂ ◌++◌ (bits_of_words-take ws place (omega arith)) (bits_of_words-append four (drop (length four) (drop place ws)))
    ∙ ap (λ (n : ℕ). take (64 * place) (bits_of_words ws) ++ (bits_of_words four ++ bits_of_words (drop n (drop place ws)))) long
    ∙ ap₂ (λ (l r : List Bool). take (64 * place) (bits_of_words ws) ++ (l ++ r)) stand
    (ap bits_of_words (drop-drop 4 place ws) ∙ bits_of_words-drop ws (place + 4) within ∙ ap (λ (k : ℕ). drop k (bits_of_words ws)) e)
