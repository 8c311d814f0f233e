-- Lemmas about stretches of bits that are moved or copied in parts.
use Rattle.std.proofs.Common.{◌≡◌, ℕ, ◌+◌, ◌-◌, ◌*◌, ◌<◌, ◌≤◌, Bool, List, ◌++◌, length, take, drop, set, get_or, refl, sym, ap, ap₂, ◌∙◌, arith, append_assoc}
use Rattle.std.proofs.lemmas.List.{take_at, drop_at, take-append-drop, drop-drop, drop-take, length-take-le, length-drop, take-append-le, take-take}
use Rattle.aec_bits.specs.Words.{bits_of_words}
use Rattle.aec_bits.specs.WordBits.{word_bits}
use Rattle.aec_bits.proofs.OverwriteLemmas.{overwritten, drop-overwritten, overwritten-overwritten, take-append-add}
use Rattle.aec_bits.proofs.WordLemmas.{length-word_bits, bits_of_words-set, bits_of_words-drop, from_word}

-- the n bits that a list has at a place are the n bits taken there
pub taken_there : (bits first rest : List Bool) (start n : ℕ) → length first ≡ n → drop start bits ≡ first ++ rest → first ≡ take n (drop start bits)
taken_there bits first rest start n long stands = sym (ap (take n) stands ∙ take_at first rest n long)

pub length-taken_there : (bits : List Bool) (start n : ℕ) → start + n ≤ length bits → length (take n (drop start bits)) ≡ n
length-taken_there bits start n within = length-take-le n (drop start bits) (omega (arith, length-drop start bits))

-- two adjacent stretches are one stretch
pub taken_more : (bits : List Bool) (start n m : ℕ) → start + n ≤ length bits
    → take n (drop start bits) ++ take m (drop (start + n) bits) ≡ take (n + m) (drop start bits)
taken_more bits start n m within =
    sym (ap (take (n + m)) (sym (take-append-drop n (drop start bits)))
    ∙ take-append-add (take n (drop start bits)) (drop n (drop start bits)) n m (length-taken_there bits start n within)
    ∙ ap (λ (l : List Bool). take n (drop start bits) ++ take m l) (drop-drop n start bits))

-- a stretch overwritten by itself changes nothing
pub overwritten_by_itself : (bits : List Bool) (at n : ℕ) → bits ≡ overwritten at n (take n (drop at bits)) bits
overwritten_by_itself bits at n =
    sym (ap (λ (l : List Bool). take at bits ++ (take n (drop at bits) ++ l)) (sym (drop-drop n at bits))
    ∙ ap (λ (l : List Bool). take at bits ++ l) (take-append-drop n (drop at bits)) ∙ take-append-drop at bits)

-- ---- a stretch of one list written over a stretch of another

abbrev pub stretched : ℕ → ℕ → ℕ → List Bool → List Bool → List Bool
stretched from at n source bits = overwritten at n (take n (drop from source)) bits

-- equal places and lengths have equal results
pub same_stretch : (source bits : List Bool) (from at n from' at' n' : ℕ) → from ≡ from' → at ≡ at' → n ≡ n'
    → stretched from at n source bits ≡ stretched from' at' n' source bits
same_stretch source bits from at n from' at' n' e f g =
    ap (λ (k : ℕ). stretched k at n source bits) e ∙ ap (λ (k : ℕ). stretched from' k n source bits) f
    ∙ ap (λ (k : ℕ). stretched from' at' k source bits) g

-- ---- from the front to the end

pub copied_more : (source old now new : List Bool) (from at n m later behind total : ℕ) → later ≡ from + n → behind ≡ at + n → total ≡ n + m
    → from + n ≤ length source → at ≤ length old
    → now ≡ stretched from at n source old → new ≡ stretched later behind m source now → new ≡ stretched from at total source old
copied_more source old now new from at n m later behind total e f g within inside so_far step =
    step ∙ same_stretch source now later behind m (from + n) (at + n) m e f refl
    ∙ ap (overwritten (at + n) m (take m (drop (from + n) source))) so_far
    ∙ overwritten-overwritten old (take n (drop from source)) (take m (drop (from + n) source)) at n m
    (length-taken_there source from n within) inside
    ∙ ap (λ (l : List Bool). overwritten at (n + m) l old) (taken_more source from n m within)
    ∙ same_stretch source old from at (n + m) from at total refl refl (sym g)

-- moving down: what is still to be read is after what was written
pub moved_down_more : (old now new : List Bool) (from to n m later behind total : ℕ) → later ≡ from + n → behind ≡ to + n → total ≡ n + m
    → to ≤ from → from + n ≤ length old
    → now ≡ stretched from to n old old → new ≡ stretched later behind m now now → new ≡ stretched from to total old old
moved_down_more old now new from to n m later behind total e f g below within so_far step =
    let far : later ≡ to + n + (from - to) = omega arith in
    let same : drop later now ≡ drop later old
    = ap (drop later) so_far ∙ ap (λ (k : ℕ). drop k (stretched from to n old old)) far
    ∙ drop-overwritten old (take n (drop from old)) to n (from - to) (length-taken_there old from n within) (omega arith)
    ∙ ap (λ (k : ℕ). drop k old) (sym far) in
    copied_more old old now new from to n m later behind total e f g within (omega arith) so_far
    (step ∙ ap (λ (l : List Bool). overwritten behind m (take m l) now) same)

-- ---- from the end to the front

-- a stretch written right before an overwritten one makes one overwritten stretch
overwritten_before : (bits xs ys : List Bool) (at m n : ℕ) → at + m ≤ length bits
    → overwritten at m xs (overwritten (at + m) n ys bits) ≡ overwritten at (m + n) (xs ++ ys) bits
overwritten_before bits xs ys at m n within =
    let front : List Bool = take (at + m) bits in
    let rest : List Bool = ys ++ drop (at + m + n) bits in
    let long : length front ≡ at + m = length-take-le (at + m) bits within in
    let e : at + m + n ≡ at + (m + n) = omega arith in
    let before : take at (front ++ rest) ≡ take at bits = take-append-le at front rest (omega arith) ∙ take-take at (at + m) bits (omega arith) in
    ap₂ (λ (l r : List Bool). l ++ (xs ++ r)) before (drop_at front rest (at + m) long)
    ∙ ap (λ (l : List Bool). take at bits ++ l) (sym (append_assoc xs ys (drop (at + m + n) bits)))
    ∙ ap (λ (k : ℕ). take at bits ++ ((xs ++ ys) ++ drop k bits)) e

-- moving up: what is still to be read is before what was written
pub moved_up_more : (old now new : List Bool) (from to m n later behind total : ℕ) → later ≡ from + m → behind ≡ to + m → total ≡ m + n
    → from ≤ to → to + m ≤ length old
    → now ≡ stretched later behind n old old → new ≡ stretched from to m now now → new ≡ stretched from to total old old
moved_up_more old now new from to m n later behind total e f g below within so_far step =
    let written : List Bool = take n (drop (from + m) old) in
    let front : List Bool = take (to + m) old in
    let rest : List Bool = written ++ drop (to + m + n) old in
    let long : length front ≡ to + m = length-take-le (to + m) old within in
    let here : now ≡ overwritten (to + m) n written old = so_far ∙ same_stretch old old later behind n (from + m) (to + m) n e f refl in
    let untouched : take (from + m) now ≡ take (from + m) old
    = ap (take (from + m)) here ∙ take-append-le (from + m) front rest (omega arith) ∙ take-take (from + m) (to + m) old (omega arith) in
    let same : take m (drop from now) ≡ take m (drop from old)
    = sym (drop-take from m now) ∙ ap (drop from) untouched ∙ drop-take from m old in
    step ∙ ap₂ (overwritten to m) same here
    ∙ overwritten_before old (take m (drop from old)) written to m n within
    ∙ ap (λ (l : List Bool). overwritten to (m + n) l old) (taken_more old from m n (omega arith))
    ∙ same_stretch old old from to (m + n) from to total refl refl (sym g)

-- ---- whole words

-- a word read from one list and stored overwrites 64 bits
pub word_written : (ws : List ℕ) (source : List Bool) (q from v : ℕ) → q < length ws → drop from source ≡ word_bits v ++ drop (from + 64) source
    → bits_of_words (set ws q v) ≡ overwritten (64 * q) 64 (take 64 (drop from source)) (bits_of_words ws)
word_written ws source q from v within stands =
    let e : 64 * (q + 1) ≡ 64 * q + 64 = omega arith in
    bits_of_words-set ws q v within
    ∙ ap (λ (l : List Bool). take (64 * q) (bits_of_words ws) ++ (word_bits v ++ l))
    (bits_of_words-drop ws (q + 1) (omega arith) ∙ ap (λ (k : ℕ). drop k (bits_of_words ws)) e)
    ∙ ap (λ (l : List Bool). overwritten (64 * q) 64 l (bits_of_words ws))
    (taken_there source (word_bits v) (drop (from + 64) source) from 64 (length-word_bits v) stands)

-- the bits from a word's place on begin with this word
pub word_there : (ws : List ℕ) (start q d : ℕ) → start ≡ 64 * q → q < length ws
    → drop start (bits_of_words ws) ≡ word_bits (get_or ws q d) ++ drop (start + 64) (bits_of_words ws)
word_there ws start q d place within =
    let e : 64 * (q + 1) ≡ start + 64 = omega arith in
    ap (λ (k : ℕ). drop k (bits_of_words ws)) place ∙ from_word ws q d within
    ∙ ap (λ (l : List Bool). word_bits (get_or ws q d) ++ l)
    (bits_of_words-drop ws (q + 1) (omega arith) ∙ ap (λ (k : ℕ). drop k (bits_of_words ws)) e)
