-- Bits appended to a list in words, and bits replaced.
use Rattle.std.proofs.Common.{◌≡◌, ℕ, ◌+◌, ◌-◌, ◌*◌, ◌≤◌, Bool, false, List, ◌++◌, length, take, drop, replicate, sym, ap, ◌∙◌, arith, append_assoc, length-append}
use Rattle.std.specs.Int.{div_ceil}
use Rattle.std.proofs.lemmas.List.{length-replicate, replicate-append-replicate, length-take, length-drop, take_at, drop_at, length-take-le, take-take, take-append-le, drop-append-le, drop-take, take-replicate, drop-replicate}
use Rattle.aec_params.specs.Codewords.{fs, binary}
use Rattle.aec_params.proofs.CodewordLaws.{length-fs}
use Rattle.aec_bits.proofs.OverwriteLemmas.{take-append-add, drop-append-add}
use Rattle.aec_bits.specs.Words.{bits_of_words}
use Rattle.aec_bits.specs.Packed.{ArePacked, Keep}
use Rattle.aec_bits.proofs.PackedLemmas.{length-packed, packed, packed_bits}

-- ---- bits appended

-- the bits of words that were grown: the list, then zeros
grown_bits : (words grown : List ℕ) (len extra : ℕ) → ArePacked words len → bits_of_words grown ≡ bits_of_words words ++ replicate extra false
    → bits_of_words grown ≡ take len (bits_of_words words) ++ replicate (64 * length words - len + extra) false
grown_bits words grown len extra held e =
    e ∙ ap (λ l. l ++ replicate extra false) (packed_bits words len held)
    ∙ append_assoc (take len (bits_of_words words)) (replicate (64 * length words - len) false) (replicate extra false)
    ∙ ap (λ l. take len (bits_of_words words) ++ l) (replicate-append-replicate (64 * length words - len) extra false)

-- if bits are written right after the list, the words keep the list and these bits
pub appended : (words grown now : List ℕ) (new : List Bool) (len k extra : ℕ) → ArePacked words len
    → bits_of_words grown ≡ bits_of_words words ++ replicate extra false → length new ≡ k → length now ≡ div_ceil (len + k) 64
    → bits_of_words now ≡ take len (bits_of_words grown) ++ (new ++ drop (len + k) (bits_of_words grown))
    → Keep now (len + k) (take len (bits_of_words words) ++ new)
appended words grown now new len k extra held grew long count e =
    let list : List Bool = take len (bits_of_words words) in
    let m : ℕ = 64 * length words - len + extra in
    let there : length list ≡ len = length-packed words len (omega (arith, held.0)) in
    let whole = grown_bits words grown len extra held grew in
    let before : take len (bits_of_words grown) ≡ list = ap (take len) whole ∙ take_at list (replicate m false) len there in
    let after : drop (len + k) (bits_of_words grown) ≡ replicate (m - k) false =
    ap (drop (len + k)) whole ∙ drop-append-add list (replicate m false) len k there ∙ drop-replicate k m false in
    let stands : bits_of_words now ≡ (list ++ new) ++ replicate (m - k) false =
    e ∙ ap (λ l. l ++ (new ++ drop (len + k) (bits_of_words grown))) before ∙ ap (λ l. list ++ (new ++ l)) after
    ∙ sym (append_assoc list new (replicate (m - k) false)) in
    packed now (list ++ new) (len + k) (m - k) stands (omega (arith, length-append list new)) count

-- if a 1 is written v zeros after the list, the words keep the list and a fundamental sequence
pub appended_unary : (words grown now : List ℕ) (len v extra : ℕ) → ArePacked words len
    → bits_of_words grown ≡ bits_of_words words ++ replicate extra false → len + v + 1 ≤ 64 * length words + extra
    → length now ≡ div_ceil (len + (v + 1)) 64
    → bits_of_words now ≡ take (len + v) (bits_of_words grown) ++ (binary 1 1 ++ drop (len + v + 1) (bits_of_words grown))
    → Keep now (len + (v + 1)) (take len (bits_of_words words) ++ fs v)
appended_unary words grown now len v extra held grew within count e =
    let list : List Bool = take len (bits_of_words words) in
    let m : ℕ = 64 * length words - len + extra in
    let there : length list ≡ len = length-packed words len (omega (arith, held.0)) in
    let whole = grown_bits words grown len extra held grew in
    let before : take len (bits_of_words grown) ≡ list = ap (take len) whole ∙ take_at list (replicate m false) len there in
    let front : take (len + v) (bits_of_words grown) ≡ take len (bits_of_words grown) ++ replicate v false =
    ap (take (len + v)) whole ∙ take-append-add list (replicate m false) len v there
    ∙ ap (λ l. list ++ l) (take-replicate v m false (omega (arith, held.0))) ∙ ap (λ l. l ++ replicate v false) (sym before) in
    let place : len + v + 1 ≡ len + (v + 1) = omega arith in
    let rest : List Bool = drop (len + (v + 1)) (bits_of_words grown) in
    appended words grown now (fs v) len (v + 1) extra held grew (length-fs v) count
    (e ∙ ap (λ l. l ++ (binary 1 1 ++ drop (len + v + 1) (bits_of_words grown))) front
    ∙ ap (λ k. (take len (bits_of_words grown) ++ replicate v false) ++ (binary 1 1 ++ drop k (bits_of_words grown))) place
    ∙ append_assoc (take len (bits_of_words grown)) (replicate v false) (binary 1 1 ++ rest)
    ∙ ap (λ l. take len (bits_of_words grown) ++ l) (sym (append_assoc (replicate v false) (binary 1 1) rest)))

-- ---- bits replaced

pub spliced : (bits grown moved now with : List Bool) (len start stop count tail extra : ℕ) → start ≤ stop → stop + tail ≡ len → len ≤ length bits
    → count ≤ length with → start + count + tail ≤ length bits + extra → grown ≡ bits ++ replicate extra false
    → moved ≡ take (start + count) grown ++ (take tail (drop stop grown) ++ drop (start + count + tail) grown)
    → now ≡ take start moved ++ (take count with ++ drop (start + count) moved)
    → take (start + count + tail) now ≡ take start (take len bits) ++ (take count with ++ drop stop (take len bits))
spliced bits grown moved now with len start stop count tail extra order parts within few room e f g =
    let new : List Bool = take count with in
    let back : List Bool = take tail (drop stop grown) in
    let rest : List Bool = drop (start + count + tail) grown in
    let long : length grown ≡ length bits + extra = ap length e ∙ length-append bits (replicate extra false) ∙ omega (arith, length-replicate extra false) in
    let there : length (take (start + count) grown) ≡ start + count = length-take-le (start + count) grown (omega arith) in
    let before : take start moved ≡ take start (take len bits) =
    ap (take start) f ∙ take-append-le start (take (start + count) grown) (back ++ rest) (omega arith)
    ∙ take-take start (start + count) grown (omega arith) ∙ ap (take start) e ∙ take-append-le start bits (replicate extra false) (omega arith)
    ∙ sym (take-take start len bits (omega arith)) in
    let after : drop (start + count) moved ≡ back ++ rest =
    ap (drop (start + count)) f ∙ drop_at (take (start + count) grown) (back ++ rest) (start + count) there in
    let tail_is : back ≡ drop stop (take len bits) =
    ap (λ l. take tail (drop stop l)) e ∙ ap (take tail) (drop-append-le stop bits (replicate extra false) (omega arith))
    ∙ take-append-le tail (drop stop bits) (replicate extra false) (omega (arith, length-drop stop bits))
    ∙ sym (drop-take stop tail bits) ∙ ap (λ n. drop stop (take n bits)) parts in
    let list : List Bool = take start (take len bits) ++ (new ++ drop stop (take len bits)) in
    let stands : now ≡ list ++ rest =
    g ∙ ap (λ l. l ++ (new ++ drop (start + count) moved)) before ∙ ap (λ l. take start (take len bits) ++ (new ++ l)) after
    ∙ ap (λ l. take start (take len bits) ++ (new ++ (l ++ rest))) tail_is
    ∙ ap (λ l. take start (take len bits) ++ l) (sym (append_assoc new (drop stop (take len bits)) rest))
    ∙ sym (append_assoc (take start (take len bits)) (new ++ drop stop (take len bits)) rest) in
    let size : length list ≡ start + count + tail =
    omega (
      arith,
      length-append (take start (take len bits)) (new ++ drop stop (take len bits)),
      length-append new (drop stop (take len bits)),
      length-take start (take len bits),
      length-take len bits,
      length-drop stop (take len bits),
      length-take count with,
    ) in
    ap (take (start + count + tail)) stands ∙ take_at list rest (start + count + tail) size
