-- Lemmas for the loops of the codec of octets.
use Rattle.std.proofs.Common.{◌≡◌, ℕ, zero, suc, ◌+◌, ◌*◌, ◌<◌, ◌≤◌, ◌^◌, Bool, true, List, [], ◌∷◌, ◌++◌, length, take, drop, get_or, ℤ, pos, nat_abs, refl, sym, ap, ◌∙◌, arith, append_assoc, length-append}
use Rattle.std.proofs.lemmas.Bool.{and_parts}
use Rattle.std.specs.List.{list_all, flat_map}
use Rattle.std.proofs.lemmas.List.{take_more, drop_more, drop-drop, length-drop, take_at, drop_at}
use Rattle.aec_params.specs.Codewords.{binary}
use Rattle.aec_bits.specs.Codec.{BeginsAt}
use Rattle.aec_bits.specs.Octets.{octet_bits, is_octet, octets}
use Rattle.aec_bits.proofs.OctetsLaw.{octet_number, same_number}
use Rattle.aec_bits.proofs.CodewordLaws.{length-binary}

-- each number of a held list is an octet
pub held_at : (s : List ℤ) (k : ℕ) (d : ℤ) → list_all is_octet s ≡ true → k < length s → is_octet (get_or s k d) ≡ true
held_at [] k d held within = absurd (omega arith)
held_at (x ∷ s) zero d held within = (and_parts (is_octet x) (list_all is_octet s) held).0
held_at (x ∷ s) (suc k) d held within = held_at s k d (and_parts (is_octet x) (list_all is_octet s) held).1 (omega arith)

length-octets : (s : List ℤ) → length (flat_map octet_bits s) ≡ 8 * length s
length-octets [] = refl
length-octets (x ∷ s) = length-append (octet_bits x) (flat_map octet_bits s) ∙ omega (arith, length-binary 8 (nat_abs x), length-octets s)

-- 8 * k bits after the start of an interval, the bits of its octets from octet k on begin
octets_from : (s : List ℤ) (k : ℕ) (bits rest : List Bool) (place : ℕ) → k ≤ length s → drop place bits ≡ flat_map octet_bits s ++ rest
    → drop (place + 8 * k) bits ≡ flat_map octet_bits (drop k s) ++ rest
octets_from s zero bits rest place within stands = let e : place + 8 * 0 ≡ place = omega arith in rw e stands
octets_from [] (suc k) bits rest place within stands = absurd (omega arith)
octets_from (x ∷ s) (suc k) bits rest place within stands =
    let step : place + 8 + 8 * k ≡ place + 8 * suc k = omega arith in
    let past : drop (place + 8) bits ≡ flat_map octet_bits s ++ rest =
    sym (drop-drop 8 place bits) ∙ ap (drop 8) (stands ∙ append_assoc (octet_bits x) (flat_map octet_bits s) rest)
    ∙ drop_at (octet_bits x) (flat_map octet_bits s ++ rest) 8 (length-binary 8 (nat_abs x)) in
    ap (λ n. drop n bits) (sym step) ∙ octets_from s k bits rest (place + 8) (omega arith) past

-- the bits of the next octet are within the list
pub octet_there : (bits : List Bool) (place count k : ℕ) (s : List ℤ) → BeginsAt octets bits place count s → k < count → place + 8 * k + 8 ≤ length bits
octet_there bits place count k s begins within =
    let whole : length (drop place bits) ≡ 8 * count + length begins.stands.0 =
    ap length begins.stands.1 ∙ length-append (flat_map octet_bits s) begins.stands.0 ∙ omega (arith, length-octets s, begins.length_is) in
    omega (arith, length-drop place bits)

-- the next number read is the next octet
pub octet_next : (bits : List Bool) (place count k v : ℕ) (s : List ℤ) (d : ℤ) → BeginsAt octets bits place count s → k < count → v < 2 ^ 8
    → drop (place + 8 * k) bits ≡ binary 8 v ++ drop (place + 8 * k + 8) bits → get_or s k d ≡ pos v
octet_next bits place count k v s d begins within fits stands =
    let inside : k < length s = omega (arith, begins.length_is) in
    let x : ℤ = get_or s k d in
    let number = octet_number x (held_at s k d begins.interval.held inside) in
    let rest : List Bool = flat_map octet_bits (drop (k + 1) s) ++ begins.stands.0 in
    let there : drop (place + 8 * k) bits ≡ octet_bits x ++ rest =
    octets_from s k bits begins.stands.0 place (omega arith) begins.stands.1
    ∙ ap (λ l. flat_map octet_bits l ++ begins.stands.0) (drop_more s k d inside)
    ∙ append_assoc (octet_bits x) (flat_map octet_bits (drop (k + 1) s)) begins.stands.0 in
    let same : binary 8 v ≡ octet_bits x =
    sym (take_at (binary 8 v) (drop (place + 8 * k + 8) bits) 8 (length-binary 8 v))
    ∙ ap (take 8) (sym stands ∙ there) ∙ take_at (octet_bits x) rest 8 (length-binary 8 (nat_abs x)) in
    number.1 ∙ ap pos (same_number number.0 v number.2 fits (ap octet_bits (sym number.1) ∙ sym same))

-- one more sample decoded: y, read as the number v at `at` from `list`
pub decoded_more : (front items : List ℤ) (bits list : List Bool) (place count k v at : ℕ) (y : ℤ)
    → k < count → v < 2 ^ 8 → y ≡ pos v → list ≡ bits → at ≡ place + 8 * k
    → drop at list ≡ binary 8 v ++ drop (at + 8) list
    → ((s : List ℤ) → BeginsAt octets bits place count s → items ≡ front ++ take k s)
    → (s : List ℤ) → BeginsAt octets bits place count s → items ++ y ∷ [] ≡ front ++ take (k + 1) s
decoded_more front items bits list place count k v at y within fits value same there stands so_far s begins =
    let inside : k < length s = omega (arith, begins.length_is) in
    let next = octet_next bits place count k v s (pos v) begins within fits (rw (same, there) at stands) in
    rw (so_far s begins, append_assoc, take_more s k (pos v) inside, next, value) refl
