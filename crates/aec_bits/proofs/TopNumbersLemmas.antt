-- Numbers at the top of a word; products with powers of two move each to the top of its lane.
use Rattle.std.proofs.Common.{◌≡◌, ℕ, zero, suc, ◌+◌, ◌-◌, ◌*◌, ◌/◌, ◌%◌, ◌^◌, ◌<◌, ◌≤◌, Bool, List, [], ◌∷◌, ◌++◌, length, replicate, take, get_or, refl, sym, ap, ap₂, ◌∙◌, arith, append_assoc, subst}
use Rattle.std.specs.Simd.Lanes.{zip2}
use Rattle.std.specs.List.{flat_map}
use Rattle.std.proofs.Math.Pow.{mod-mod-pow}
use Rattle.std.proofs.lemmas.Nat.{shr-shr, mod_below, pow_pos}
use Rattle.aec_params.specs.Codewords.{binary}
use Rattle.aec_bits.specs.WordBits.{word_bits}
use Rattle.aec_bits.specs.Windows.{StandsBefore, moved_to_top, numbers_of_word}
use Rattle.aec_bits.proofs.WordLemmas.{part_value, binary-add, binary-mod}
use mir.Syntax.{shr, unsigned, w32, wrap_mul}
use borrow.Rule.Simd.Lanes.{act2}
use borrow.Table.Row.{s_int}

-- ---- one lane

-- w bits of a word after its first s + a bits, taken from the 32 bits after its first s bits
lane : (w s a word : ℕ) → s + a + w ≤ 64 → a + w ≤ 32
    → word * 2 ^ s % 2 ^ 64 / 2 ^ 32 * 2 ^ a % 2 ^ 32 / 2 ^ (32 - w) ≡ word / 2 ^ (64 - s - a - w) % 2 ^ w
lane w s a word within short =
    let half : ℕ = word * 2 ^ s % 2 ^ 64 / 2 ^ 32 in
    let r : ℕ = 32 - a - w in
    let rest : ℕ = 64 - s - a - w in
    let e : 32 ≡ w + (a + r) = omega arith in
    let f : 32 - w ≡ a + r = omega arith in
    let g : 64 ≡ (a + w) + (s + rest) = omega arith in
    let h : 32 + r ≡ s + rest = omega arith in
    ap (λ (n : ℕ). half * 2 ^ a % 2 ^ n / 2 ^ (32 - w)) e
    ∙ ap (λ (n : ℕ). half * 2 ^ a % 2 ^ (w + (a + r)) / 2 ^ n) f
    ∙ part_value a w r half
    ∙ ap (λ (n : ℕ). n % 2 ^ w) (shr-shr (word * 2 ^ s % 2 ^ 64) 32 r
    ∙ ap (λ (n : ℕ). word * 2 ^ s % 2 ^ 64 / 2 ^ n) h
    ∙ ap (λ (n : ℕ). word * 2 ^ s % 2 ^ n / 2 ^ (s + rest)) g
    ∙ part_value s (a + w) rest word)
    ∙ mod-mod-pow (word / 2 ^ rest) a w

lane_at : (w s a e word half power : ℕ) → half ≡ word * 2 ^ s % 2 ^ 64 / 2 ^ 32 → power ≡ 2 ^ a → s + a + w ≤ 64 → a + w ≤ 32 → e ≡ 64 - s - a - w
    → half * power % 2 ^ 32 / 2 ^ (32 - w) ≡ word / 2 ^ e % 2 ^ w
lane_at w s a e word half power half_is power_is within short place =
    ap₂ (λ (x y : ℕ). x * y % 2 ^ 32 / 2 ^ (32 - w)) half_is power_is ∙ lane w s a word within short
    ∙ ap (λ (n : ℕ). word / 2 ^ n % 2 ^ w) (sym place)

-- ---- all lanes

pub moved_lanes : (w n : ℕ) (xs ps : List ℕ) → w < 32 → length xs ≡ n → length ps ≡ n
    → zip2 (act2 (shr unsigned) (s_int w32) (s_int w32) (s_int w32))
    (zip2 (act2 (shr unsigned) (s_int w32) (s_int w32) (s_int w32))
    (zip2 (act2 wrap_mul (s_int w32) (s_int w32) (s_int w32)) xs ps) (replicate n 1)) (replicate n (31 - w))
    ≡ moved_to_top w xs ps
moved_lanes w n [] ps small long same = refl
moved_lanes w n (x ∷ xs) [] small long same = absurd (omega (arith, long, same))
moved_lanes w zero (x ∷ xs) (p ∷ ps) small long same = absurd (omega (arith, long))
moved_lanes w (suc n) (x ∷ xs) (p ∷ ps) small long same =
    let e : 1 + (31 - w) ≡ 32 - w = omega arith in
    ap₂ ◌∷◌ (shr-shr (x * p % 4294967296) 1 (31 - w) ∙ ap (λ (k : ℕ). x * p % 4294967296 / 2 ^ k) e)
    (moved_lanes w n xs ps small (omega (arith, long)) (omega (arith, same)))

pub eight_lanes : (word w half next : ℕ) (powers first second : List ℕ) → w ≤ 8 → half ≡ word * 2 ^ 0 % 2 ^ 64 / 2 ^ 32
    → next ≡ word * 2 ^ (4 * w) % 2 ^ 64 / 2 ^ 32 → powers ≡ 1 ∷ 2 ^ w ∷ 2 ^ (2 * w) ∷ 2 ^ (3 * w) ∷ []
    → first ≡ moved_to_top w (half ∷ half ∷ half ∷ half ∷ []) powers → second ≡ moved_to_top w (next ∷ next ∷ next ∷ next ∷ []) powers
    → get_or first 0 0 ∷ get_or first 1 0 ∷ get_or first 2 0 ∷ get_or first 3 0
    ∷ get_or second 0 0 ∷ get_or second 1 0 ∷ get_or second 2 0 ∷ get_or second 3 0 ∷ [] ≡ numbers_of_word w 8 64 word
eight_lanes word w half next powers first second small half_is next_is powers_are first_is second_is =
    let front = first_is ∙ ap (moved_to_top w (half ∷ half ∷ half ∷ half ∷ [])) powers_are in
    let back = second_is ∙ ap (moved_to_top w (next ∷ next ∷ next ∷ next ∷ [])) powers_are in
    ap₂ ◌∷◌ (ap (λ (l : List ℕ). get_or l 0 0) front ∙ lane_at w 0 0 (64 - w) word half 1 half_is refl (omega arith) (omega arith) (omega arith))
    (ap₂ ◌∷◌ (ap (λ (l : List ℕ). get_or l 1 0) front ∙ lane_at w 0 w (64 - w - w) word half (2 ^ w) half_is refl (omega arith) (omega arith) (omega arith))
    (ap₂ ◌∷◌ (ap (λ (l : List ℕ). get_or l 2 0) front
    ∙ lane_at w 0 (2 * w) (64 - w - w - w) word half (2 ^ (2 * w)) half_is refl (omega arith) (omega arith) (omega arith))
    (ap₂ ◌∷◌ (ap (λ (l : List ℕ). get_or l 3 0) front
    ∙ lane_at w 0 (3 * w) (64 - w - w - w - w) word half (2 ^ (3 * w)) half_is refl (omega arith) (omega arith) (omega arith))
    (ap₂ ◌∷◌ (ap (λ (l : List ℕ). get_or l 0 0) back
    ∙ lane_at w (4 * w) 0 (64 - w - w - w - w - w) word next 1 next_is refl (omega arith) (omega arith) (omega arith))
    (ap₂ ◌∷◌ (ap (λ (l : List ℕ). get_or l 1 0) back
    ∙ lane_at w (4 * w) w (64 - w - w - w - w - w - w) word next (2 ^ w) next_is refl (omega arith) (omega arith) (omega arith))
    (ap₂ ◌∷◌ (ap (λ (l : List ℕ). get_or l 2 0) back
    ∙ lane_at w (4 * w) (2 * w) (64 - w - w - w - w - w - w - w) word next (2 ^ (2 * w)) next_is refl (omega arith) (omega arith) (omega arith))
    (ap₂ ◌∷◌ (ap (λ (l : List ℕ). get_or l 3 0) back
    ∙ lane_at w (4 * w) (3 * w) (64 - w - w - w - w - w - w - w - w) word next (2 ^ (3 * w)) next_is refl (omega arith) (omega arith) (omega arith))
    refl)))))))

pub four_lanes : (word w half next power : ℕ) (all : List ℕ) → w ≤ 16 → half ≡ word * 2 ^ 0 % 2 ^ 64 / 2 ^ 32
    → next ≡ word * 2 ^ (2 * w) % 2 ^ 64 / 2 ^ 32 → power ≡ 2 ^ w
    → all ≡ moved_to_top w (half ∷ half ∷ next ∷ next ∷ []) (1 ∷ power ∷ 1 ∷ power ∷ []) → all ≡ numbers_of_word w 4 64 word
four_lanes word w half next power all small half_is next_is power_is is =
    is
    ∙ ap₂ ◌∷◌ (lane_at w 0 0 (64 - w) word half 1 half_is refl (omega arith) (omega arith) (omega arith))
    (ap₂ ◌∷◌ (lane_at w 0 w (64 - w - w) word half power half_is power_is (omega arith) (omega arith) (omega arith))
    (ap₂ ◌∷◌ (lane_at w (2 * w) 0 (64 - w - w - w) word next 1 next_is refl (omega arith) (omega arith) (omega arith))
    (ap₂ ◌∷◌ (lane_at w (2 * w) w (64 - w - w - w - w) word next power next_is power_is (omega arith) (omega arith) (omega arith))
    refl)))

-- ---- the bits of these numbers

numbers_stand : (w n left word : ℕ) → w * n ≤ left
    → StandsBefore (binary w) (2 ^ w) (numbers_of_word w n left word) (binary (left - w * n) word) (binary left word)
numbers_stand w zero left word within =
    let e : left - w * 0 ≡ left = omega arith in
    record { stands = ap (λ (k : ℕ). binary k word) (sym e); below = tt }
numbers_stand w (suc n) left word within =
    let more : w * suc n ≡ w + w * n = omega arith in
    let e : w + (left - w) ≡ left = omega (arith, within, more) in
    let f : left - w - w * n ≡ left - w * suc n = omega (arith, more) in
    let value : ℕ = word / 2 ^ (left - w) in
    let rest = numbers_stand w n (left - w) word (omega (arith, within, more)) in
    let behind : List Bool = binary (left - w - w * n) word in
    record {
      stands = ap (λ (k : ℕ). binary k word) (sym e) ∙ binary-add w (left - w) word
          ∙ ap₂ ◌++◌ (sym (binary-mod w value)) rest.stands
          ∙ sym (append_assoc (binary w (value % 2 ^ w)) (flat_map (binary w) (numbers_of_word w n (left - w) word)) behind)
          ∙ ap (λ (k : ℕ). (binary w (value % 2 ^ w) ++ flat_map (binary w) (numbers_of_word w n (left - w) word)) ++ binary k word) f;
      below = (mod_below value (2 ^ w) (pow_pos w), rest.below);
    }

-- the first n of m numbers of a word
take-numbers_of_word : (w n m left word : ℕ) → n ≤ m → take n (numbers_of_word w m left word) ≡ numbers_of_word w n left word
take-numbers_of_word w zero m left word fewer = refl
take-numbers_of_word w (suc n) zero left word fewer = absurd (omega (arith, fewer))
take-numbers_of_word w (suc n) (suc m) left word fewer =
    ap (λ (l : List ℕ). word / 2 ^ (left - w) % 2 ^ w ∷ l) (take-numbers_of_word w n m (left - w) word (omega (arith, fewer)))

-- the first n of m numbers of a word, read into a list of n
pub top_numbers_stand : (w n m word : ℕ) (numbers items : List ℕ) → length items ≡ n → n ≤ m → w * length items ≤ 64
    → numbers ≡ take n (numbers_of_word w m 64 word)
    → StandsBefore (binary w) (2 ^ w) numbers (binary (64 - w * length items) word) (word_bits word)
unfolding word_bits
top_numbers_stand w n m word numbers items long fewer within is =
    let room : w * n ≤ 64 = subst (λ (k : ℕ). w * k ≤ 64) long within in
    subst (λ (k : ℕ). StandsBefore (binary w) (2 ^ w) numbers (binary (64 - w * k) word) (binary 64 word)) (sym long)
    (subst (λ (l : List ℕ). StandsBefore (binary w) (2 ^ w) l (binary (64 - w * n) word) (binary 64 word))
    (sym (is ∙ take-numbers_of_word w n m 64 word fewer)) (numbers_stand w n 64 word room))
