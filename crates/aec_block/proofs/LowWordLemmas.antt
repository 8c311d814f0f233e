-- The low bits of several values as one number.
use Rattle.std.proofs.Common.{◌≡◌, ℕ, Fits, w64, ◌+◌, ◌*◌, ◌/◌, ◌%◌, ◌^◌, ◌<◌, ◌≤◌, ◌∷◌, ◌++◌, [], ap, ◌∙◌, sym, subst, refl, arith, ap₂, pow_mono, map, Bool, List, length, take, drop, ◌-◌, get_or, append-nil, mod-lt}
use Rattle.std.proofs.lemmas.List.{take_more, take-append-drop, length-take-le, length-drop, drop-drop}
use Rattle.std.proofs.lemmas.Grind.{flat_map-append}
use Rattle.std.proofs.lemmas.Nat.{one_shl, pow_pos, mul-le, and_mask, shl_whole}
use Rattle.std.proofs.Math.Facts.{Fits-of_lt}
use Rattle.std.proofs.Math.Nat.{div-mul-le_self}
use Rattle.std.specs.List.{AllByRecursion, flat_map}
use Rattle.std.specs.Simd.Lanes.{zip2}
use Rattle.std.specs.Prelude.{replicate, bit_and}
use Rattle.std.proofs.lemmas.List.{take_all}
use mir.Syntax.{w32}
use mir.Syntax.{bit_and as and_op}
use borrow.Rule.Simd.Lanes.{act2}
use borrow.Table.Row.{s_int}
use Rattle.aec_params.specs.Codewords.{binary}
use Rattle.aec_block.specs.Written.{low_parts, Spells}
use Rattle.aec_block.proofs.GatheredLemmas.{IsJoined, is_joined_number}

pub low-divisor : (width : ℕ) → width ≤ 32 → 1 * 2 ^ width % 2 ^ 64 ≡ 2 ^ width
low-divisor width small = one_shl width 64 (omega arith)

pub ruleset low_words = (low-divisor, mod-lt, pow_pos)

-- the number that the low bits of the first i values spell
pub record IsLowWord (width i : ℕ) (values : List ℕ) (word : ℕ) : Type 0 where
  pub below : word < 2 ^ (i * width)
  pub bits : binary (i * width) word ≡ low_parts width (take i values)

-- the low bits of one more value
low_parts-more : (width i : ℕ) (values : List ℕ) → i < length values
    → low_parts width (take (i + 1) values) ≡ low_parts width (take i values) ++ binary width (get_or values i 0 % 2 ^ width)
low_parts-more width i values within =
    let last = binary width (get_or values i 0 % 2 ^ width) in
    ap (low_parts width) (take_more values i 0 within)
    ∙ flat_map-append (λ (v : ℕ). binary width (v % 2 ^ width)) (take i values) (get_or values i 0 ∷ [])
    ∙ ap (λ (bits : List Bool). low_parts width (take i values) ++ bits) (append-nil last)

-- the low bits of one more value, joined: all low bits fit a word
joined : (width i : ℕ) (values : List ℕ) (low word : ℕ) → i < length values → length values * width < 64 → low < 2 ^ width
    → IsLowWord width i values word → IsJoined (i * width) width word low
joined width i values low word within few small so_far =
    let grown = mul-le (i + 1) width (length values) width (omega arith) (omega arith) in
    is_joined_number (i * width) width word low (omega (arith, grown, few)) so_far.below small

pub longer_fits : (width i : ℕ) (values : List ℕ) (low word : ℕ) → i < length values → length values * width < 64 → low < 2 ^ width
    → IsLowWord width i values word → Fits w64 (word * 2 ^ width % 2 ^ 64 + low)
longer_fits width i values low word within few small so_far = Fits-of_lt (joined width i values low word within few small so_far).fits

pub longer_low_word : (width i : ℕ) (values : List ℕ) (low word : ℕ) → i < length values → length values * width < 64 → low < 2 ^ width
    → IsLowWord width i values word → low ≡ get_or values i 0 % 2 ^ width → IsLowWord width (i + 1) values (word * 2 ^ width % 2 ^ 64 + low)
longer_low_word width i values low word within few small so_far is =
    let total : i * width + width ≡ (i + 1) * width = omega arith in
    let next = joined width i values low word within few small so_far in
    record {
      below = subst (λ n. word * 2 ^ width % 2 ^ 64 + low < 2 ^ n) total next.below;
      bits = ap (λ n. binary n (word * 2 ^ width % 2 ^ 64 + low)) (sym total) ∙ next.bits
          ∙ ap (λ (bits : List Bool). bits ++ binary width low) so_far.bits
          ∙ ap (λ (v : ℕ). low_parts width (take i values) ++ binary width v) is ∙ sym (low_parts-more width i values within);
    }

-- the low bits from value n * i on: those of a group of n values, as one number, and the rest
pub low_parts-group : (width n i : ℕ) (values : List ℕ) (word : ℕ) → i < length values / n
    → let group = take (n * (i + 1) - n * i) (drop (n * i) values) in
    binary (length group * width) word ≡ low_parts width group
    → low_parts width (drop (n * i) values) ≡ binary (n * width) word ++ low_parts width (drop (n * (i + 1)) values)
low_parts-group width n i values word before is =
    let grown = mul-le (i + 1) n (length values / n) n (omega arith) (omega arith) in
    let within : n * (i + 1) ≤ length values = omega (arith, grown, div-mul-le_self (length values) n) in
    let more : n * (i + 1) - n * i ≡ n = omega arith in
    let here = drop (n * i) values in
    let count : length (take n here) ≡ n = length-take-le n here (omega (arith, length-drop (n * i) values)) in
    let behind : drop n here ≡ drop (n * (i + 1)) values = drop-drop n (n * i) values ∙ ap (λ m. drop m values) (omega arith) in
    let spelled : binary (length (take n here) * width) word ≡ low_parts width (take n here) = rw more at is in
    ap (low_parts width) (sym (take-append-drop n here)) ∙ flat_map-append (λ (v : ℕ). binary width (v % 2 ^ width)) (take n here) (drop n here)
    ∙ ap (λ (bits : List Bool). bits ++ low_parts width (drop n here)) (sym spelled ∙ ap (λ m. binary (m * width) word) count)
    ∙ ap (λ (rest : List ℕ). binary (n * width) word ++ low_parts width rest) behind

-- ---- eight at once

-- a number of n bits that are the bits of values of k bits each
abbrev pub SpellsEach : ℕ → ℕ → List ℕ → ℕ → Type 0
SpellsEach k n values number = Spells n (flat_map (binary k) values) number

-- two numbers of n bits each, joined as one number of m bits
joined_value : (n m x y : ℕ) → n + n ≡ m → m ≤ 32 → x < 2 ^ n → y < 2 ^ n → (x * 2 ^ n % 4294967296 + y) % 4294967296 ≡ x * 2 ^ n % 2 ^ 64 + y
joined_value n m x y sum short high low =
    let narrow : x * 2 ^ n % 2 ^ 32 ≡ x * 2 ^ n = shl_whole x n n 32 high (omega (arith, sum, short)) in
    let wide : x * 2 ^ n % 2 ^ 64 ≡ x * 2 ^ n = shl_whole x n n 64 high (omega (arith, sum, short)) in
    let next = is_joined_number n n x y (omega (arith, sum, short)) high low in
    let most : 2 ^ (n + n) ≤ 2 ^ 32 = pow_mono {i = n + n} {j = 32} (omega (arith, sum, short)) in
    omega (arith, narrow, wide, next.below, most)

join_word : (k n m : ℕ) (vs us : List ℕ) (x y : ℕ) → n + n ≡ m → m ≤ 64 → SpellsEach k n vs x → SpellsEach k n us y
    → SpellsEach k m (vs ++ us) (x * 2 ^ n % 2 ^ 64 + y)
join_word k n m vs us x y sum short first second =
    let next = is_joined_number n n x y (omega (arith, sum, short)) first.below second.below in
    let value : ℕ = x * 2 ^ n % 2 ^ 64 + y in
    record {
      below = subst (λ (b : ℕ). value < 2 ^ b) sum next.below;
      bits = ap (λ (b : ℕ). binary b value) (sym sum) ∙ next.bits ∙ ap₂ ◌++◌ first.bits second.bits ∙ sym (flat_map-append (binary k) vs us);
    }

join_lane : (k n m : ℕ) (vs us : List ℕ) (x y : ℕ) → n + n ≡ m → m ≤ 32 → SpellsEach k n vs x → SpellsEach k n us y
    → SpellsEach k m (vs ++ us) ((x * 2 ^ n % 4294967296 + y) % 4294967296)
join_lane k n m vs us x y sum short first second =
    subst (SpellsEach k m (vs ++ us)) (sym (joined_value n m x y sum short first.below second.below))
    (join_word k n m vs us x y sum (omega (arith, short)) first second)

one_spells : (k v : ℕ) → v < 2 ^ k → SpellsEach k k (v ∷ []) v
one_spells k v small = record { below = small; bits = sym (append-nil (binary k v)) }

abbrev two_of : ℕ → ℕ → ℕ → ℕ
two_of n x y = (x * 2 ^ n % 4294967296 + y) % 4294967296

pub eight_spell : (k : ℕ) (xs : List ℕ) (high low : ℕ) → k ≤ 7 → length xs ≡ 8 → AllByRecursion (λ v. v < 2 ^ k) xs
    → high ≡ two_of (2 * k) (two_of k (get_or (xs ++ xs) 0 0) (get_or (xs ++ xs) 1 0)) (two_of k (get_or (xs ++ xs) 2 0) (get_or (xs ++ xs) 3 0))
    → low ≡ two_of (2 * k) (two_of k (get_or (xs ++ xs) 4 0) (get_or (xs ++ xs) 5 0)) (two_of k (get_or (xs ++ xs) 6 0) (get_or (xs ++ xs) 7 0))
    → SpellsEach k (8 * k) xs (high * 2 ^ (4 * k) % 2 ^ 64 + low)
eight_spell k (a ∷ b ∷ c ∷ d ∷ e ∷ f ∷ g ∷ h ∷ []) high low few long all high_is low_is =
    let first = join_lane k k (2 * k) (a ∷ []) (b ∷ []) a b (omega arith) (omega arith) (one_spells k a all.0) (one_spells k b all.1.0) in
    let second = join_lane k k (2 * k) (c ∷ []) (d ∷ []) c d (omega arith) (omega arith) (one_spells k c all.1.1.0) (one_spells k d all.1.1.1.0) in
    let third = join_lane k k (2 * k) (e ∷ []) (f ∷ []) e f (omega arith) (omega arith) (one_spells k e all.1.1.1.1.0) (one_spells k f all.1.1.1.1.1.0) in
    let fourth = join_lane k k (2 * k) (g ∷ []) (h ∷ []) g h (omega arith) (omega arith)
    (one_spells k g all.1.1.1.1.1.1.0) (one_spells k h all.1.1.1.1.1.1.1.0) in
    let front : SpellsEach k (4 * k) (a ∷ b ∷ c ∷ d ∷ []) high = subst (SpellsEach k (4 * k) (a ∷ b ∷ c ∷ d ∷ [])) (sym high_is)
    (join_lane k (2 * k) (4 * k) (a ∷ b ∷ []) (c ∷ d ∷ []) _ _ (omega arith) (omega arith) first second) in
    let back : SpellsEach k (4 * k) (e ∷ f ∷ g ∷ h ∷ []) low = subst (SpellsEach k (4 * k) (e ∷ f ∷ g ∷ h ∷ [])) (sym low_is)
    (join_lane k (2 * k) (4 * k) (e ∷ f ∷ []) (g ∷ h ∷ []) _ _ (omega arith) (omega arith) third fourth) in
    join_word k (4 * k) (8 * k) (a ∷ b ∷ c ∷ d ∷ []) (e ∷ f ∷ g ∷ h ∷ []) high low (omega arith) (omega arith) front back
eight_spell k [] high low few long all high_is low_is = absurd (omega arith)
eight_spell k (a ∷ []) high low few long all high_is low_is = absurd (omega arith)
eight_spell k (a ∷ b ∷ []) high low few long all high_is low_is = absurd (omega arith)
eight_spell k (a ∷ b ∷ c ∷ []) high low few long all high_is low_is = absurd (omega arith)
eight_spell k (a ∷ b ∷ c ∷ d ∷ []) high low few long all high_is low_is = absurd (omega arith)
eight_spell k (a ∷ b ∷ c ∷ d ∷ e ∷ []) high low few long all high_is low_is = absurd (omega arith)
eight_spell k (a ∷ b ∷ c ∷ d ∷ e ∷ f ∷ []) high low few long all high_is low_is = absurd (omega arith)
eight_spell k (a ∷ b ∷ c ∷ d ∷ e ∷ f ∷ g ∷ []) high low few long all high_is low_is = absurd (omega arith)
eight_spell k (a ∷ b ∷ c ∷ d ∷ e ∷ f ∷ g ∷ h ∷ i ∷ more) high low few long all high_is low_is = absurd (omega arith)

masked : (k mask : ℕ) (xs : List ℕ) → mask ≡ 2 ^ k - 1
    → zip2 (act2 and_op (s_int w32) (s_int w32) (s_int w32)) xs (replicate (length xs) mask) ≡ map (λ v. v % 2 ^ k) xs
masked k mask [] is = refl
masked k mask (x ∷ xs) is = ap₂ ◌∷◌ (ap (bit_and x) is ∙ and_mask x k) (masked k mask xs is)

pub masked_eight : (k : ℕ) (xs : List ℕ) → k < 32 → length xs ≡ 8
    → zip2 (act2 and_op (s_int w32) (s_int w32) (s_int w32)) (take 8 xs) (replicate 8 (1 * 2 ^ k % 4294967296 - 1)) ≡ map (λ v. v % 2 ^ k) xs
masked_eight k xs few long =
    let mask : ℕ = 1 * 2 ^ k % 4294967296 - 1 in
    ap (λ (l : List ℕ). zip2 (act2 and_op (s_int w32) (s_int w32) (s_int w32)) l (replicate 8 mask)) (take_all 8 xs (omega arith))
    ∙ ap (λ (n : ℕ). zip2 (act2 and_op (s_int w32) (s_int w32) (s_int w32)) xs (replicate n mask)) (sym long)
    ∙ masked k mask xs (ap (λ (n : ℕ). n - 1) (one_shl k 32 (omega arith)))

lows_small : (k : ℕ) (xs : List ℕ) → AllByRecursion (λ v. v < 2 ^ k) (map (λ v. v % 2 ^ k) xs)
lows_small k [] = tt
lows_small k (x ∷ xs) = (mod-lt x (pow_pos k), lows_small k xs)

pub lows_below : (k : ℕ) (xs lows : List ℕ) → lows ≡ map (λ v. v % 2 ^ k) xs → AllByRecursion (λ v. v < 2 ^ k) lows
lows_below k xs lows is = subst (AllByRecursion (λ v. v < 2 ^ k)) (sym is) (lows_small k xs)

lows_spell : (k : ℕ) (xs : List ℕ) → flat_map (binary k) (map (λ v. v % 2 ^ k) xs) ≡ low_parts k xs
lows_spell k [] = refl
lows_spell k (x ∷ xs) = ap (λ l. binary k (x % 2 ^ k) ++ l) (lows_spell k xs)

pub eight_low_word : (k n : ℕ) (xs lows : List ℕ) (number : ℕ) → n ≡ 8 → lows ≡ map (λ v. v % 2 ^ k) xs → SpellsEach k (8 * k) lows number
    → Spells (n * k) (low_parts k xs) number
eight_low_word k n xs lows number count is spelled =
    let e : 8 * k ≡ n * k = ap (λ m. m * k) (sym count) in
    record {
      below = subst (λ m. number < 2 ^ m) e spelled.below;
      bits = ap (λ m. binary m number) (sym e) ∙ spelled.bits ∙ ap (flat_map (binary k)) is ∙ lows_spell k xs;
    }
