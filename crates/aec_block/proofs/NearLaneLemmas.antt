-- Differences of near values in lanes: half of the value, with all bits inverted if it is odd.
use Rattle.std.proofs.Common.{◌≡◌, ℕ, ◌+◌, ◌-◌, ◌/◌, ◌%◌, ◌^◌, ◌<◌, refl, ap, ap₂, ◌∙◌, sym, subst, arith, List, [], ◌∷◌, length, map, take, get_or, bit_and, inl, inr, Bool, false, nat_lt, ◌≤◌}
use Rattle.std.specs.Simd.Lanes.{Each1, zip2, sel_l}
use Rattle.std.specs.Simd.Lanes.{top as lane_top}
use Rattle.std.specs.Prelude.{replicate}
use Rattle.std.proofs.lemmas.Bool.{cases_lt}
use Rattle.std.proofs.lemmas.Bool.Decides.{nat_tests}
use Rattle.std.proofs.lemmas.Nat.{and_mask}
use Rattle.std.proofs.lemmas.List.{take_all}
use Rattle.std.proofs.lemmas.Simd.{chunk-fits, length-zip2, get_or-zip2, get_or-replicate, get_or-sel_l, tops_compared}
use Rattle.aec_block.specs.Offsets.{offset_room, near_difference, places_before, places_after}
use mathlib.Core.Bool.{cond}
use mir.Syntax.{shr, unsigned, w32, wrap_add, wrap_sub, lt, mask}
use mir.Syntax.{bit_and as and_op, bit_xor as xor_op}
use lib.Bits.{bit_xor, xor_add_and, xor_zero_r}
use mir.Val.{Fits}
use borrow.Rule.Simd.Lanes.{act2}
use borrow.Table.Row.{s_int}

-- what one lane computes
abbrev lane_difference : ℕ → ℕ → ℕ → ℕ
lane_difference x one none = bit_xor (x / 2 ^ one) ((none + (4294967296 - bit_and x one)) % 4294967296)

near_difference-even : (x : ℕ) → x % 2 ≡ 0 → near_difference x ≡ x / 2
near_difference-even x even = grind (arith, nat_tests)

near_difference-odd : (x : ℕ) → x % 2 ≡ 1 → near_difference x ≡ 4294967296 - (x / 2 + 1)
near_difference-odd x odd = grind (arith, nat_tests)

even-lane : (x : ℕ) → x % 2 ≡ 0 → lane_difference x 1 0 ≡ near_difference x
even-lane x even =
    let mask : (0 + (4294967296 - bit_and x 1)) % 4294967296 ≡ 0 = omega (arith, and_mask x 1, even) in
    ap (bit_xor (x / 2)) mask ∙ (xor_zero_r (x / 2) ∙ sym (near_difference-even x even))

odd-lane : (x : ℕ) → x < 4294967296 → x % 2 ≡ 1 → lane_difference x 1 0 ≡ near_difference x
odd-lane x fits odd =
    let half : ℕ = x / 2 in
    let mask : (0 + (4294967296 - bit_and x 1)) % 4294967296 ≡ 4294967295 = omega (arith, and_mask x 1, odd) in
    let turned : bit_xor half 4294967295 ≡ 4294967295 - half = omega (arith, xor_add_and half 4294967295, and_mask half 32, fits) in
    ap (bit_xor half) mask ∙ omega (arith, turned, fits, near_difference-odd x odd)

one-lane : (x : ℕ) → x < 4294967296 → lane_difference x 1 0 ≡ near_difference x
one-lane x fits =
    elim (cases_lt (x % 2) 1) [
      | inl less ↦ even-lane x (omega arith)
      | inr more ↦ odd-lane x fits (omega arith)
    ]

-- what all lanes compute
abbrev pub lanes_of : List ℕ → List ℕ → List ℕ → List ℕ
lanes_of xs ones zeros =
    zip2 (act2 xor_op (s_int w32) (s_int w32) (s_int w32))
    (zip2 (act2 (shr unsigned) (s_int w32) (s_int w32) (s_int w32)) xs ones)
    (zip2 (act2 wrap_sub (s_int w32) (s_int w32) (s_int w32)) zeros
    (zip2 (act2 and_op (s_int w32) (s_int w32) (s_int w32)) xs ones))

pub lanes_of-differences : (xs : List ℕ) → Each1 (Fits w32) xs
    → lanes_of xs (replicate (length xs) 1) (replicate (length xs) 0) ≡ map near_difference xs
lanes_of-differences [] fit = refl
lanes_of-differences (x ∷ xs) fit = ap₂ ◌∷◌ (one-lane x fit.0.fits) (lanes_of-differences xs fit.1)

-- eight lanes that are the whole list
pub eight-differences : (xs : List ℕ) → length xs ≡ 8 → ((i : ℕ) → Fits w32 (get_or xs i 0))
    → lanes_of (take 8 xs) (replicate 8 1) (replicate 8 0) ≡ map near_difference xs
eight-differences xs long fit =
    let whole : take 8 xs ≡ xs = take_all 8 xs (omega arith) in
    let each : Each1 (Fits w32) xs = subst (λ (vs : List ℕ). Each1 (Fits w32) vs) whole (chunk-fits w32 0 8 xs fit) in
    ap (λ (vs : List ℕ). lanes_of vs (replicate 8 1) (replicate 8 0)) whole
    ∙ (ap (λ (n : ℕ). lanes_of xs (replicate n 1) (replicate n 0)) (sym long) ∙ lanes_of-differences xs each)

pub ruleset differences = (eight-differences)

-- ---- differences added up, by pairs, then fours, then eights

-- x and y are equal modulo 2^32
abbrev Same : ℕ → ℕ → Type 0
Same x y = x % 4294967296 ≡ y % 4294967296

both : (x y u v s : ℕ) → Same x u → Same y v → u + v ≡ s → Same ((x + y) % 4294967296) s
both x y u v s first second sum = omega (arith, first, second, sum)

-- numbers that equal s modulo 2^32 have equal remainders
equal : (x y s : ℕ) → Same (x % 4294967296) s → Same (y % 4294967296) s → x % 4294967296 ≡ y % 4294967296
equal x y s first second = omega (arith, first, second)

abbrev added : ℕ → ℕ → ℕ
added x y = (x + y) % 4294967296

running-eight : (p a b c d e f g h : ℕ) → p < 4294967296
    → (added (added (added p 0) 0) 0) ∷ (added (added (added a p) 0) 0) ∷ (added (added (added b a) (added p 0)) 0)
    ∷ (added (added (added c b) (added a p)) 0) ∷ (added (added (added d c) (added b a)) (added (added p 0) 0))
    ∷ (added (added (added e d) (added c b)) (added (added a p) 0)) ∷ (added (added (added f e) (added d c)) (added (added b a) (added p 0)))
    ∷ (added (added (added g f) (added e d)) (added (added c b) (added a p))) ∷ []
    ≡ places_before p (a ∷ b ∷ c ∷ d ∷ e ∷ f ∷ g ∷ h ∷ [])
running-eight p a b c d e f g h fits =
    let two0 : Same (added p 0) p = both p 0 p 0 p refl refl (omega arith) in
    let two1 : Same (added a p) (p + a) = both a p a p (p + a) refl refl (omega arith) in
    let two2 : Same (added b a) (a + b) = both b a b a (a + b) refl refl (omega arith) in
    let two3 : Same (added c b) (b + c) = both c b c b (b + c) refl refl (omega arith) in
    let two4 : Same (added d c) (c + d) = both d c d c (c + d) refl refl (omega arith) in
    let two5 : Same (added e d) (d + e) = both e d e d (d + e) refl refl (omega arith) in
    let two6 : Same (added f e) (e + f) = both f e f e (e + f) refl refl (omega arith) in
    let two7 : Same (added g f) (f + g) = both g f g f (f + g) refl refl (omega arith) in
    let four0 : Same (added (added p 0) 0) p = both (added p 0) 0 p 0 p two0 refl (omega arith) in
    let four1 : Same (added (added a p) 0) (p + a) = both (added a p) 0 (p + a) 0 (p + a) two1 refl (omega arith) in
    let four2 : Same (added (added b a) (added p 0)) (p + a + b) = both (added b a) (added p 0) (a + b) p (p + a + b) two2 two0 (omega arith) in
    let four3 : Same (added (added c b) (added a p)) (p + a + b + c) = both (added c b) (added a p) (b + c) (p + a) (p + a + b + c) two3 two1 (omega arith) in
    let four4 : Same (added (added d c) (added b a)) (a + b + c + d) = both (added d c) (added b a) (c + d) (a + b) (a + b + c + d) two4 two2 (omega arith) in
    let four5 : Same (added (added e d) (added c b)) (b + c + d + e) = both (added e d) (added c b) (d + e) (b + c) (b + c + d + e) two5 two3 (omega arith) in
    let four6 : Same (added (added f e) (added d c)) (c + d + e + f) = both (added f e) (added d c) (e + f) (c + d) (c + d + e + f) two6 two4 (omega arith) in
    let four7 : Same (added (added g f) (added e d)) (d + e + f + g) = both (added g f) (added e d) (f + g) (d + e) (d + e + f + g) two7 two5 (omega arith) in
    let one : ℕ = added p a in
    let two : ℕ = added one b in
    let three : ℕ = added two c in
    let four : ℕ = added three d in
    let five : ℕ = added four e in
    let six : ℕ = added five f in
    let at1 : Same one (p + a) = both p a p a (p + a) refl refl refl in
    let at2 : Same two (p + a + b) = both one b (p + a) b (p + a + b) at1 refl refl in
    let at3 : Same three (p + a + b + c) = both two c (p + a + b) c (p + a + b + c) at2 refl refl in
    let at4 : Same four (p + a + b + c + d) = both three d (p + a + b + c) d (p + a + b + c + d) at3 refl refl in
    let at5 : Same five (p + a + b + c + d + e) = both four e (p + a + b + c + d) e (p + a + b + c + d + e) at4 refl refl in
    let at6 : Same six (p + a + b + c + d + e + f) = both five f (p + a + b + c + d + e) f (p + a + b + c + d + e + f) at5 refl refl in
    let at7 : Same (added six g) (p + a + b + c + d + e + f + g) = both six g (p + a + b + c + d + e + f) g (p + a + b + c + d + e + f + g) at6 refl refl in
    let lane0 : added (added (added p 0) 0) 0 ≡ p = omega (arith, fits, both (added (added p 0) 0) 0 p 0 p four0 refl (omega arith)) in
    let lane1 : added (added (added a p) 0) 0 ≡ one =
    equal _ _ (p + a) (both (added (added a p) 0) 0 (p + a) 0 (p + a) four1 refl (omega arith)) at1 in
    let lane2 : added (added (added b a) (added p 0)) 0 ≡ two =
    equal _ _ (p + a + b) (both (added (added b a) (added p 0)) 0 (p + a + b) 0 (p + a + b) four2 refl (omega arith)) at2 in
    let lane3 : added (added (added c b) (added a p)) 0 ≡ three =
    equal _ _ (p + a + b + c) (both (added (added c b) (added a p)) 0 (p + a + b + c) 0 (p + a + b + c) four3 refl (omega arith)) at3 in
    let lane4 = equal _ _ (p + a + b + c + d)
    (both (added (added d c) (added b a)) (added (added p 0) 0)
    (a + b + c + d) p (p + a + b + c + d) four4 four0 (omega arith)) at4 in
    let lane5 = equal _ _ (p + a + b + c + d + e)
    (both (added (added e d) (added c b)) (added (added a p) 0)
    (b + c + d + e) (p + a) (p + a + b + c + d + e) four5 four1 (omega arith)) at5 in
    let lane6 = equal _ _ (p + a + b + c + d + e + f)
    (both (added (added f e) (added d c)) (added (added b a) (added p 0))
    (c + d + e + f) (p + a + b) (p + a + b + c + d + e + f) four6 four2 (omega arith)) at6 in
    let lane7 = equal _ _ (p + a + b + c + d + e + f + g)
    (both (added (added g f) (added e d)) (added (added c b) (added a p))
    (d + e + f + g) (p + a + b + c) (p + a + b + c + d + e + f + g) four7 four3 (omega arith)) at7 in
    ap₂ ◌∷◌ lane0 (ap₂ ◌∷◌ lane1 (ap₂ ◌∷◌ lane2 (ap₂ ◌∷◌ lane3 (ap₂ ◌∷◌ lane4 (ap₂ ◌∷◌ lane5 (ap₂ ◌∷◌ lane6 (ap₂ ◌∷◌ lane7 refl)))))))

-- for eight differences in a list, the lanes' sums are the places before the differences
pub running-list : (p : ℕ) (ds : List ℕ) → p < 4294967296 → length ds ≡ 8
    → (added (added (added p 0) 0) 0) ∷ (added (added (added (get_or ds 0 0) p) 0) 0) ∷ (added (added (added (get_or ds 1 0) (get_or ds 0 0)) (added p 0)) 0)
    ∷ (added (added (added (get_or ds 2 0) (get_or ds 1 0)) (added (get_or ds 0 0) p)) 0)
    ∷ (added (added (added (get_or ds 3 0) (get_or ds 2 0)) (added (get_or ds 1 0) (get_or ds 0 0))) (added (added p 0) 0))
    ∷ (added (added (added (get_or ds 4 0) (get_or ds 3 0)) (added (get_or ds 2 0) (get_or ds 1 0))) (added (added (get_or ds 0 0) p) 0))
    ∷ (added (added (added (get_or ds 5 0) (get_or ds 4 0)) (added (get_or ds 3 0) (get_or ds 2 0)))
    (added (added (get_or ds 1 0) (get_or ds 0 0)) (added p 0)))
    ∷ (added (added (added (get_or ds 6 0) (get_or ds 5 0)) (added (get_or ds 4 0) (get_or ds 3 0)))
    (added (added (get_or ds 2 0) (get_or ds 1 0)) (added (get_or ds 0 0) p))) ∷ []
    ≡ places_before p ds
running-list p (a ∷ b ∷ c ∷ d ∷ e ∷ f ∷ g ∷ h ∷ []) fits long = running-eight p a b c d e f g h fits
running-list p [] fits long = absurd (omega arith)
running-list p (a ∷ []) fits long = absurd (omega arith)
running-list p (a ∷ b ∷ []) fits long = absurd (omega arith)
running-list p (a ∷ b ∷ c ∷ []) fits long = absurd (omega arith)
running-list p (a ∷ b ∷ c ∷ d ∷ []) fits long = absurd (omega arith)
running-list p (a ∷ b ∷ c ∷ d ∷ e ∷ []) fits long = absurd (omega arith)
running-list p (a ∷ b ∷ c ∷ d ∷ e ∷ f ∷ []) fits long = absurd (omega arith)
running-list p (a ∷ b ∷ c ∷ d ∷ e ∷ f ∷ g ∷ []) fits long = absurd (omega arith)
running-list p (a ∷ b ∷ c ∷ d ∷ e ∷ f ∷ g ∷ h ∷ i ∷ more) fits long = absurd (omega arith)

-- the places after the differences, from the places before them
pub next_places : (p : ℕ) (before ds : List ℕ) → before ≡ places_before p ds
    → zip2 (act2 wrap_add (s_int w32) (s_int w32) (s_int w32)) before ds ≡ places_after p ds
next_places p before ds is = ap (λ (xs : List ℕ). zip2 (act2 wrap_add (s_int w32) (s_int w32) (s_int w32)) xs ds) is ∙ from p ds
  where
    from : (p : ℕ) (ds : List ℕ) → zip2 (act2 wrap_add (s_int w32) (s_int w32) (s_int w32)) (places_before p ds) ds ≡ places_after p ds
    from p [] = refl
    from p (d ∷ ds) = ap (λ (xs : List ℕ). added p d ∷ xs) (from (added p d) ds)

-- the parity of each place
parity_lanes-map : (xs : List ℕ) → zip2 (act2 and_op (s_int w32) (s_int w32) (s_int w32)) xs (replicate (length xs) 1) ≡ map (λ x. x % 2) xs
parity_lanes-map [] = refl
parity_lanes-map (x ∷ xs) = ap₂ ◌∷◌ (and_mask x 1) (parity_lanes-map xs)

pub parity_eight : (xs : List ℕ) → length xs ≡ 8
    → zip2 (act2 and_op (s_int w32) (s_int w32) (s_int w32)) xs (replicate 8 1) ≡ map (λ x. x % 2) xs
parity_eight xs long =
    ap (λ (n : ℕ). zip2 (act2 and_op (s_int w32) (s_int w32) (s_int w32)) xs (replicate n 1)) (sym long) ∙ parity_lanes-map xs

pub ruleset parity_lanes = (parity_eight)

-- ---- rooms

-- a value minus its half
needed_one : (v : ℕ) → v < 4294967296 → (v + (4294967296 - v / 2 ^ 1)) % 4294967296 ≡ v - v / 2
needed_one v fits = omega (arith, fits)

pub needed_lanes : (xs : List ℕ) → Each1 (Fits w32) xs
    → zip2 (act2 wrap_sub (s_int w32) (s_int w32) (s_int w32)) xs
    (zip2 (act2 (shr unsigned) (s_int w32) (s_int w32) (s_int w32)) xs (replicate (length xs) 1)) ≡ map (λ v. v - v / 2) xs
needed_lanes [] fit = refl
needed_lanes (x ∷ xs) fit = ap₂ ◌∷◌ (needed_one x fit.0.fits) (needed_lanes xs fit.1)

pub needed_eight : (xs : List ℕ) → length xs ≡ 8 → ((i : ℕ) → Fits w32 (get_or xs i 0))
    → zip2 (act2 wrap_sub (s_int w32) (s_int w32) (s_int w32)) (take 8 xs)
    (zip2 (act2 (shr unsigned) (s_int w32) (s_int w32) (s_int w32)) (take 8 xs) (replicate 8 1)) ≡ map (λ v. v - v / 2) xs
needed_eight xs long fit =
    let whole : take 8 xs ≡ xs = take_all 8 xs (omega arith) in
    let each : Each1 (Fits w32) xs = subst (λ (vs : List ℕ). Each1 (Fits w32) vs) whole (chunk-fits w32 0 8 xs fit) in
    ap (λ (vs : List ℕ). zip2 (act2 wrap_sub (s_int w32) (s_int w32) (s_int w32)) vs
    (zip2 (act2 (shr unsigned) (s_int w32) (s_int w32) (s_int w32)) vs (replicate 8 1))) whole
    ∙ (ap (λ (n : ℕ). zip2 (act2 wrap_sub (s_int w32) (s_int w32) (s_int w32)) xs
    (zip2 (act2 (shr unsigned) (s_int w32) (s_int w32) (s_int w32)) xs (replicate n 1))) (sym long) ∙ needed_lanes xs each)

pub ruleset room_lanes = (needed_eight)

-- the lesser of a place and of what is left above it is the room around the place
lesser_room : (top p : ℕ) → top < 4294967296 → p ≤ top
    → cond (nat_lt p ((top + (4294967296 - p)) % 4294967296)) p ((top + (4294967296 - p)) % 4294967296) ≡ offset_room top p
lesser_room top p small within =
    let left : (top + (4294967296 - p)) % 4294967296 ≡ top - p = omega (arith, small, within) in
    rw left (grind (arith, nat_tests))

abbrev left_above : ℕ → List ℕ → List ℕ
left_above top xs = zip2 (act2 wrap_sub (s_int w32) (s_int w32) (s_int w32)) (replicate 8 top) xs

pub room_of_eight : (top : ℕ) (xs : List ℕ) → top < 4294967296 → length xs ≡ 8 → (i : ℕ) → i < 8 → get_or xs i 0 ≤ top
    → get_or (sel_l (map (lane_top 31) (zip2 (act2 (mask (lt unsigned)) (s_int w32) (s_int w32) (s_int w32)) xs (left_above top xs)))
    xs (left_above top xs)) i 0
    ≡ offset_room top (get_or xs i 0)
room_of_eight top xs small long i within offset =
    let ys : List ℕ = left_above top xs in
    let len_ys : length ys ≡ 8 = length-zip2 (act2 wrap_sub (s_int w32) (s_int w32) (s_int w32)) (replicate 8 top) xs (sym long) in
    let len_tests : length (zip2 nat_lt xs ys) ≡ 8 = length-zip2 nat_lt xs ys (long ∙ sym len_ys) ∙ long in
    let at : get_or ys i 0 ≡ (top + (4294967296 - get_or xs i 0)) % 4294967296 =
    get_or-zip2 (act2 wrap_sub (s_int w32) (s_int w32) (s_int w32)) (replicate 8 top) xs i 0 0 0 within (omega arith)
    ∙ ap (λ (t : ℕ). (t + (4294967296 - get_or xs i 0)) % 4294967296) (get_or-replicate 8 i top 0 within) in
    let test : get_or (zip2 nat_lt xs ys) i false ≡ nat_lt (get_or xs i 0) (get_or ys i 0) = get_or-zip2 nat_lt xs ys i 0 0 false (omega arith) (omega arith) in
    ap (λ (ms : List Bool). get_or (sel_l ms xs ys) i 0) (tops_compared w32 nat_lt xs ys)
    ∙ get_or-sel_l (zip2 nat_lt xs ys) xs ys i 0 (omega arith) (omega arith) (omega arith)
    ∙ ap (λ (b : Bool). cond b (get_or xs i 0) (get_or ys i 0)) test
    ∙ ap (λ (y : ℕ). cond (nat_lt (get_or xs i 0) y) (get_or xs i 0) y) at
    ∙ lesser_room top (get_or xs i 0) small offset

pub ruleset running = (running-list)

pub ruleset next_lanes = (next_places)

pub ruleset rooms = (room_of_eight)
