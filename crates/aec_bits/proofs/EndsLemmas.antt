-- Where the fundamental sequences of a word end, found byte by byte, and what is between the ends.
use Rattle.std.proofs.Common.{◌≡◌, ℕ, zero, suc, ◌+◌, ◌-◌, ◌*◌, ◌/◌, ◌%◌, ◌^◌, ◌<◌, ◌≤◌, Bool, true, false, Some, List, [], ◌∷◌, ◌++◌, length, take, drop, map, get_or, replicate, refl, sym, ap, ap₂, ◌∙◌, arith, append_assoc, length-append, mod-eq_of_lt, zero-add, inl, inr}
use Rattle.std.specs.Prelude.{bit_and, count_ones}
use Rattle.std.specs.List.{flat_map}
use Rattle.std.specs.Simd.Lanes.{zip2}
use mir.Syntax.{cast, unsigned, w8, w32, wrap_add, wrap_sub}
use borrow.Rule.Simd.Lanes.{act1, act2}
use borrow.Rule.Slice.PartMut.{put_mid}
use borrow.Table.Row.{s_int}
use Rattle.std.proofs.Math.Seq.{take-append-add}
use Rattle.std.proofs.lemmas.Bool.{cases_lt}
use Rattle.std.proofs.lemmas.Simd.{zip2_splat}
use Rattle.std.proofs.lemmas.Slice.{take-put_mid}
use Rattle.std.proofs.lemmas.Nat.{shr-shr, mod_below, pow_pos}
use Rattle.std.proofs.lemmas.List.{append-nil, take_at, drop_at, take_all, drop_more, take-take, take-map, take-append-le, take-append-drop, length-take-le, length-replicate, get_or-take, get_or_append_left}
use Rattle.aec_params.specs.Codewords.{fs, binary}
use Rattle.aec_params.proofs.CodewordLaws.{length-binary}
use Rattle.aec_bits.specs.BitReader.{AreBelow, further, behind_ones}
use Rattle.aec_bits.specs.Ends.{ends_of_ones, ends_in_byte, ends_in_word, gaps_after, HasEnds, ReadsGaps}
use Rattle.aec_bits.specs.WordBits.{word_bits}
use Rattle.aec_bits.specs.Windows.{StandsBefore}
use Rattle.aec_bits.proofs.OnesLemmas.{ones_among, ones_among-whole, ones_in_word, further-zero, further-suc, behind_ones-le}
use Rattle.aec_bits.proofs.WordLemmas.{binary-add, binary-mod, length-word_bits, take-word_bits, word_bits-join, shl_mod, low_part}
use Rattle.aec_bits.proofs.ZeroLemmas.{binary-zero}

-- ---- the ends in a list of bits

pub length-ends_of_ones : (at : ℕ) (bits : List Bool) → length (ends_of_ones at bits) ≡ ones_among bits
length-ends_of_ones at [] = refl
length-ends_of_ones at (true ∷ bits) = omega (arith, length-ends_of_ones (suc at) bits)
length-ends_of_ones at (false ∷ bits) = length-ends_of_ones (suc at) bits

ones_among-le : (bits : List Bool) → ones_among bits ≤ length bits
ones_among-le [] = omega arith
ones_among-le (true ∷ bits) = omega (arith, ones_among-le bits)
ones_among-le (false ∷ bits) = omega (arith, ones_among-le bits)

ends_of_ones-append : (at : ℕ) (front rest : List Bool)
    → ends_of_ones at (front ++ rest) ≡ ends_of_ones at front ++ ends_of_ones (at + length front) rest
ends_of_ones-append at [] rest = let e : at ≡ at + 0 = omega arith in ap (λ n. ends_of_ones n rest) e
ends_of_ones-append at (true ∷ front) rest =
    let e : suc at + length front ≡ at + suc (length front) = omega arith in
    ap (λ l. suc at ∷ l) (ends_of_ones-append (suc at) front rest
    ∙ ap (λ n. ends_of_ones (suc at) front ++ ends_of_ones n rest) e)
ends_of_ones-append at (false ∷ front) rest =
    let e : suc at + length front ≡ at + suc (length front) = omega arith in
    ends_of_ones-append (suc at) front rest ∙ ap (λ n. ends_of_ones (suc at) front ++ ends_of_ones n rest) e

ends_of_ones-zeros : (at n : ℕ) → ends_of_ones at (replicate n false) ≡ []
ends_of_ones-zeros at zero = refl
ends_of_ones-zeros at (suc n) = ends_of_ones-zeros (suc at) n

-- the ends in a list that begins k places later
ends_of_ones-later : (k at : ℕ) (bits : List Bool) → at + length bits ≤ 8 → k ≤ 56
    → map (λ e. (e + k) % 2 ^ 8) (ends_of_ones at bits) ≡ ends_of_ones (at + k) bits
ends_of_ones-later k at [] within small = refl
ends_of_ones-later k at (true ∷ bits) within small =
    let e : (suc at + k) % 2 ^ 8 ≡ suc (at + k) = omega (arith, within, small) in
    let f : suc at + k ≡ suc (at + k) = omega arith in
    ap₂ ◌∷◌ e (ends_of_ones-later k (suc at) bits (omega (arith, within)) small ∙ ap (λ n. ends_of_ones n bits) f)
ends_of_ones-later k at (false ∷ bits) within small =
    let e : suc at + k ≡ suc (at + k) = omega arith in
    ends_of_ones-later k (suc at) bits (omega (arith, within)) small ∙ ap (λ n. ends_of_ones n bits) e

-- the n-th of them is the place after the n-th 1 bit
behind_ones-end : (n at : ℕ) (bits : List Bool) → n < ones_among bits → further at (behind_ones (suc n) bits) ≡ Some (get_or (ends_of_ones at bits) n 0)
behind_ones-end n at [] few = absurd (omega (arith, few))
behind_ones-end zero at (true ∷ bits) few = let e : at + (1 + 0) ≡ suc at = omega arith in ap (λ n. Some n) e
behind_ones-end (suc n) at (true ∷ bits) few = further-suc at (behind_ones (suc n) bits) ∙ behind_ones-end n (suc at) bits (omega (arith, few))
behind_ones-end n at (false ∷ bits) few = further-suc at (behind_ones (suc n) bits) ∙ behind_ones-end n (suc at) bits few

-- ---- the first one

record BeginsWithOne (bits : List Bool) : Type 0 where
  zeros : ℕ
  rest : List Bool
  is : bits ≡ fs zeros ++ rest
  ends : (at : ℕ) → ends_of_ones at bits ≡ suc (at + zeros) ∷ ends_of_ones (suc (at + zeros)) rest
  ones : ones_among bits ≡ 1 + ones_among rest
  len : length bits ≡ zeros + 1 + length rest

begins_with_one : (bits : List Bool) → 0 < ones_among bits → BeginsWithOne bits
begins_with_one [] some = absurd (omega arith)
begins_with_one (true ∷ bits) some = record {
  zeros = 0;
  rest = bits;
  is = refl;
  ends = λ at. let e : at ≡ at + 0 = omega arith in ap (λ n. suc n ∷ ends_of_ones (suc n) bits) e;
  ones = refl;
  len = omega arith;
}
begins_with_one (false ∷ bits) some =
    let next = begins_with_one bits some in
    record {
      zeros = suc next.zeros;
      rest = next.rest;
      is = ap (λ l. false ∷ l) next.is;
      ends = λ at. let e : suc at + next.zeros ≡ at + suc next.zeros = omega arith in
          next.ends (suc at) ∙ ap (λ n. suc n ∷ ends_of_ones (suc n) next.rest) e;
      ones = next.ones;
      len = omega (arith, next.len);
    }

-- ---- the fundamental sequences between the ends

-- the first n gaps are those of fundamental sequences that begin the bits
pub record SequencesEnd (n before limit : ℕ) (ends : List ℕ) (bits : List Bool) : Type 0 where
  pub rest : List Bool
  pub stands : bits ≡ flat_map fs (gaps_after before (take n ends)) ++ rest
  pub below : AreBelow limit (gaps_after before (take n ends))
  pub gone : (m : ℕ) → n ≡ suc m → get_or ends m 0 + length rest ≡ before + length bits
  pub shorter : n + length rest ≤ length bits

gap : (before n e : ℕ) → e ≡ suc (before + n) → e ≤ 255 → ((e + (2 ^ 8 - before)) % 2 ^ 8 + (2 ^ 8 - 1)) % 2 ^ 8 ≡ n
gap before n e is small = omega (arith, is, small)

gone_of : (n at limit : ℕ) (bits : List Bool) (next : SequencesEnd n at limit (ends_of_ones at bits) bits) (m : ℕ) → suc n ≡ suc m
    → get_or (at ∷ ends_of_ones at bits) m 0 + length next.rest ≡ at + length bits
gone_of zero at limit bits next zero same = omega (arith, ap length next.stands)
gone_of zero at limit bits next (suc m) same = absurd (omega (arith, same))
gone_of (suc n) at limit bits next zero same = absurd (omega (arith, same))
gone_of (suc n) at limit bits next (suc m) same = next.gone m (omega (arith, same))

one_more : (v w : ℕ) (values : List ℕ) (rest later bits : List Bool) → w ≡ v → bits ≡ fs v ++ rest → rest ≡ flat_map fs values ++ later
    → bits ≡ flat_map fs (w ∷ values) ++ later
one_more v w values rest later bits same first next =
    first ∙ ap₂ (λ n l. fs n ++ l) (sym same) next ∙ sym (append_assoc (fs w) (flat_map fs values) later)

pub sequences_end : (n before limit : ℕ) (bits : List Bool) → n ≤ ones_among bits → before + length bits ≤ 255 → length bits ≤ limit
    → SequencesEnd n before limit (ends_of_ones before bits) bits
sequences_end zero before limit bits enough small within = record {
  rest = bits;
  stands = refl;
  below = tt;
  gone = λ m none. absurd (omega (arith, none));
  shorter = omega arith;
}
sequences_end (suc n) before limit bits enough small within =
    let first = begins_with_one bits (omega (arith, enough)) in
    let at : ℕ = suc (before + first.zeros) in
    let next = sequences_end n at limit first.rest (omega (arith, enough, first.ones)) (omega (arith, small, first.len))
    (omega (arith, within, first.len)) in
    let zeros : ((at + (2 ^ 8 - before)) % 2 ^ 8 + (2 ^ 8 - 1)) % 2 ^ 8 ≡ first.zeros =
    gap before first.zeros at refl (omega (arith, small, first.len)) in
    rw (first.ends before) (record {
      rest = next.rest;
      stands = one_more first.zeros _ (gaps_after at (take n (ends_of_ones at first.rest))) first.rest next.rest bits zeros first.is next.stands;
      below = (rw zeros (omega (arith, within, first.len)), next.below);
      gone = λ m same. omega (arith, gone_of n at limit first.rest next m same, first.len);
      shorter = omega (arith, next.shorter, first.len);
    })

-- ---- a byte

-- the ends in a byte that begins at place `at`, found in lanes
pub ends_in_lanes : (byte at : ℕ) (row : List ℕ) → byte < 256 → at ≤ 56 → row ≡ ends_in_byte byte
    → take (count_ones byte) (zip2 (act2 wrap_add (s_int w8) (s_int w8) (s_int w8)) row (replicate 8 at)) ≡ ends_of_ones at (binary 8 byte)
ends_in_lanes byte at row small within is =
    let bits : List Bool = binary 8 byte in
    let here : List ℕ = ends_of_ones 0 bits in
    let ones : count_ones byte ≡ length here = sym (length-ends_of_ones 0 bits ∙ ones_among-whole 8 byte small) in
    let long : length here ≤ 8 = omega (arith, length-ends_of_ones 0 bits, ones_among-le bits, length-binary 8 byte) in
    let filled : List ℕ = here ++ replicate 8 0 in
    let eight : length (take 8 filled) ≡ 8 =
    length-take-le 8 filled (omega (arith, length-append here (replicate 8 0), length-replicate {A = ℕ} 8 0)) in
    let front : take (count_ones byte) row ≡ here =
    ap₂ take ones is ∙ take-take (length here) 8 filled long ∙ take_at here (replicate 8 0) (length here) refl in
    ap (take (count_ones byte)) (zip2_splat (act2 wrap_add (s_int w8) (s_int w8) (s_int w8)) row 8 at (ap length is ∙ eight))
    ∙ take-map (λ e. (e + at) % 2 ^ 8) (count_ones byte) row
    ∙ ap (map (λ e. (e + at) % 2 ^ 8)) front
    ∙ ends_of_ones-later at 0 bits (omega (arith, length-binary 8 byte)) within
    ∙ ap (λ n. ends_of_ones n bits) (zero-add at)

-- the place after the n-th 1 bit of a byte, by the byte's row
pub end_in_row : (byte nth place : ℕ) (row : List ℕ) → byte < 256 → 0 < nth → nth ≤ count_ones byte → row ≡ ends_in_byte byte
    → place ≡ get_or row (nth - 1) 0 → (Some place ≡ behind_ones nth (binary 8 byte)) × (place ≤ 8)
end_in_row byte zero place row small some there is place_is = absurd (omega (arith, some))
end_in_row byte (suc n) place row small some there is place_is =
    let bits : List Bool = binary 8 byte in
    let here : List ℕ = ends_of_ones 0 bits in
    let ones : ones_among bits ≡ count_ones byte = ones_among-whole 8 byte small in
    let many : length here ≡ count_ones byte = length-ends_of_ones 0 bits ∙ ones in
    let long : length here ≤ 8 = omega (arith, length-ends_of_ones 0 bits, ones_among-le bits, length-binary 8 byte) in
    let found : further 0 (behind_ones (suc n) bits) ≡ Some (get_or here n 0) = behind_ones-end n 0 bits (omega (arith, ones, there)) in
    let at : suc n - 1 ≡ n = omega arith in
    let same : place ≡ get_or here n 0 =
    place_is ∙ ap (λ i. get_or row i 0) at ∙ ap (λ l. get_or l n 0) is
    ∙ get_or-take 8 (here ++ replicate 8 0) n 0 (omega (arith, many, long, there))
    ∙ get_or_append_left here (replicate 8 0) 0 n (omega (arith, many, there)) in
    let answer : behind_ones (suc n) bits ≡ Some place = sym (further-zero (behind_ones (suc n) bits)) ∙ found ∙ ap (λ k. Some k) (sym same) in (
      sym answer,
      omega (arith, behind_ones-le (suc n) place bits answer, length-binary 8 byte),
    )

-- the next byte of a word
next_byte : (word i : ℕ) → i < 8
    → take (8 * (i + 1)) (word_bits word) ≡ take (8 * i) (word_bits word) ++ binary 8 (word / 2 ^ (56 - 8 * i) % 256)
next_byte word i within =
    let rest : ℕ = 56 - 8 * i in
    let more : 8 * (i + 1) ≡ 8 * i + 8 = omega arith in
    let shift : rest + 8 ≡ 64 - 8 * i = omega (arith, within) in
    ap (λ n. take n (word_bits word)) more
    ∙ take-word_bits (8 * i + 8) rest word (omega (arith, within))
    ∙ binary-add (8 * i) 8 (word / 2 ^ rest)
    ∙ ap₂ ◌++◌ (ap (binary (8 * i)) (shr-shr word rest 8 ∙ ap (λ n. word / 2 ^ n) shift)
    ∙ sym (take-word_bits (8 * i) (64 - 8 * i) word (omega (arith, within)))) (sym (binary-mod 8 (word / 2 ^ rest)))

-- with the ends in one more byte
pub ends_more : (word i count byte : ℕ) (ends row : List ℕ) → i < 8 → count ≤ 8 * i → count + 8 ≤ length ends → HasEnds word (8 * i) count ends
    → byte ≡ word / 2 ^ (56 - 8 * i) % 256 → length row ≡ 8 → take (count_ones byte) row ≡ ends_of_ones (8 * i) (binary 8 byte)
    → HasEnds word (8 * (i + 1)) (count + count_ones byte) (put_mid count (count + 8 - count) ends row) × (count + count_ones byte ≤ 8 * (i + 1))
ends_more word i count byte ends row within few room before is eight next =
    let front : List Bool = take (8 * i) (word_bits word) in
    let here : List ℕ = ends_of_ones (8 * i) (binary 8 byte) in
    let ones : ℕ = count_ones byte in
    let long : length front ≡ 8 * i = length-take-le (8 * i) (word_bits word) (omega (arith, within, length-word_bits word)) in
    let small : byte < 256 = omega (arith, is) in
    let is_ones : ones ≡ length here = sym (length-ends_of_ones (8 * i) (binary 8 byte) ∙ ones_among-whole 8 byte small) in
    let most : ones ≤ 8 = omega (arith, is_ones, length-ends_of_ones (8 * i) (binary 8 byte), ones_among-le (binary 8 byte), length-binary 8 byte) in
    let all : ends_of_ones 0 (take (8 * (i + 1)) (word_bits word)) ≡ ends_of_ones 0 front ++ here =
    ap (ends_of_ones 0) (next_byte word i within ∙ ap (λ n. front ++ binary 8 n) (sym is))
    ∙ ends_of_ones-append 0 front (binary 8 byte) ∙ ap (λ n. ends_of_ones 0 front ++ ends_of_ones n (binary 8 byte)) (zero-add (length front) ∙ long) in
    let whole : take (count + 8) (put_mid count (count + 8 - count) ends row) ≡ take count ends ++ row =
    take-put_mid count (count + 8 - count) ends row (count + 8) (omega (arith, eight)) (omega (arith, few, room)) in
    let held : length (take count ends) ≡ count = length-take-le count ends (omega (arith, few, room)) in
    let part : take (count + ones) (put_mid count (count + 8 - count) ends row) ≡ take count ends ++ take ones row =
    sym (take-take (count + ones) (count + 8) (put_mid count (count + 8 - count) ends row) (omega (arith, most)))
    ∙ ap (take (count + ones)) whole ∙ ap (λ n. take (n + ones) (take count ends ++ row)) (sym held)
    ∙ take-append-add (take count ends) row ones in (
      record {
        ends = part ∙ ap₂ ◌++◌ before.ends next ∙ sym all;
        size = omega (arith, ap length all, length-append (ends_of_ones 0 front) here, before.size, is_ones);
      },
      omega (arith, few, most),
    )

-- the first n ends in a word, if its first bytes have as many
pub first_ends : (word m count n : ℕ) (ends : List ℕ) → HasEnds word m count ends → n ≤ count → take n ends ≡ take n (ends_in_word word)
first_ends word m count n ends have few =
    let bits : List Bool = word_bits word in
    let cut : ends_in_word word ≡ ends_of_ones 0 (take m bits) ++ ends_of_ones (0 + length (take m bits)) (drop m bits) =
    ap (ends_of_ones 0) (sym (take-append-drop m bits)) ∙ ends_of_ones-append 0 (take m bits) (drop m bits) in
    sym (take-take n count ends few) ∙ ap (take n) have.ends
    ∙ sym (ap (take n) cut ∙ take-append-le n (ends_of_ones 0 (take m bits)) (ends_of_ones (0 + length (take m bits)) (drop m bits))
    (omega (arith, few, have.size)))

-- all ends in a word are in its eight bytes
pub all_ends : (word count : ℕ) (ends : List ℕ) → word < 2 ^ 64 → HasEnds word 64 count ends → count ≡ count_ones word
all_ends word count ends fits have =
    have.size ∙ ap (λ l. length (ends_of_ones 0 l)) (take_all 64 (word_bits word) (omega (arith, length-word_bits word)))
    ∙ length-ends_of_ones 0 (word_bits word) ∙ ones_in_word word fits

-- if there are too few ends so far, there is another byte
pub byte_left : (word i count n : ℕ) (ends : List ℕ) → i ≤ 8 → word < 2 ^ 64 → HasEnds word (8 * i) count ends → count < n → n ≤ count_ones word
    → i < 8
byte_left word i count n ends within fits have few there =
    elim (cases_lt i 8) [
      | inl less ↦ less
      | inr last ↦
          let all : 8 * i ≡ 64 = omega (arith, within, last) in
          absurd (omega (arith, all_ends word count ends fits (rw all at have), few, there))
    ]

-- ---- gaps in lanes

-- each number less the one before it, and less 1, in lanes
pub gaps_in_lanes : (n before : ℕ) (ends : List ℕ) → length ends ≡ suc n
    → map (act1 (cast unsigned unsigned w32) (s_int w8) (s_int w32)) (zip2 (act2 wrap_sub (s_int w8) (s_int w8) (s_int w8))
    (zip2 (act2 wrap_sub (s_int w8) (s_int w8) (s_int w8)) ends (before ∷ take n ends)) (replicate (suc n) 1))
    ≡ gaps_after before ends
gaps_in_lanes n before [] long = absurd (omega (arith, long))
gaps_in_lanes zero before (e ∷ []) long = refl
gaps_in_lanes zero before (e ∷ next ∷ ends) long = absurd (omega (arith, long))
gaps_in_lanes (suc n) before (e ∷ []) long = absurd (omega (arith, long))
gaps_in_lanes (suc n) before (e ∷ next ∷ ends) long = ap₂ ◌∷◌ refl (gaps_in_lanes n e (next ∷ ends) (omega (arith, long)))

-- n numbers of a list from a place on, read one by one
abbrev pub read_from : ℕ → ℕ → List ℕ → List ℕ
read_from from zero numbers = []
read_from from (suc n) numbers = get_or numbers from 0 ∷ read_from (suc from) n numbers

pub read_from-take : (from n : ℕ) (numbers : List ℕ) → from + n ≤ length numbers → read_from from n numbers ≡ take n (drop from numbers)
read_from-take from zero numbers within = refl
read_from-take from (suc n) numbers within =
    let e : suc from ≡ from + 1 = omega arith in
    ap (λ l. get_or numbers from 0 ∷ l) (read_from-take (suc from) n numbers (omega (arith, within)) ∙ ap (λ k. take n (drop k numbers)) e)
    ∙ ap (take (suc n)) (sym (drop_more numbers from 0 (omega (arith, within))))

-- sixteen lanes
pub sixteen_in_lanes : (ends : List ℕ) → length ends ≡ 16
    → map (act1 (cast unsigned unsigned w32) (s_int w8) (s_int w32)) (zip2 (act2 wrap_sub (s_int w8) (s_int w8) (s_int w8))
    (zip2 (act2 wrap_sub (s_int w8) (s_int w8) (s_int w8)) ends (0 ∷ read_from 0 15 ends)) (replicate 16 1))
    ≡ gaps_after 0 ends
sixteen_in_lanes ends long =
    ap (λ l. map (act1 (cast unsigned unsigned w32) (s_int w8) (s_int w32)) (zip2 (act2 wrap_sub (s_int w8) (s_int w8) (s_int w8))
    (zip2 (act2 wrap_sub (s_int w8) (s_int w8) (s_int w8)) ends (0 ∷ l)) (replicate 16 1))) (read_from-take 0 15 ends (omega (arith, long)))
    ∙ gaps_in_lanes 15 0 ends long

gaps_after-take : (n before : ℕ) (ends : List ℕ) → take n (gaps_after before ends) ≡ gaps_after before (take n ends)
gaps_after-take zero before ends = refl
gaps_after-take (suc n) before [] = refl
gaps_after-take (suc n) before (e ∷ ends) =
    ap (λ l. ((e + (2 ^ 8 - before)) % 2 ^ 8 + (2 ^ 8 - 1)) % 2 ^ 8 ∷ l) (gaps_after-take n e ends)

-- the first n of all gaps
pub gaps_read : (word n m : ℕ) (ends all numbers : List ℕ) (gone : ℕ) → 0 < n → n ≤ m
    → take n ends ≡ take n (ends_in_word word) → all ≡ gaps_after 0 (take m ends) → numbers ≡ take n all → gone ≡ get_or ends (n - 1) 0
    → ReadsGaps word n numbers gone
gaps_read word n m ends all numbers gone some few have are put is =
    let words : List ℕ = ends_in_word word in
    record {
      gaps = put ∙ ap (take n) are ∙ gaps_after-take n 0 (take m ends) ∙ ap (gaps_after 0) (take-take n m ends few ∙ have);
      end = is ∙ sym (get_or-take n ends (n - 1) 0 (omega (arith, some))) ∙ ap (λ l. get_or l (n - 1) 0) have
          ∙ get_or-take n words (n - 1) 0 (omega (arith, some));
    }

-- ---- windows

zero_bits : word_bits 0 ≡ replicate 64 false
unfolding word_bits
zero_bits = binary-zero 64

-- the word whose top bits are those of a window
pub top_of_window : (word left : ℕ) → left ≤ 64 → word < 2 ^ left
    → word_bits (word * 2 ^ ((64 - left) % 64) % 2 ^ 64) ≡ binary left word ++ replicate (64 - left) false
top_of_window word zero size fits =
    let none : word ≡ 0 = omega (arith, fits) in
    rw none zero_bits
top_of_window word (suc less) size fits =
    let left : ℕ = suc less in
    let b : ℕ = 64 - left in
    let same : b % 64 ≡ b = omega (arith, size) in
    let sum : left + b ≡ 64 = omega (arith, size) in
    let shifted : word * 2 ^ b % 2 ^ 64 ≡ word * 2 ^ b + 0 =
    ap (λ n. word * 2 ^ b % 2 ^ n) (sym sum) ∙ shl_mod left b word ∙ ap (λ n. n * 2 ^ b) (mod-eq_of_lt fits) ∙ omega arith in
    ap (λ n. word_bits (word * 2 ^ n % 2 ^ 64)) same ∙ ap word_bits shifted ∙ word_bits-join left b word 0 sum (pow_pos b)
    ∙ ap (λ l. binary left word ++ l) (binary-zero b)

ones_among-zeros : (n : ℕ) → ones_among (replicate n false) ≡ 0
ones_among-zeros zero = refl
ones_among-zeros (suc n) = ones_among-zeros n

ones_among-append : (front rest : List Bool) → ones_among (front ++ rest) ≡ ones_among front + ones_among rest
ones_among-append [] rest = sym (zero-add (ones_among rest))
ones_among-append (true ∷ front) rest = omega (arith, ones_among-append front rest)
ones_among-append (false ∷ front) rest = ones_among-append front rest

-- this word has as many ones
pub top_ones : (word left top : ℕ) → word < 2 ^ left → top < 2 ^ 64 → word_bits top ≡ binary left word ++ replicate (64 - left) false
    → count_ones top ≡ count_ones word
top_ones word left top fits small is =
    sym (ones_in_word top small) ∙ ap ones_among is ∙ ones_among-append (binary left word) (replicate (64 - left) false)
    ∙ omega (arith, ones_among-whole left word fits, ones_among-zeros (64 - left))

-- a window without its first bits
pub rest_of_window : (word left gone : ℕ) → 0 < gone → gone ≤ left → left ≤ 64
    → binary (left - gone) (bit_and word (1 * 2 ^ (left - gone) % 2 ^ 64 - 1)) ≡ drop gone (binary left word)
    × (bit_and word (1 * 2 ^ (left - gone) % 2 ^ 64 - 1) < 2 ^ (left - gone))
rest_of_window word left gone some there size =
    let later : ℕ = left - gone in
    let sum : gone + later ≡ left = omega (arith, there) in
    let low = low_part word later (omega (arith, some, there, size)) in
    let cut : binary left word ≡ binary gone (word / 2 ^ later) ++ binary later word = ap (λ n. binary n word) (sym sum) ∙ binary-add gone later word in (
      ap (binary later) low ∙ binary-mod later word
          ∙ sym (ap (drop gone) cut ∙ drop_at (binary gone (word / 2 ^ later)) (binary later word) gone (length-binary gone (word / 2 ^ later))),
      rw low (mod_below word (2 ^ later) (pow_pos later)),
    )

-- the first `gone` bits of a window are the fundamental sequences of these numbers
pub record BeginsWithSequences (word left gone : ℕ) (numbers : List ℕ) : Type 0 where
  pub some : 0 < gone
  pub there : gone ≤ left
  pub stand : StandsBefore fs 64 numbers (drop gone (binary left word)) (binary left word)

-- so are those that are read from the word that begins with the window's bits
pub window_sequences : (word left top n gone : ℕ) (numbers : List ℕ) → left ≤ 64 → word < 2 ^ left → n ≤ count_ones word → 0 < n
    → word_bits top ≡ binary left word ++ replicate (64 - left) false → ReadsGaps top n numbers gone → BeginsWithSequences word left gone numbers
window_sequences word left top n gone numbers size fits enough some is read =
    let bits : List Bool = binary left word in
    let long = length-binary left word in
    let ones : ones_among bits ≡ count_ones word = ones_among-whole left word fits in
    let same : ends_in_word top ≡ ends_of_ones 0 bits =
    ap (ends_of_ones 0) is ∙ ends_of_ones-append 0 bits (replicate (64 - left) false)
    ∙ ap (λ l. ends_of_ones 0 bits ++ l) (ends_of_ones-zeros (0 + length bits) (64 - left)) ∙ append-nil (ends_of_ones 0 bits) in
    let end = sequences_end n 0 64 bits (omega (arith, enough, ones)) (omega (arith, long, size)) (omega (arith, long, size)) in
    let gaps : numbers ≡ gaps_after 0 (take n (ends_of_ones 0 bits)) = read.gaps ∙ ap (λ l. gaps_after 0 (take n l)) same in
    let stands : bits ≡ flat_map fs numbers ++ end.rest = end.stands ∙ ap (λ l. flat_map fs l ++ end.rest) (sym gaps) in
    let sum : gone + length end.rest ≡ left =
    ap (λ k. k + length end.rest) (read.end ∙ ap (λ l. get_or l (n - 1) 0) same)
    ∙ end.gone (n - 1) (omega (arith, some)) ∙ zero-add (length bits) ∙ long in
    let codes : length (flat_map fs numbers) ≡ gone =
    omega (arith, sum, long, ap length stands, length-append (flat_map fs numbers) end.rest) in
    let behind : drop gone bits ≡ end.rest = ap (drop gone) stands ∙ drop_at (flat_map fs numbers) end.rest gone codes in
    record {
      some = omega (arith, sum, end.shorter, some, long);
      there = omega (arith, sum);
      stand = record { stands = stands ∙ ap (λ l. flat_map fs numbers ++ l) (sym behind); below = rw (sym gaps) at end.below };
    }
