-- Numbers and fundamental sequences that a word contains after the bits that were read.
use Rattle.std.proofs.Common.{◌≡◌, ℕ, ◌+◌, ◌-◌, ◌<◌, ◌≤◌, ◌^◌, Bool, false, List, ◌++◌, length, take, drop, replicate, sym, ap, ◌∙◌, arith}
use Rattle.std.proofs.lemmas.List.{drop-append-le, drop-drop, drop-take, length-drop}
use Rattle.aec_params.specs.Codewords.{fs, binary}
use Rattle.aec_params.proofs.CodewordLaws.{length-binary}
use Rattle.aec_bits.specs.BitReader.{Cursor, BeginsWithNumber, IsBehindWord}
use Rattle.aec_bits.specs.WordBits.{word_bits}
use Rattle.aec_bits.specs.Windows.{bits_from, IsWindow, StandsBefore}
use Rattle.aec_bits.proofs.WindowLemmas.{codeword_first}
use Rattle.aec_bits.proofs.GroupLemmas.{sequences_read}

-- the bits of a word that weren't read
rest_of_word : (c : Cursor) (gone word : ℕ) → IsBehindWord c gone word → c.pos ≤ length c.list → gone ≤ 64
    → drop gone (binary 64 word) ≡ take (64 - gone) (drop c.pos c.list ++ replicate 64 false)
rest_of_word c gone word behind inside few =
    let from : ℕ = c.pos - gone in
    let zeros : List Bool = replicate 64 false in
    let sum : gone + (64 - gone) ≡ 64 = omega (arith, few) in
    let place : from + gone ≡ c.pos = omega (arith, behind.there) in
    ap (drop gone) (behind.bits ∙ ap (λ n. take n (drop from c.list ++ zeros)) (sym sum))
    ∙ (drop-take gone (64 - gone) (drop from c.list ++ zeros)
    ∙ ap (take (64 - gone)) (drop-append-le gone (drop from c.list) zeros (omega (arith, length-drop from c.list, behind.there, inside))
    ∙ ap (λ l. l ++ zeros) (drop-drop gone from c.list ∙ ap (λ n. drop n c.list) place)))

pub next_of_word : (list : List Bool) (pos word : ℕ) → word_bits word ≡ bits_from pos 64 list → IsBehindWord (record { list = list; pos = pos }) 0 word
unfolding bits_from word_bits
next_of_word list pos word bits =
    let same : pos ≡ pos - 0 = omega arith in
    record { there = omega arith; bits = bits ∙ ap (λ n. take 64 (drop n list ++ replicate 64 false)) same }

pub number_from : (c : Cursor) (gone width word value : ℕ) → IsBehindWord c gone word → c.pos + width ≤ length c.list → gone + width ≤ 64
    → BeginsWithNumber width value (drop gone (word_bits word)) (drop (gone + width) (word_bits word))
    → drop c.pos c.list ≡ binary width value ++ drop (c.pos + width) c.list
unfolding word_bits
number_from c gone width word value behind inside few begins =
    let rest : List Bool = drop (gone + width) (binary 64 word) in
    let sum : width + (64 - gone - width) ≡ 64 - gone = omega (arith, few) in
    let read = codeword_first (drop c.pos c.list) (binary width value) rest width (64 - gone - width) (length-binary width value)
    (omega (arith, length-drop c.pos c.list, inside))
    (sym begins.bits ∙ (rest_of_word c gone word behind (omega (arith, inside)) (omega (arith, few))
    ∙ ap (λ n. take n (drop c.pos c.list ++ replicate 64 false)) (sym sum))) in
    read.0 ∙ ap (λ l. binary width value ++ l) (drop-drop width c.pos c.list)

-- how many bits are left of the word
pub left_of_word : (word gone left rest : ℕ) → binary left rest ≡ drop gone (binary 64 word) → left ≡ 64 - gone
left_of_word word gone left rest same =
    sym (length-binary left rest) ∙ (ap length same ∙ (length-drop gone (binary 64 word) ∙ ap (λ n. n - gone) (length-binary 64 word)))

-- fundamental sequences that the rest of a word contains
pub sequences_from_word : (list : List Bool) (pos gone word : ℕ) (numbers : List ℕ) (left rest end later behind stop : ℕ)
    → IsBehindWord (record { list = list; pos = pos }) gone word → pos ≤ length list → gone ≤ 64 → binary left rest ≡ drop gone (binary 64 word)
    → end ≡ pos - gone + 64 → stop ≡ end → behind < 2 ^ later → StandsBefore fs 64 numbers (binary later behind) (binary left rest)
    → StandsBefore fs 64 numbers (drop (stop - later) list) (drop pos list) × (stop - later ≤ length list) × (later ≤ stop)
unfolding bits_from
sequences_from_word list pos gone word numbers left rest end later behind stop is inside few same end_is stop_is fits stand =
    let size : left ≡ 64 - gone = left_of_word word gone left rest same in
    let place : end - left ≡ pos = omega (arith, end_is, size, is.there, few) in
    let bits : binary left rest ≡ take left (drop (end - left) list ++ replicate 64 false) =
    same ∙ (rest_of_word (record { list = list; pos = pos }) gone word is inside few ∙ (ap (λ n. take n (drop pos list ++ replicate 64 false)) (sym size)
    ∙ ap (λ n. take left (drop n list ++ replicate 64 false)) (sym place))) in
    let window : IsWindow list rest left end = record {
      size = omega (arith, size);
      order = omega (arith, end_is, size, is.there, few);
      within = omega (arith, place, inside);
      same = bits;
    } in
    let read = sequences_read list numbers rest left end later behind stop stop_is window fits stand in (
      record { stands = ap (λ n. drop n list) (sym place) ∙ read.read.stands; below = read.read.below },
      read.window.within,
      read.window.order,
    )
