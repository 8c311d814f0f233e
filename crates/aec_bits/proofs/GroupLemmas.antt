-- Several codewords read from one word, and lists that are filled with them part by part.
use Rattle.std.proofs.Common.{◌≡◌, ℕ, zero, suc, ◌+◌, ◌-◌, ◌*◌, ◌/◌, ◌^◌, ◌<◌, ◌≤◌, Bool, false, List, [], ◌∷◌, ◌++◌, length, take, drop, replicate, mul_comm, refl, sym, ap, ◌∙◌, arith, append_assoc, length-append}
use Rattle.std.specs.Prelude.{count_ones}
use Rattle.std.specs.List.{flat_map}
use borrow.Rule.Slice.PartMut.{put_mid}
use Rattle.std.proofs.lemmas.Slice.{take-put_mid}
use Rattle.std.proofs.Math.Nat.{mul-div-le, mul-le-mul_left, mod-eq-sub-div-mul, mod-lt}
use Rattle.std.proofs.lemmas.Nat.{ones_le_self}
use Rattle.std.proofs.lemmas.List.{append-nil, drop_all, length-drop, length-take-le}
use Rattle.std.proofs.lemmas.List.Concat.{flat_map-append}
use Rattle.aec_params.specs.Codewords.{fs, binary}
use Rattle.aec_params.proofs.CodewordLaws.{length-binary, length-fs}
use Rattle.aec_params.proofs.ListLaws.{all-append}
use Rattle.aec_bits.specs.BitReader.{StopsBefore}
use Rattle.aec_bits.specs.WordBits.{word_bits}
use Rattle.aec_bits.specs.Windows.{bits_from, IsWindow, StandsBefore, StandsBehind}
use Rattle.aec_bits.proofs.OnesLemmas.{ones_among, ones_among-whole}
use Rattle.aec_bits.proofs.WindowLemmas.{one_inside, codeword_first, codeword_read, whole_window}

-- ---- 1 bits

ones_among-fs : (v : ℕ) (rest : List Bool) → ones_among (fs v ++ rest) ≡ 1 + ones_among rest
ones_among-fs zero rest = refl
ones_among-fs (suc v) rest = ones_among-fs v rest

-- a fundamental sequence has one 1 bit
pub sequence_ones : (left word v later behind : ℕ) → word < 2 ^ left → behind < 2 ^ later
    → binary left word ≡ fs v ++ binary later behind → count_ones word ≡ 1 + count_ones behind
sequence_ones left word v later behind fits fits_behind stands =
    sym (ones_among-whole left word fits) ∙ ap ones_among stands ∙ ones_among-fs v (binary later behind)
    ∙ ap (λ n. 1 + n) (ones_among-whole later behind fits_behind)

pub some_one : (word i n : ℕ) → i < n → n ≤ i + count_ones word → 0 < word
some_one word i n before enough = omega (arith, ones_le_self word)

-- ---- a list that is filled part by part

pub stands_both : (codeword : ℕ → List Bool) (limit : ℕ) (front values : List ℕ) (rest now bits : List Bool)
    → StandsBefore codeword limit front now bits → StandsBefore codeword limit values rest now
    → StandsBefore codeword limit (front ++ values) rest bits
stands_both codeword limit front values rest now bits first later =
    record {
      stands = first.stands ∙ ap (λ l. flat_map codeword front ++ l) later.stands
          ∙ sym (append_assoc (flat_map codeword front) (flat_map codeword values) rest)
          ∙ ap (λ l. l ++ rest) (sym (flat_map-append codeword front values));
      below = all-append (λ n. n < limit) front values first.below later.below;
    }

-- with a part that was read next, the first n numbers of the list are read
pub stands_with : (codeword : ℕ → List Bool) (limit : ℕ) (items part : List ℕ) (at k n : ℕ) (rest now bits : List Bool) → at ≤ length items
    → n ≡ at + length part → StandsBefore codeword limit (take at items) now bits → StandsBefore codeword limit part rest now
    → StandsBefore codeword limit (take n (put_mid at k items part)) rest bits
stands_with codeword limit items part at k n rest now bits within sum first later =
    rw (take-put_mid at k items part n sum within) (stands_both codeword limit (take at items) part rest now bits first later)

-- the length of a part that replaces n numbers of a list
pub part_len : (at n : ℕ) (items part : List ℕ) → at + n ≤ length items → length part ≡ length (take (at + n - at) (drop at items)) → length part ≡ n
part_len at n items part within same =
    let size : at + n - at ≡ n = omega arith in
    same ∙ length-take-le (at + n - at) (drop at items) (omega (arith, length-drop at items)) ∙ size

pub end_len : (at : ℕ) (items part : List ℕ) → length part ≡ length (take (length items - at) (drop at items)) → length part ≡ length items - at
end_len at items part same = same ∙ length-take-le (length items - at) (drop at items) (omega (arith, length-drop at items))

-- with a part up to the end of the list, all its numbers are read
pub stands_to_end : (codeword : ℕ → List Bool) (limit : ℕ) (items part : List ℕ) (at : ℕ) (rest now bits : List Bool) → at ≤ length items
    → length part ≡ length items - at → StandsBefore codeword limit (take at items) now bits → StandsBefore codeword limit part rest now
    → StandsBefore codeword limit (put_mid at (length items - at) items part) rest bits
stands_to_end codeword limit items part at rest now bits within size first later =
    let nothing : drop (length items - at) (drop at items) ≡ [] = drop_all (length items - at) (drop at items) (omega (arith, length-drop at items)) in
    let whole : take at items ++ part ≡ put_mid at (length items - at) items part =
    ap (λ l. take at items ++ l) (sym (append-nil part) ∙ ap (λ l. part ++ l) (sym nothing)) in
    rw whole at (stands_both codeword limit (take at items) part rest now bits first later)

-- if reading stops in a later part, it stops before the whole count
pub stops_later : (limit : ℕ) (items : List ℕ) (at more count : ℕ) (now bits : List Bool) → at ≤ length items → at + more ≤ count
    → StopsBefore more now → StandsBefore fs limit (take at items) now bits → StopsBefore count bits
stops_later limit items at more count now bits within most stop first =
    record {
      numbers = take at items ++ stop.numbers;
      rest = stop.rest;
      few = omega (arith, length-append (take at items) stop.numbers, length-take-le at items within, stop.few);
      stands = first.stands ∙ ap (λ l. flat_map fs (take at items) ++ l) stop.stands
          ∙ sym (append_assoc (flat_map fs (take at items)) (flat_map fs stop.numbers) stop.rest)
          ∙ ap (λ l. l ++ stop.rest) (sym (flat_map-append fs (take at items) stop.numbers));
      none = stop.none;
    }

-- ---- fundamental sequences

-- fundamental sequences of a window end within the list, not in the zeros past its end
sequences_inside : (list rest : List Bool) (values : List ℕ) (k : ℕ) → length (flat_map fs values) ≤ k
    → flat_map fs values ++ rest ≡ take k (list ++ replicate 64 false) → length (flat_map fs values) ≤ length list
sequences_inside list rest [] k short stands = omega arith
sequences_inside list rest (v ∷ values) k short stands =
    let behind : List Bool = flat_map fs values ++ rest in
    let lens = length-append (fs v) (flat_map fs values) in
    let long = length-fs v in
    let first : fs v ++ behind ≡ take k (list ++ replicate 64 false) = sym (append_assoc (fs v) (flat_map fs values) rest) ∙ stands in
    let here = one_inside list behind v k (omega (arith, lens, long)) first in
    let sum : v + 1 + (k - (v + 1)) ≡ k = omega (arith, lens, long) in
    let read = codeword_first list (fs v) behind (v + 1) (k - (v + 1)) long (omega (arith, here))
    (first ∙ ap (λ n. take n (list ++ replicate 64 false)) (sym sum)) in
    let more = sequences_inside (drop (v + 1) list) rest values (k - (v + 1)) (omega (arith, lens, long)) read.1 in
    omega (arith, more, length-drop (v + 1) list, lens, long, here)

-- fundamental sequences read from a window are in the list at the window's place
pub sequences_read : (list : List Bool) (values : List ℕ) (word left end later behind stop : ℕ) → stop ≡ end → IsWindow list word left end
    → behind < 2 ^ later → StandsBefore fs 64 values (binary later behind) (binary left word)
    → StandsBehind list (end - left) values behind later stop
unfolding bits_from
sequences_read list values word left end later behind stop same window fits stand =
    let codes : List Bool = flat_map fs values in
    let sum : later + length codes ≡ left =
    omega (arith, ap length stand.stands, length-append codes (binary later behind), length-binary left word, length-binary later behind) in
    let inside = sequences_inside (drop (end - left) list) (binary later behind) values left (omega (arith, sum)) (sym stand.stands ∙ window.same) in
    let read = codeword_read list codes word left end later behind stop (length codes) refl sum same
    (omega (arith, inside, length-drop (end - left) list, window.within)) window stand.stands in
    record { window = read.0; fits = fits; read = record { stands = read.1; below = stand.below } }

pub sequences_more : (list : List Bool) (start i : ℕ) (items part : List ℕ) (word left end behind later stop : ℕ) → 16 * i + 16 ≤ length items
    → length part ≡ length (take (16 * i + 16 - 16 * i) (drop (16 * i) items)) → StandsBehind list start (take (16 * i) items) word left end
    → StandsBehind list (end - left) part behind later stop
    → StandsBehind list start (take (16 * (i + 1)) (put_mid (16 * i) (16 * i + 16 - 16 * i) items part)) behind later stop
sequences_more list start i items part word left end behind later stop within size so_far next =
    let sixteen = part_len (16 * i) 16 items part within size in
    record {
      window = next.window;
      fits = next.fits;
      read = stands_with fs 64 items part (16 * i) (16 * i + 16 - 16 * i) (16 * (i + 1)) (drop (stop - later) list) (drop (end - left) list) (drop start list)
          (omega (arith, within)) (omega (arith, sixteen)) so_far.read next.read;
    }

-- ---- numbers of a fixed width

length-numbers : (width : ℕ) (values : List ℕ) → length (flat_map (binary width) values) ≡ width * length values
length-numbers width [] = omega arith
length-numbers width (v ∷ values) =
    length-append (binary width v) (flat_map (binary width) values) ∙ omega (arith, length-binary width v, length-numbers width values)

-- numbers read from a word are in the list at the word's place
pub numbers_read : (list : List Bool) (word place width n : ℕ) (values : List ℕ) → word_bits word ≡ bits_from place 64 list → length values ≡ n
    → width * n ≤ 64 → place + width * n ≤ length list
    → StandsBefore (binary width) (2 ^ width) values (binary (64 - width * n) word) (word_bits word)
    → StandsBefore (binary width) (2 ^ width) values (drop (place + width * n) list) (drop place list)
unfolding word_bits
numbers_read list word place width n values same many short inside stand =
    let window = whole_window list word place (omega arith) same in
    let long : length (flat_map (binary width) values) ≡ width * n = length-numbers width values ∙ ap (λ k. width * k) many in
    let here : place + 64 - 64 ≡ place = omega arith in
    let there : place + 64 - (64 - width * n) ≡ place + width * n = omega (arith, short) in
    let read = codeword_read list (flat_map (binary width) values) word 64 (place + 64) (64 - width * n) word (place + 64) (width * n) long
    (omega (arith, short)) refl (omega (arith, inside)) window stand.stands in
    record { stands = rw (here, there) at read.1; below = stand.below }

-- no number of a word is read yet
pub begins_word : (width word : ℕ) → StandsBefore (binary width) (2 ^ width) [] (binary 64 word) (word_bits word)
unfolding word_bits
begins_word width word = record { stands = refl; below = tt }

-- ---- groups of n numbers

next_group : (n i : ℕ) → n * (i + 1) ≡ n * i + n
next_group n i = omega arith

group_within : (n i count : ℕ) → 0 < n → i < count / n → n * i + n ≤ count
group_within n i count some before =
    let most = mul-div-le count n in
    let grown = mul-le-mul_left n before in
    omega (arith, most, grown)

product_parts : (width a n : ℕ) → width * (a + n) ≡ width * a + width * n
product_parts width a n = omega arith

-- the bits of each group end within the bits of all numbers
pub group_room : (start width n i count most place : ℕ) → 0 < n → i < count / n → place ≡ start + width * (n * i) → start + width * count ≤ most
    → place + width * n ≤ most
group_room start width n i count most place some before here all =
    let grown : width * (n * i + n) ≤ width * count = mul-le-mul_left width (group_within n i count some before) in
    omega (arith, here, grown, product_parts width (n * i) n, all)

pub group_place : (start width n i place : ℕ) → place ≡ start + width * (n * i) → place + width * n ≡ start + width * (n * (i + 1))
group_place start width n i place here =
    let parts : width * (n * (i + 1)) ≡ width * (n * i) + width * n = ap (λ k. width * k) (next_group n i) ∙ product_parts width (n * i) n in
    omega (arith, here, parts)

pub numbers_more : (list : List Bool) (width n i word place start behind : ℕ) (items part : List ℕ) → 0 < n
    → i < length items / n → place ≡ start + width * (n * i) → start + width * length items ≤ length list → width * n ≤ 64 → behind ≡ width * n
    → word_bits word ≡ bits_from place 64 list → length part ≡ length (take (n * i + n - n * i) (drop (n * i) items))
    → StandsBefore (binary width) (2 ^ width) part (binary (64 - width * length (take (n * i + n - n * i) (drop (n * i) items))) word) (word_bits word)
    → StandsBefore (binary width) (2 ^ width) (take (n * i) items) (drop place list) (drop start list)
    → StandsBefore (binary width) (2 ^ width) (take (n * (i + 1)) (put_mid (n * i) (n * i + n - n * i) items part)) (drop (place + behind) list)
    (drop start list)
numbers_more list width n i word place start behind items part some before here all short is same size read so_far =
    let inside = group_within n i (length items) some before in
    let size_n = part_len (n * i) n items part inside size in
    let room = group_room start width n i (length items) (length list) place some before here all in
    let there = numbers_read list word place width n part same size_n short room
    (rw (ap (λ k. 64 - width * k) (sym size ∙ size_n)) at read) in
    stands_with (binary width) (2 ^ width) items part (n * i) (n * i + n - n * i) (n * (i + 1)) (drop (place + behind) list) (drop place list) (drop start list)
    (omega (arith, inside)) (next_group n i ∙ ap (λ k. n * i + k) (sym size_n)) so_far (rw (ap (λ k. drop (place + k) list) (sym is)) at there)

-- ---- the numbers after the last whole group

pub rest_fits : (width n count : ℕ) → 0 < n → width * n ≤ 64 → width * (count - n * (count / n)) ≤ 64
rest_fits width n count some fits =
    let few : count - n * (count / n) ≤ n = omega (arith, mod-eq-sub-div-mul count n, mul_comm n (count / n), mod-lt count some) in
    let grown = mul-le-mul_left width few in
    omega (arith, grown, fits)

-- the bits of the numbers after the groups end where the bits of all numbers end
pub rest_room : (start width n i count most place : ℕ) → i ≡ count / n → place ≡ start + width * (n * i) → start + width * count ≤ most
    → place + width * (count - n * i) ≡ start + width * count
rest_room start width n i count most place done here all =
    let most_i = rw (sym done) at (mul-div-le count n) in
    let parts : n * i + (count - n * i) ≡ count = omega (arith, most_i) in
    let grown : width * count ≡ width * (n * i) + width * (count - n * i) = ap (λ k. width * k) (sym parts) ∙ product_parts width (n * i) (count - n * i) in
    omega (arith, here, grown)

pub numbers_end : (list : List Bool) (width n word place start count : ℕ) (items part : List ℕ) → length items ≡ count
    → place ≡ start + width * (n * (count / n)) → start + width * count ≤ length list → width * (count - n * (count / n)) ≤ 64
    → word_bits word ≡ bits_from place 64 list
    → length part ≡ length (take (length items - n * (length items / n)) (drop (n * (length items / n)) items))
    → StandsBefore (binary width) (2 ^ width) part
    (binary (64 - width * length (take (length items - n * (length items / n)) (drop (n * (length items / n)) items))) word) (word_bits word)
    → StandsBefore (binary width) (2 ^ width) (take (n * (count / n)) items) (drop place list) (drop start list)
    → StandsBefore (binary width) (2 ^ width) (put_mid (n * (length items / n)) (length items - n * (length items / n)) items part)
    (drop (start + width * count) list) (drop start list)
numbers_end list width n word place start count items part many here all short same size read so_far =
    let at : ℕ = n * (length items / n) in
    let same_at : at ≡ n * (count / n) = ap (λ k. n * (k / n)) many in
    let most = mul-div-le count n in
    let behind = rest_room start width n (count / n) count (length list) place refl here all in
    let whole = end_len at items part size in
    let sized : length part ≡ count - n * (count / n) = whole ∙ omega (arith, many, same_at) in
    let there = numbers_read list word place width (count - n * (count / n)) part same sized short (omega (arith, behind, all))
    (rw (ap (λ k. 64 - width * k) (sym size ∙ sized)) at read) in
    stands_to_end (binary width) (2 ^ width) items part at (drop (start + width * count) list) (drop place list) (drop start list)
    (omega (arith, most, many, same_at)) whole (rw (sym same_at) at so_far) (rw (ap (λ k. drop k list) behind) at there)

-- if reading stops after the groups of sixteen fundamental sequences, it stops before `count`
pub rest_stops : (list : List Bool) (start count i : ℕ) (items : List ℕ) (word left end : ℕ) → length items ≡ count → count / 16 ≤ i → i ≤ count / 16
    → StandsBehind list start (take (16 * i) items) word left end
    → StopsBefore (length (take (length items - 16 * (length items / 16)) (drop (16 * (length items / 16)) items))) (drop (end - left) list)
    → StopsBefore count (drop start list)
rest_stops list start count i items word left end many past within so_far stop =
    let at : ℕ = 16 * (length items / 16) in
    let same_at : 16 * i ≡ at = omega (arith, many, past, within) in
    let size = length-take-le (length items - at) (drop at items) (omega (arith, length-drop at items)) in
    stops_later 64 items at (length (take (length items - at) (drop at items))) count (drop (end - left) list) (drop start list) (omega arith)
    (omega (arith, size, many)) stop (rw same_at at so_far.read)
