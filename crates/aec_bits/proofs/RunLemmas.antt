-- Codewords read one by one into a list of numbers.
use Rattle.std.proofs.Common.{◌≡◌, ℕ, zero, suc, ◌+◌, ◌<◌, Bool, true, false, List, [], ◌∷◌, ◌++◌, length, take, set, refl, sym, ap, ◌∙◌, arith, append_assoc}
use Rattle.std.specs.List.{flat_map}
use Rattle.std.proofs.lemmas.List.{take_more_set, length-take-le, append-nil}
use Rattle.std.proofs.lemmas.List.Concat.{flat_map-append}
use Rattle.aec_params.specs.Codewords.{fs}
use Rattle.aec_params.proofs.ListLaws.{all-append}
use Rattle.aec_bits.specs.BitReader.{has_one, StopsBefore}
use Rattle.aec_bits.specs.Windows.{StandsBefore}

-- after one more codeword, i + 1 numbers are read
pub stands_more : (codeword : ℕ → List Bool) (limit : ℕ) (items : List ℕ) (i v : ℕ) (rest now bits : List Bool) → i < length items → v < limit
    → now ≡ codeword v ++ rest → StandsBefore codeword limit (take i items) now bits
    → StandsBefore codeword limit (take (i + 1) (set items i v)) rest bits
stands_more codeword limit items i v rest now bits within fits here so_far =
    let more : take (i + 1) (set items i v) ≡ take i items ++ v ∷ [] = take_more_set items i v within in
    let before : List Bool = flat_map codeword (take i items) in
    let joined : before ++ codeword v ≡ flat_map codeword (take (i + 1) (set items i v)) =
    sym (ap (flat_map codeword) more ∙ flat_map-append codeword (take i items) (v ∷ []) ∙ ap (λ l. before ++ l) (append-nil (codeword v))) in
    record {
      stands = so_far.stands ∙ ap (λ l. before ++ l) here ∙ sym (append_assoc before (codeword v) rest) ∙ ap (λ l. l ++ rest) joined;
      below = rw more (all-append (λ n. n < limit) (take i items) (v ∷ []) so_far.below (fits, tt));
    }

-- if the next 64 bits have no 1, reading stops before the whole count
pub stops_here : (limit : ℕ) (items : List ℕ) (i count : ℕ) (rest bits : List Bool) → i < count → length items ≡ count
    → has_one (take 64 rest) ≡ false → StandsBefore fs limit (take i items) rest bits → StopsBefore count bits
stops_here limit items i count rest bits before same none so_far =
    record {
      numbers = take i items;
      rest = rest;
      few = omega (arith, length-take-le i items (omega arith));
      stands = so_far.stands;
      none = none;
    }

-- ---- no 1 among n bits

pub has_one-take : (n : ℕ) (bits : List Bool) → has_one bits ≡ false → has_one (take n bits) ≡ false
has_one-take zero bits none = refl
has_one-take (suc n) [] none = refl
has_one-take (suc n) (true ∷ bits) none = absurd (cc)
has_one-take (suc n) (false ∷ bits) none = has_one-take n bits none
