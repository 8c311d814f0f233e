-- Codewords appended one by one within reserved room.
use Rattle.std.proofs.Common.{◌≡◌, ℕ, zero, suc, ◌+◌, ◌-◌, ◌*◌, ◌/◌, ◌%◌, ◌^◌, ◌<◌, ◌≤◌, refl, ap, ◌∙◌, sym, subst, arith, Bool, Option, Some, None, List, [], ◌∷◌, ◌++◌, length, take, drop, get_or, drop-cons, append_assoc, append-nil, length-append, length-drop, if◌then◌else◌, nat_le, lit<}
use Rattle.std.specs.List.{flat_map, AllByRecursion}
use Rattle.std.proofs.lemmas.List.{take_rest}
use Rattle.std.proofs.lemmas.Bool.{cond_both}
use Rattle.std.proofs.lemmas.Nat.{one_shl}
use Rattle.aec_params.specs.Codewords.{fs, binary}
use Rattle.aec_params.specs.CodedDataSets.{pair_number, pair_bits, reference_bits, cds_bits}
use Rattle.aec_params.specs.declared.settings.Settings.{Settings}
use Rattle.aec_params.specs.Params.{id_len}
use Rattle.aec_params.specs.Blocks.{Block}
use Rattle.aec_params.specs.Spellings.{after_reference, written_values, uncompressed, paired, split}
use Rattle.std.proofs.Math.Nat.{mod-eq_of_lt}
use Rattle.aec_params.proofs.CodewordLaws.{length-fs, length-binary}
use Rattle.aec_block.specs.Choices.{IsFull}
use Rattle.aec_bits.specs.BitBuf.{Bits}
use Rattle.aec_block.specs.Written.{high_parts, low_parts, split_parts, Adds, GathersBits}
use Rattle.aec_block.proofs.LengthLemmas.{length-reference_bits}

-- the next codeword is gathered; bits held before it may now be in the list
pub gathering-more : (old new next : Bits) (done held kept todo codeword rest : List Bool) → GathersBits done old (held ++ todo) new
    → todo ≡ codeword ++ rest → GathersBits (held ++ codeword) new kept next → GathersBits done old (kept ++ rest) next
gathering-more old new next done held kept todo codeword rest so_far split step = record {
  list =
      sym (append_assoc next.list kept rest) ∙ ap (λ (bits : List Bool). bits ++ rest) step.list ∙ append_assoc new.list (held ++ codeword) rest
      ∙ ap (λ (bits : List Bool). new.list ++ bits) (append_assoc held codeword rest ∙ sym (ap (λ (bits : List Bool). held ++ bits) split)) ∙ so_far.list;
  room =
      let total = ap (length {A = Bool}) split ∙ length-append codeword rest in
      let ahead = length-append held todo in
      let behind = length-append kept rest in
      let both = length-append held codeword in
      let so_much = so_far.room in
      let more = step.room in
      omega arith;
}

-- a part appended after what was gathered, and then one more part
pub parts-joined : (old middle new held between kept first second : List Bool) → middle ++ between ≡ old ++ (held ++ first)
    → new ++ kept ≡ middle ++ (between ++ second) → new ++ kept ≡ old ++ (held ++ (first ++ second))
parts-joined old middle new held between kept first second begun added =
    added ∙ sym (append_assoc middle between second) ∙ ap (λ (bits : List Bool). bits ++ second) begun
    ∙ append_assoc old (held ++ first) second ∙ ap (λ (bits : List Bool). old ++ bits) (append_assoc held first second)

-- bits gathered after other bits
pub gathers-then : (old middle new : Bits) (done held more kept : List Bool) → GathersBits done old held middle → GathersBits (held ++ more) middle kept new
    → GathersBits (done ++ more) old kept new
gathers-then old middle new done held more kept first second = record {
  list =
      second.list ∙ sym (append_assoc middle.list held more) ∙ ap (λ (bits : List Bool). bits ++ more) first.list ∙ append_assoc old.list done more;
  room =
      let total = length-append done more in
      let both = length-append held more in
      let so_much = first.room in
      let later = second.room in
      omega arith;
}

-- if the held bits are appended, all gathered bits are appended
pub gathers-added : (old middle new : Bits) (done held bits : List Bool) → GathersBits done old held middle → Adds held middle new → done ≡ bits
    → Adds bits old new
gathers-added old middle new done held bits first last is = record {
  list = last.list ∙ first.list ∙ ap (λ (bits : List Bool). old.list ++ bits) is;
  room =
      let so_much = first.room in
      let later = last.room in
      let same = ap (length {A = Bool}) is in
      omega arith;
}

flat_map-drop : (f : ℕ → List Bool) (values : List ℕ) (i j : ℕ) → j ≡ i + 1 → i < length values
    → flat_map f (drop i values) ≡ f (get_or values i 0) ++ flat_map f (drop j values)
flat_map-drop f values i j next within =
    let at_j : j ≡ suc i = omega arith in
    rw at_j (ap (flat_map f) (drop-cons values i 0 within))

pub low_parts-drop : (k : ℕ) (values : List ℕ) (i j : ℕ) → j ≡ i + 1 → i < length values
    → low_parts k (drop i values) ≡ binary k (get_or values i 0 % 2 ^ k) ++ low_parts k (drop j values)
low_parts-drop k values i j next within = flat_map-drop (λ v. binary k (v % 2 ^ k)) values i j next within

pub high_parts-drop : (k : ℕ) (values : List ℕ) (i j : ℕ) → j ≡ i + 1 → i < length values
    → high_parts k (drop i values) ≡ fs (get_or values i 0 / 2 ^ k) ++ high_parts k (drop j values)
high_parts-drop k values i j next within = flat_map-drop (λ v. fs (v / 2 ^ k)) values i j next within

pub pair_bits-drop : (values : List ℕ) (i j k : ℕ) → j ≡ i + 1 → k ≡ i + 2 → j < length values
    → pair_bits (drop i values) ≡ fs (pair_number (get_or values i 0) (get_or values j 0)) ++ pair_bits (drop k values)
pair_bits-drop values i j k next after within =
    let here : i < length values = omega arith in
    let there : suc i < length values = omega arith in
    let at_j : j ≡ suc i = omega arith in
    let at_k : k ≡ suc (suc i) = omega arith in
    rw (at_j, at_k) (ap pair_bits (drop-cons values i 0 here)
    ∙ ap (λ (rest : List ℕ). pair_bits (get_or values i 0 ∷ rest)) (drop-cons values (suc i) 0 there))

pub room-for_next : (old new : Bits) (done held todo codeword rest : List Bool) (n : ℕ) → GathersBits done old (held ++ todo) new
    → length done ≤ old.room → todo ≡ codeword ++ rest → length codeword ≡ n → length held + n ≤ new.room
room-for_next old new done held todo codeword rest n so_far reserved split is =
    let total = ap (length {A = Bool}) split ∙ length-append codeword rest in
    let ahead = length-append held todo in
    let so_much = so_far.room in
    omega arith

pub length-parts : (todo codeword rest : List Bool) (n : ℕ) → todo ≡ codeword ++ rest → length codeword ≡ n → length todo ≡ n + length rest
length-parts todo codeword rest n split is =
    let total = ap (length {A = Bool}) split ∙ length-append codeword rest in
    omega arith

-- if no codeword is left, all are gathered
pub gathered-all : (old new : Bits) (done held todo : List Bool) → GathersBits done old (held ++ todo) new → todo ≡ [] → GathersBits done old held new
gathered-all old new done held todo so_far none =
    subst (λ bits. GathersBits done old bits new) (ap (λ (bits : List Bool). held ++ bits) none ∙ append-nil held) so_far

pair_bits-short : (values : List ℕ) → length values ≤ 1 → pair_bits values ≡ []
pair_bits-short [] few = refl
pair_bits-short (a ∷ []) few = refl
pair_bits-short (a ∷ (b ∷ values)) few = absurd (omega arith)

pub pair_bits-drop_end : (values : List ℕ) (i : ℕ) → length values ≤ i + 1 → pair_bits (drop i values) ≡ []
pair_bits-drop_end values i few = pair_bits-short (drop i values) (omega (arith, length-drop i values))

-- ---- a coded data set in parts
low_parts-plain : (n : ℕ) (values : List ℕ) → AllByRecursion (λ v. v < 2 ^ n) values → low_parts n values ≡ flat_map (binary n) values
low_parts-plain n [] small = refl
low_parts-plain n (v ∷ values) small =
    ap (λ (low : ℕ). binary n low ++ low_parts n values) (mod-eq_of_lt small.0)
    ∙ ap (λ (bits : List Bool). binary n v ++ bits) (low_parts-plain n values small.1)

pub after_reference-small : (n : ℕ) (reference : Option ℕ) (values : List ℕ) → AllByRecursion (λ v. v < 2 ^ n) values
    → AllByRecursion (λ v. v < 2 ^ n) (after_reference reference values)
after_reference-small n None values small = small
after_reference-small n (Some r) [] small = tt
after_reference-small n (Some r) (v ∷ values) small = small.1

pub low_parts-written : (s : Settings) (b : Block) → IsFull s b
    → low_parts s.bits (written_values b) ≡ flat_map (binary s.bits) (written_values b)
low_parts-written s b full = low_parts-plain s.bits (written_values b) (after_reference-small s.bits b.reference b.values full.values)

few_id_bits : (s : Settings) → id_len s < 32
few_id_bits s =
    cond_both s.restricted (if nat_le s.bits 2 then 1 else 2) (if nat_le s.bits 8 then 3 else (if nat_le s.bits 16 then 4 else 5)) (λ n. n < 32)
    (λ _. cond_both (nat_le s.bits 2) 1 2 (λ n. n < 32) (λ _. lit< tt) (λ _. lit< tt))
    (λ _. cond_both (nat_le s.bits 8) 3 (if nat_le s.bits 16 then 4 else 5) (λ n. n < 32) (λ _. lit< tt)
    (λ _. cond_both (nat_le s.bits 16) 4 5 (λ n. n < 32) (λ _. lit< tt) (λ _. lit< tt)))

-- the identifier of all ones, as code computes it, with the reference sample and the values
pub uncompressed-parts : (s : Settings) (b : Block) (width n : ℕ) (reference : Option ℕ) (values : List ℕ) → IsFull s b → width ≡ id_len s → n ≡ s.bits
    → reference ≡ b.reference → values ≡ written_values b
    → (binary width (1 * 2 ^ width % 2 ^ 32 - 1) ++ reference_bits s reference) ++ low_parts n values ≡ cds_bits s (uncompressed b)
uncompressed-parts s b width n reference values full is_width is_n is_reference is_values =
    let low = low_parts s.bits (written_values b) in
    let ones = one_shl (id_len s) 32 (few_id_bits s) in
    rw (is_width, is_n, is_reference, is_values) (
    append_assoc (binary (id_len s) (1 * 2 ^ id_len s % 2 ^ 32 - 1)) (reference_bits s b.reference) low
    ∙ (ap (λ (power : ℕ). binary (id_len s) (power - 1) ++ (reference_bits s b.reference ++ low)) ones
    ∙ ap (λ (bits : List Bool). binary (id_len s) (2 ^ id_len s - 1) ++ (reference_bits s b.reference ++ bits)) (low_parts-written s b full))
    )

-- the identifier, the reference sample, and the values split at bit k
pub split-parts : (s : Settings) (b : Block) (k width : ℕ) (reference : Option ℕ) (values : List ℕ) → width ≡ id_len s → reference ≡ b.reference
    → values ≡ written_values b
    → (binary width (k + 1) ++ reference_bits s reference) ++ split_parts k values ≡ cds_bits s (split b k)
split-parts s b k width reference values is_width is_reference is_values =
    rw (is_width, is_reference, is_values)
    (append_assoc (binary (id_len s) (k + 1)) (reference_bits s b.reference) (split_parts k (written_values b)))

-- the identifier of the second extension, the reference sample and the pairs
pub paired-parts : (s : Settings) (b : Block) (width : ℕ) (reference : Option ℕ) (values : List ℕ) → width ≡ id_len s → reference ≡ b.reference
    → values ≡ b.values
    → (binary (width + 1) 1 ++ reference_bits s reference) ++ pair_bits values ≡ cds_bits s (paired b)
paired-parts s b width reference values is_width is_reference is_values =
    rw (is_width, is_reference, is_values) (append_assoc (binary (id_len s + 1) 1) (reference_bits s b.reference) (pair_bits b.values))

pub ruleset behind = (take_rest)

pub ruleset both = (length-append, parts-joined)

pub ruleset parts = (append_assoc, length-append, length-binary, length-fs, length-reference_bits, low_parts-written)
