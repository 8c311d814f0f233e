-- What a reader of bits returns, stated as what is taken from the bits that are left.
use Rattle.std.proofs.Common.{◌≡◌, ℕ, zero, suc, ◌+◌, ◌-◌, ◌*◌, ◌^◌, ◌<◌, ◌≤◌, Bool, true, false, Result, Ok, Err, List, [], ◌∷◌, ◌++◌, length, take, drop, replicate, refl, sym, ap, ◌∙◌, inl, inr, arith}
use Rattle.std.specs.Prelude.{IfOk, IfErr, OnOk, MatchResult}
use Rattle.std.specs.List.{flat_map}
use Rattle.std.proofs.lemmas.Bool.{cases_lt, le-leb, lt-leb}
use Rattle.std.proofs.lemmas.List.{length-append, length-drop}
use Rattle.aec_params.specs.declared.fault.Fault.{Fault}
use Rattle.aec_params.specs.declared.fault.Fault.TheVariants.{Truncated}
use Rattle.aec_params.specs.Codewords.{fs, binary}
use Rattle.aec_bits.specs.BitReader.{Cursor, has_one, AreBelow, IsBehindWord}
use Rattle.aec_block.specs.ReadAt.{nothing, taken, map_taken, fs_at, binary_at, values_at}
use Rattle.aec_block.specs.Gathering.{bits_at, as_taken, as_taken_by, small_values, IsSeen, PutsHighs}
use Rattle.aec_block.proofs.CodewordLemmas.{fs_at-fs, binary_at-binary, binary_reader, fs_reader, values_at-reads, all_numbers}

pub binary_at-missing : (w : ℕ) (bits : List Bool) → length bits < w → binary_at w bits ≡ nothing
binary_at-missing w bits short = rw (lt-leb w (length bits) short) refl

pub fs_at-missing : (bits : List Bool) → has_one bits ≡ false → fs_at bits ≡ nothing
fs_at-missing [] none = refl
fs_at-missing (true ∷ bits) none = absurd (cc)
fs_at-missing (false ∷ bits) none = rw (fs_at-missing bits none) refl

pub number_taken : (w : ℕ) (old new : Cursor) (result : Result ℕ Fault)
    → IfOk result (λ v. v < 2 ^ w) → IfOk result (λ v. drop old.pos old.list ≡ binary w v ++ drop (old.pos + w) old.list)
    → OnOk result (new.pos ≡ old.pos + w)
    → MatchResult result (λ v. old.pos + w ≤ length old.list) (λ e. (length old.list < old.pos + w) × (e ≡ Truncated old.pos))
    → old.pos ≤ length old.list → new.list ≡ old.list → binary_at w (bits_at old) ≡ as_taken result (bits_at new)
number_taken w old new (Ok v) fits bits moves refuses inside same =
    rw (same, moves) (ap (binary_at w) bits ∙ binary_at-binary w v (drop (old.pos + w) old.list) fits)
number_taken w old new (Err e) fits bits moves refuses inside same =
    binary_at-missing w (bits_at old) (omega (arith, length-drop old.pos old.list, refuses.0))

pub sequence_taken : (old new : Cursor) (result : Result ℕ Fault)
    → IfOk result (λ v. drop old.pos old.list ≡ fs v ++ drop (old.pos + v + 1) old.list) → IfOk result (λ v. new.pos ≡ old.pos + v + 1)
    → IfErr result (λ e. (has_one (drop old.pos old.list) ≡ false) × (e ≡ Truncated old.pos))
    → new.list ≡ old.list → fs_at (bits_at old) ≡ as_taken result (bits_at new)
sequence_taken old new (Ok v) bits moves refuses same =
    rw (same, moves) (ap fs_at bits ∙ fs_at-fs v (drop (old.pos + v + 1) old.list))
sequence_taken old new (Err e) bits moves refuses same = fs_at-missing (bits_at old) refuses.0

-- ---- numbers in a row

-- if too few bits are left for n numbers, nothing is taken
pub values_at-missing : (w n : ℕ) (bits : List Bool) → length bits < w * n → values_at (binary_at w) n bits ≡ nothing
values_at-missing w zero bits short = absurd (omega arith)
values_at-missing w (suc n) bits short =
    elim (cases_lt (length bits) w) [
      | inl few ↦ rw (binary_at-missing w bits few) refl
      | inr some ↦
          let left : length (drop w bits) < w * n = omega (arith, length-drop w bits) in
          rw (le-leb w (length bits) some, values_at-missing w n (drop w bits) left) refl
    ]

pub numbers_taken : (w : ℕ) (old new : Cursor) (before after : List ℕ) (result : Result (Unit {0}) Fault)
    → OnOk result (drop old.pos old.list ≡ flat_map (binary w) after ++ drop new.pos old.list) → OnOk result (AreBelow (2 ^ w) after)
    → MatchResult result (λ _. old.pos + w * length before ≤ length old.list)
    (λ e. (length old.list < old.pos + w * length before) × (e ≡ Truncated old.pos))
    → length after ≡ length before → old.pos ≤ length old.list → new.list ≡ old.list
    → values_at (binary_at w) (length before) (bits_at old) ≡ as_taken_by (λ _. after) result (bits_at new)
numbers_taken w old new before after (Ok v) bits below refuses count inside same =
    rw (same, ← count) (ap (values_at (binary_at w) (length after)) bits
    ∙ values_at-reads (binary w) (λ v. v < 2 ^ w) (binary_at w) (binary_reader w) after (drop new.pos old.list) below)
numbers_taken w old new before after (Err e) bits below refuses count inside same =
    values_at-missing w (length before) (bits_at old) (omega (arith, length-drop old.pos old.list, refuses.0))

pub sequences_taken : (old new : Cursor) (before after : List ℕ) → drop old.pos old.list ≡ flat_map fs after ++ drop new.pos old.list
    → length after ≡ length before → new.list ≡ old.list → values_at fs_at (length before) (bits_at old) ≡ taken after (bits_at new)
sequences_taken old new before after bits count same =
    rw (same, ← count) (ap (values_at fs_at (length after)) bits
    ∙ values_at-reads fs (λ v. Unit {0}) fs_at fs_reader after (drop new.pos old.list) (all_numbers after))

-- a cursor that moves past `front` moves by the length of `front`
pub gone_over : (old new : ℕ) (list front : List Bool) → old ≤ length list → new ≤ length list → drop old list ≡ front ++ drop new list
    → new ≡ old + length front
gone_over old new list front from to stands =
    omega (arith, ap (length {A = Bool}) stands, length-drop old list, length-append front (drop new list), length-drop new list)

-- ---- from a word that was seen

-- the bits of a word that were read, and those that are read next
pub seen_further : (old new : Cursor) (gone width total word : ℕ) → IsBehindWord old gone word → new.list ≡ old.list → new.pos ≡ old.pos + width
    → total ≡ gone + width → 0 < total → total < 64 → IsSeen new total word
seen_further old new gone width total word behind same moved sum some inside =
    let from : old.pos - gone ≡ new.pos - total = omega (arith, behind.there, moved, sum) in
    record {
      some = some;
      inside = inside;
      word = record {
        there = omega (arith, behind.there, moved, sum);
        bits = behind.bits ∙ (ap (λ n. take 64 (drop n old.list ++ replicate 64 false)) from
            ∙ ap (λ l. take 64 (drop (new.pos - total) l ++ replicate 64 false)) (sym same));
      };
    }

-- a reader that hasn't moved reads the same high parts
pub highs_of_same : {E : Type 0} (limit : ℕ) (old mid new : Cursor) (before between highs : List ℕ) (result : Result Bool E) → mid ≡ old
    → length between ≡ length before → PutsHighs limit mid between result new highs → PutsHighs limit old before result new highs
highs_of_same limit old mid new before between highs result is count puts = record {
  taken = ap (λ n. map_taken (small_values limit) (values_at fs_at n (bits_at old))) (sym count)
      ∙ (ap (λ c. map_taken (small_values limit) (values_at fs_at (length between) (bits_at c))) (sym is) ∙ puts.taken);
  len = puts.len ∙ count;
  list = puts.list ∙ ap (λ (c : Cursor). c.list) is;
  within = puts.within;
}
