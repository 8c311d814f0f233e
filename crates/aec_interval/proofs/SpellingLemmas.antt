-- The shortest spelling of a block is one of its spellings: a lawful coded data set that stands for
-- the block.
use Rattle.std.proofs.Common.{◌≡◌, ℕ, zero, suc, ◌+◌, ◌^◌, ◌<◌, ◌≤◌, Bool, true, false, cond, Option, Some, None, List, [], ◌∷◌, length, map, drop, refl, sym, arith}
use Rattle.std.specs.Prelude.{nat_lt}
use Rattle.std.specs.List.{AllByRecursion, range_with_len, best_of, list_all}
use Rattle.std.proofs.lemmas.List.{length-drop}
use Rattle.std.proofs.lemmas.Bool.{cond_both, lt-ltb, and_from}
use Rattle.aec_params.specs.declared.settings.Settings.{Settings}
use Rattle.aec_params.specs.Params.{split_count}
use Rattle.aec_params.specs.Blocks.{Block}
use Rattle.aec_params.specs.CodedDataSets.{value_pairs, CodedDataSet, HasReference, HasShape, has_small_values, written_count}
use Rattle.aec_params.specs.Places.{placed_values, placed_members, block_count, cds_blocks}
use Rattle.aec_params.specs.Spellings.{written_values, after_reference, uncompressed, paired, split, compressed_spellings, shortest_spelling, is_shorter}
use Rattle.aec_params.specs.BlockShapes.{IsBlockOf}

-- a coded data set that spells one block by itself
pub record Spells (s : Settings) (is_reference : Bool) (b : Block) (c : CodedDataSet) : Type 0 where
  pub shape : HasShape s is_reference c
  pub small : has_small_values s c ≡ true
  pub single : (p : ℕ) → block_count s p c ≡ 1
  pub blocks : (p : ℕ) → cds_blocks s p c ≡ b ∷ []

pub best_of-either : {X : Type 0} (P : X → Type 0) (beats : X → X → Bool) (a : X) (xs : List X) → P a → AllByRecursion P xs → P (best_of beats a xs)
best_of-either P beats a [] h k = h
best_of-either P beats a (x ∷ xs) h k =
    best_of-either P beats (cond (beats x a) x a) xs (cond_both (beats x a) x a P (λ _. k.0) (λ _. h)) k.1

-- ---- what is written of a block

-- one value less if there is a reference
pub length-written_values : (s : Settings) (t : Bool) (reference : Option ℕ) (values : List ℕ) → HasReference s t reference → length values ≡ s.block_size
    → length (after_reference reference values) ≡ written_count s t
length-written_values s true (Some r) values h e = rw (length-drop, e)
length-written_values s true None values h e = absurd h
length-written_values s false (Some r) values h e = absurd h
length-written_values s false None values h e = e

pub all-drop : {X : Type 0} (P : X → Type 0) (n : ℕ) (xs : List X) → AllByRecursion P xs → AllByRecursion P (drop n xs)
all-drop P zero xs h = h
all-drop P (suc n) [] h = tt
all-drop P (suc n) (x ∷ xs) h = all-drop P n xs h.1

pub all-written_values : (P : ℕ → Type 0) (reference : Option ℕ) (values : List ℕ) → AllByRecursion P values
    → AllByRecursion P (after_reference reference values)
all-written_values P None values h = h
all-written_values P (Some r) values h = all-drop P 1 values h

pub list_all-from_all : (m : ℕ) (values : List ℕ) → AllByRecursion (λ v. v < m) values → list_all (λ v. nat_lt v m) values ≡ true
list_all-from_all m [] h = refl
list_all-from_all m (v ∷ values) h = and_from (nat_lt v m) (list_all (λ v. nat_lt v m) values) (lt-ltb v m h.0) (list_all-from_all m values h.1)

judged_members : (s : Settings) (reference : Option ℕ) (values : List ℕ) → AllByRecursion (λ v. v < 2 ^ s.bits) values
    → has_small_values s (record { reference = reference; body = value_pairs values }) ≡ true
judged_members s None values h = list_all-from_all (2 ^ s.bits) values h
judged_members s (Some r) values h = list_all-from_all (2 ^ s.bits) (drop 1 values) (all-drop (λ v. v < 2 ^ s.bits) 1 values h)

-- ---- each spelling

block-again : (b : Block) (values : List ℕ) → values ≡ b.values → record { reference = b.reference; values = values } ≡ b
block-again b values e = rw e

pub Spells-uncompressed : (s : Settings) (t : Bool) (b : Block) → IsBlockOf s t b → Spells s t b (uncompressed b)
Spells-uncompressed s t b h = record {
  shape = record {
    reference = h.reference;
    body = (length-written_values s t b.reference b.values h.reference h.count, all-written_values (λ v. v < 2 ^ s.bits) b.reference b.values h.below);
  };
  small = list_all-from_all (2 ^ s.bits) (written_values b) (all-written_values (λ v. v < 2 ^ s.bits) b.reference b.values h.below);
  single = λ p. refl;
  blocks = λ p. rw (block-again b (placed_values b.reference (written_values b)) (sym h.place));
}

pub Spells-paired : (s : Settings) (t : Bool) (b : Block) → IsBlockOf s t b → Spells s t b (paired b)
Spells-paired s t b h = record {
  shape = record { reference = h.reference; body = h.count };
  small = judged_members s b.reference b.values h.below;
  single = λ p. refl;
  blocks = λ p. rw (block-again b (placed_members b.reference b.values) (sym h.place));
}

pub Spells-split : (s : Settings) (t : Bool) (b : Block) (k : ℕ) → IsBlockOf s t b → k < split_count s → Spells s t b (split b k)
Spells-split s t b k h few = record {
  shape = record { reference = h.reference; body = (few, length-written_values s t b.reference b.values h.reference h.count) };
  small = list_all-from_all (2 ^ s.bits) (written_values b) (all-written_values (λ v. v < 2 ^ s.bits) b.reference b.values h.below);
  single = λ p. refl;
  blocks = λ p. rw (block-again b (placed_values b.reference (written_values b)) (sym h.place));
}

all-splits : (s : Settings) (t : Bool) (b : Block) → IsBlockOf s t b → (first count : ℕ) → first + count ≤ split_count s
    → AllByRecursion (Spells s t b) (map (split b) (range_with_len first count))
all-splits s t b h first zero few = tt
all-splits s t b h first (suc count) few = (Spells-split s t b first h (omega arith), all-splits s t b h (first + 1) count (omega arith))

-- the shortest spelling is one of the spellings
pub Spells-shortest_spelling : (s : Settings) (t : Bool) (b : Block) → IsBlockOf s t b → Spells s t b (shortest_spelling s b)
Spells-shortest_spelling s t b h =
    best_of-either (Spells s t b) (is_shorter s) (uncompressed b) (compressed_spellings s b) (Spells-uncompressed s t b h)
    (Spells-paired s t b h, all-splits s t b h 0 (split_count s) (omega arith))
