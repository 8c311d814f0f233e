-- Places of coded data sets in a stream: those that cover an interval lead through it, and bits are
-- skipped only at its end.
use Rattle.std.proofs.Common.{◌≡◌, ℕ, ◌+◌, ◌*◌, ◌%◌, ◌<◌, ◌≤◌, Bool, true, Option, Some, List, [], ◌∷◌, ◌++◌, length, refl, sym, ap, ap₂, ◌∙◌, subst, arith}
use Rattle.std.specs.Prelude.{nat_lt}
use Rattle.std.specs.List.{flat_map}
use Rattle.std.specs.Int.{div_ceil}
use Rattle.std.proofs.lemmas.List.{length-append, append_assoc, append-nil}
use Rattle.std.proofs.Math.Seq.{drop-append_seam, drop-append-add}
use Rattle.std.proofs.lemmas.Nat.{mod-mul-add}
use Rattle.std.proofs.lemmas.Bool.{leb-true, lt-ltb}
use Rattle.aec_params.specs.declared.settings.Settings.{Settings}
use Rattle.aec_params.specs.CodedDataSets.{Body, uncompressed_values, value_pairs, split_values, zero_blocks, CodedDataSet, cds_bits}
use Rattle.aec_params.specs.Places.{block_count, body_blocks, IsLawfulAt, cds_blocks}
use Rattle.aec_params.specs.Reading.{Covers, covered_blocks, StandsAt, begin_of, next_block, next_begin, LeadsTo, stream_blocks}
pub use Rattle.aec_params.proofs.StreamLaws.{length-cds_blocks, run_len-some}

-- ---- how far coded data sets reach

-- a coded data set stands for at least one block
body_blocks-positive : (s : Settings) (p : ℕ) (body : Body) → p < s.interval → 0 < body_blocks s p body
body_blocks-positive s p (uncompressed_values values) h = omega arith
body_blocks-positive s p (value_pairs values) h = omega arith
body_blocks-positive s p (split_values k values) h = omega arith
body_blocks-positive s p (zero_blocks m) h = run_len-some s p m h

pub block_count-positive : (s : Settings) (p : ℕ) (c : CodedDataSet) → p < s.interval → 0 < block_count s p c
block_count-positive s p c h = body_blocks-positive s p c.body h

-- a lawful coded data set ends within its interval
pub lawful-within : (s : Settings) (p : ℕ) (c : CodedDataSet) → IsLawfulAt s p c → p < s.interval → p + block_count s p c ≤ s.interval
lawful-within s p c l h = grind arith

-- the block after coded data sets
abbrev pub end_of : Settings → ℕ → List CodedDataSet → ℕ
end_of s p [] = p
end_of s p (c ∷ sets) = end_of s (p + block_count s p c) sets

pub end_of-reaches : (s : Settings) (n p : ℕ) (sets : List CodedDataSet) → Covers s n p sets → n ≤ end_of s p sets
end_of-reaches s n p [] h = leb-true n p h
end_of-reaches s n p (c ∷ sets) h = end_of-reaches s n (p + block_count s p c) sets h.2

pub end_of-within : (s : Settings) (n p : ℕ) (sets : List CodedDataSet) → Covers s n p sets → n ≤ s.interval → p ≤ s.interval → end_of s p sets ≤ s.interval
end_of-within s n p [] h few k = k
end_of-within s n p (c ∷ sets) h few k = end_of-within s n (p + block_count s p c) sets h.2 few (lawful-within s p c h.1 (omega arith))

pub length-covered_blocks : (s : Settings) (n p : ℕ) (sets : List CodedDataSet) → Covers s n p sets → n ≤ s.interval
    → p + length (covered_blocks s p sets) ≡ end_of s p sets
length-covered_blocks s n p [] h few = omega arith
length-covered_blocks s n p (c ∷ sets) h few =
    let later = length-covered_blocks s n (p + block_count s p c) sets h.2 few in
    omega (arith, length-append (cds_blocks s p c) (covered_blocks s (p + block_count s p c) sets), length-cds_blocks s p c (omega arith))

pub stream_blocks-covered : (s : Settings) (n p k i : ℕ) (sets : List CodedDataSet) → Covers s n p sets → n ≤ s.interval → i ≡ k * s.interval + p
    → stream_blocks s i sets ≡ covered_blocks s p sets
stream_blocks-covered s n p k i [] h few e = refl
stream_blocks-covered s n p k i (c ∷ sets) h few e =
    let place : i % s.interval ≡ p = rw e (mod-mul-add k s.interval p (omega arith)) in
    cc (stream_blocks-covered s n (p + block_count s p c) k (next_block s i c) sets h.2 few (grind arith))

-- ---- one walk after another

pub LeadsTo-append : (s : Settings) (count : Option ℕ) (limit : ℕ) (bits : List Bool) (i b : ℕ) (sets : List CodedDataSet) (j e : ℕ)
    (later : List CodedDataSet) (k f : ℕ)
    → LeadsTo s count limit bits i b sets j e → LeadsTo s count limit bits j e later k f → LeadsTo s count limit bits i b (sets ++ later) k f
LeadsTo-append s count limit bits i b [] j e later k f h t = rw (h.1, h.0) at t
LeadsTo-append s count limit bits i b (c ∷ sets) j e later k f h t =
    (h.0, h.1, h.2, h.3, LeadsTo-append s count limit bits (next_block s i c) (next_begin s bits i b c) sets j e later k f h.4 t)

pub stream_blocks-append : (s : Settings) (count : Option ℕ) (limit : ℕ) (bits : List Bool) (i b : ℕ) (sets : List CodedDataSet) (j e : ℕ)
    (later : List CodedDataSet)
    → LeadsTo s count limit bits i b sets j e → stream_blocks s i (sets ++ later) ≡ stream_blocks s i sets ++ stream_blocks s j later
stream_blocks-append s count limit bits i b [] j e later h = rw h.0
stream_blocks-append s count limit bits i b (c ∷ sets) j e later h =
    rw (stream_blocks-append s count limit bits (next_block s i c) (next_begin s bits i b c) sets j e later h.4, append_assoc)

-- ---- the walk through one interval

pub StandsAt-front : (s : Settings) (pre : List Bool) (c : CodedDataSet) (rest : List Bool) → StandsAt s (pre ++ (cds_bits s c ++ rest)) (length pre) c
StandsAt-front s pre c rest = rw (drop-append_seam, drop-append-add, drop-append_seam)

-- within an interval, no bits are skipped before a coded data set
begin_of-inside : (s : Settings) (bits : List Bool) (i b : ℕ) → 0 < i % s.interval → begin_of s bits i b ≡ b
begin_of-inside s bits i b h = grind arith

-- the first coded data set of a walk: it is at block p of interval k, after the bits `pre`
record IsFirstAt (s : Settings) (count p k i b : ℕ) (pre : List Bool) (c : CodedDataSet) (bits : List Bool) : Type 0 where
  wanted : nat_lt i (div_ceil count s.block_size) ≡ true
  stands : StandsAt s bits b c
  lawful : IsLawfulAt s (i % s.interval) c
  next : next_block s i c ≡ k * s.interval + (p + block_count s p c)
  end : b + length (cds_bits s c) ≡ length (pre ++ cds_bits s c)

first_at : (s : Settings) (count p k i b : ℕ) (pre : List Bool) (c : CodedDataSet) (rest bits : List Bool) → p < s.interval
    → i < div_ceil count s.block_size
    → IsLawfulAt s p c → i ≡ k * s.interval + p → b ≡ length pre → bits ≡ pre ++ (cds_bits s c ++ rest) → IsFirstAt s count p k i b pre c bits
first_at s count p k i b pre c rest bits inside need lawful e f spelled =
    let place : i % s.interval ≡ p = rw (e, mod-mul-add) in
    record {
      wanted = lt-ltb i (div_ceil count s.block_size) need;
      stands = rw (spelled, f) (StandsAt-front s pre c rest);
      lawful = rw place lawful;
      next = grind arith;
      end = omega (arith, length-append pre (cds_bits s c));
    }

pub LeadsTo-interval : (s : Settings) (count limit n p k i b : ℕ) (pre : List Bool) (sets : List CodedDataSet) (rest bits : List Bool)
    → Covers s n p sets → p < n → n ≤ s.interval → k * s.interval + n ≤ div_ceil count s.block_size → i ≡ k * s.interval + p → b ≡ length pre
    → bits ≡ pre ++ (flat_map (cds_bits s) sets ++ rest)
    → LeadsTo s (Some count) limit bits i b sets (k * s.interval + end_of s p sets)
    (begin_of s bits (k * s.interval + end_of s p sets) (length pre + length (flat_map (cds_bits s) sets)))
LeadsTo-interval s count limit n p k i b pre [] rest bits h some few need e f spelled = absurd (omega (arith, leb-true))
LeadsTo-interval s count limit n p k i b pre (c ∷ []) rest bits h some few need e f spelled =
    let d = first_at s count p k i b pre c ([] ++ rest) bits (omega arith) (omega arith) h.1 e f (rw (spelled, append_assoc)) in
    let one : length (cds_bits s c ++ []) ≡ length (cds_bits s c) = rw append-nil in (
      d.wanted,
      d.stands,
      d.lawful,
      refl,
      (sym d.next, ap₂ (begin_of s bits) (sym d.next) (omega arith)),
    )
LeadsTo-interval s count limit n p k i b pre (c ∷ (d ∷ sets)) rest bits h some few need e f spelled =
    let first = first_at s count p k i b pre c (flat_map (cds_bits s) (d ∷ sets) ++ rest) bits (omega arith) (omega arith) h.1 e f
    (rw (spelled, append_assoc)) in
    let inside : p + block_count s p c < s.interval = omega (arith, h.2.0) in
    let unskipped : next_begin s bits i b c ≡ b + length (cds_bits s c) =
    begin_of-inside s bits (next_block s i c) (b + length (cds_bits s c)) (omega (
      arith,
      ap (λ q. q % s.interval) first.next ∙ mod-mul-add k s.interval (p + block_count s p c) inside,
      block_count-positive s p c (omega arith),
    )) in (
      first.wanted,
      first.stands,
      first.lawful,
      refl,
      subst (λ q. LeadsTo s (Some count) limit bits (next_block s i c) (next_begin s bits i b c) (d ∷ sets) (k * s.interval + end_of s p (c ∷ (d ∷ sets)))
          (begin_of s bits (k * s.interval + end_of s p (c ∷ (d ∷ sets))) q))
          (omega (arith, length-append (cds_bits s c) (flat_map (cds_bits s) (d ∷ sets))))
          (LeadsTo-interval s count limit n (p + block_count s p c) k (next_block s i c) (next_begin s bits i b c) (pre ++ cds_bits s c)
          (d ∷ sets) rest bits h.2 h.2.0 few need first.next (unskipped ∙ first.end) (rw (spelled, append_assoc (cds_bits s c), append_assoc pre))),
    )
