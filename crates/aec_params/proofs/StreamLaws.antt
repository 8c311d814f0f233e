-- The blocks of lawful coded data sets have the format's shape, so they have samples.
use Rattle.std.proofs.Common.{◌≡◌, ℕ, zero, suc, ◌+◌, ◌-◌, ◌*◌, ◌/◌, ◌%◌, ◌^◌, ◌<◌, ◌≤◌, Bool, true, false, ltb, leb, eqb, List, [], ◌∷◌, length, drop, replicate, Option, Some, None, refl, ap, sym, ◌∙◌, subst, arith}
use Rattle.std.specs.List.{AllByRecursion, list_all}
use Rattle.std.proofs.lemmas.Bool.{and_right, ne_eqb, leb-true, ltb-true}
use Rattle.std.proofs.lemmas.Bool.Decides.{nat_tests}
use Rattle.std.proofs.lemmas.List.{length-replicate}
use Rattle.std.proofs.lemmas.Nat.{pow_pos}
use Rattle.std.proofs.Math.Nat.{mod-eq_of_lt, mod-lt, mul-add-mod_self_left}
use Rattle.aec_params.specs.declared.settings.Settings.{Settings}
use Rattle.aec_params.specs.Params.{IsAllowed}
use Rattle.aec_params.specs.CodedDataSets.{Body, uncompressed_values, value_pairs, split_values, zero_blocks, CodedDataSet, HasReference, HasBody, judged_in, written_count}
use Rattle.aec_params.specs.Places.{segment_left, run_len, body_blocks, block_count, is_reference_block, IsLawfulAt, placed_values, placed_members, zero_block, blocks_in, cds_blocks}
use Rattle.aec_params.specs.Reading.{LeadsTo, stream_blocks, next_block, next_begin}
use Rattle.aec_params.specs.BlockShapes.{IsBlockAt, AreBlocksFrom, HasReferencePlace}
use Rattle.aec_params.proofs.ListLaws.{both_true, all-replicate}
use Rattle.aec_params.proofs.SettingLaws.{block_size-positive, interval-positive}
use Rattle.aec_params.proofs.BlockShapeLaws.{AreBlocksFrom-append}

-- ---- one block

below_all : (s : Settings) (values : List ℕ) → list_all (λ (v : ℕ). ltb v (2 ^ s.bits)) values ≡ true → AllByRecursion (λ (v : ℕ). v < 2 ^ s.bits) values
below_all s [] e = tt
below_all s (v ∷ values) e =
    let h = both_true (ltb v (2 ^ s.bits)) (list_all (λ (v : ℕ). ltb v (2 ^ s.bits)) values) e in
    (ltb-true v (2 ^ s.bits) h.0, below_all s values h.1)

-- the block of a coded data set that writes its values one by one, without the reference place
placed_block : (s : Settings) (p : ℕ) (r : Option ℕ) (values : List ℕ) → IsAllowed s → (is_first : Bool) → is_reference_block s p ≡ is_first
    → HasReference s is_first r → length values ≡ written_count s is_first → AllByRecursion (λ (v : ℕ). v < 2 ^ s.bits) values
    → IsBlockAt s p (record { reference = r; values = placed_values r values })
placed_block s p (Some r) values a true e h c b = record {
  reference = rw e h;
  count = let j = block_size-positive s a in omega arith;
  below = (pow_pos s.bits, b);
  place = refl;
}
placed_block s p (Some r) values a false e h c b = absurd h
placed_block s p None values a true e h c b = absurd h
placed_block s p None values a false e h c b = record { reference = rw e h; count = c; below = b; place = refl }

-- the block of the members of pairs; in a reference block the first member is not a value
member_block : (s : Settings) (p : ℕ) (r : Option ℕ) (members : List ℕ) → IsAllowed s → (is_first : Bool) → is_reference_block s p ≡ is_first
    → HasReference s is_first r → length members ≡ s.block_size
    → AllByRecursion (λ (v : ℕ). v < 2 ^ s.bits) (judged_in r (value_pairs members))
    → IsBlockAt s p (record { reference = r; values = placed_members r members })
member_block s p (Some r) [] a true e h c b = absurd (let j = block_size-positive s a in omega arith)
member_block s p (Some r) (m ∷ members) a true e h c b = record { reference = rw e h; count = c; below = (pow_pos s.bits, b); place = refl }
member_block s p (Some r) members a false e h c b = absurd h
member_block s p None members a true e h c b = absurd h
member_block s p None members a false e h c b = record { reference = rw e h; count = c; below = b; place = refl }

zeros_first : (n : ℕ) → 0 < n → replicate {A = ℕ} n 0 ≡ 0 ∷ drop 1 (replicate n 0)
zeros_first zero h = absurd (omega arith)
zeros_first (suc n) h = refl

-- a block of zeros fits at any place
pub zero_block_at : (s : Settings) (p : ℕ) (r : Option ℕ) → IsAllowed s → HasReference s (is_reference_block s p) r → IsBlockAt s p (zero_block s r)
zero_block_at s p r a h = record {
  reference = h;
  count = length-replicate s.block_size 0;
  below = all-replicate (λ (v : ℕ). v < 2 ^ s.bits) s.block_size 0 (pow_pos s.bits);
  place = place s r a;
}
  where
    place : (s : Settings) (r : Option ℕ) → IsAllowed s → HasReferencePlace r (replicate s.block_size 0)
    place s None a = refl
    place s (Some r) a = zeros_first s.block_size (block_size-positive s a)

-- ---- one coded data set

pub not_first : (s : Settings) (p : ℕ) → 0 < p → is_reference_block s p ≡ false
not_first s p l = and_right s.preprocess (eqb p 0) (ne_eqb p 0 (λ e. absurd (omega arith)))

-- k zero blocks fit from place q > 0 on of the interval that begins at block r * d
zeros_from : (s : Settings) (d q k : ℕ) → IsAllowed s → 0 < q → q + k ≤ s.interval
    → AreBlocksFrom s (s.interval * d + q) (replicate k (zero_block s None))
zeros_from s d q zero a l h = tt
zeros_from s d q (suc k) a l h =
    let e : (s.interval * d + q) % s.interval ≡ q = mul-add-mod_self_left s.interval d q ∙ mod-eq_of_lt (omega arith) in
    let f : s.interval * d + q + 1 ≡ s.interval * d + (q + 1) = omega arith in (
      subst (λ (t : ℕ). IsBlockAt s t (zero_block s None)) (sym e) (zero_block_at s q None a (rw (not_first s q l) tt)),
      subst (λ (t : ℕ). AreBlocksFrom s t (replicate k (zero_block s None))) (sym f) (zeros_from s d (q + 1) k a (omega arith) (omega arith)),
    )

-- what is left of a segment lies in its interval, and has at least one block
segment_left-in_interval : (s : Settings) (p : ℕ) → segment_left s p ≤ s.interval - p
segment_left-in_interval s p = omega arith

pub segment_left-some : (s : Settings) (p : ℕ) → p < s.interval → 0 < segment_left s p
segment_left-some s p l = omega arith

pub run_len-some : (s : Settings) (p m : ℕ) → p < s.interval → 0 < run_len s p m
run_len-some s p m l = grind (arith, nat_tests, segment_left-some s p l)

pub blocks_in-shape : (s : Settings) (i : ℕ) (r : Option ℕ) (body : Body) → IsAllowed s → HasReference s (is_reference_block s (i % s.interval)) r
    → HasBody s (is_reference_block s (i % s.interval)) body
    → list_all (λ (v : ℕ). ltb v (2 ^ s.bits)) (judged_in r body) ≡ true
    → leb (body_blocks s (i % s.interval) body) (segment_left s (i % s.interval)) ≡ true
    → AreBlocksFrom s i (blocks_in s (i % s.interval) r body)
blocks_in-shape s i r (uncompressed_values values) a h k e w =
    (placed_block s (i % s.interval) r values a (is_reference_block s (i % s.interval)) refl h k.0 (below_all s values e), tt)
blocks_in-shape s i r (value_pairs members) a h k e w =
    (member_block s (i % s.interval) r members a (is_reference_block s (i % s.interval)) refl h k (below_all s (judged_in r (value_pairs members)) e), tt)
blocks_in-shape s i r (split_values j values) a h k e w =
    (placed_block s (i % s.interval) r values a (is_reference_block s (i % s.interval)) refl h k.1 (below_all s values e), tt)
blocks_in-shape s i r (zero_blocks m) a h k e w =
    let p = i % s.interval in
    let within = leb-true (run_len s p m) (segment_left s p) w in
    let inside = segment_left-in_interval s p in
    let some = run_len-some s p m (mod-lt i (interval-positive s a)) in
    let split : s.interval * (i / s.interval) + (p + 1) ≡ i + 1 = omega arith in (
      zero_block_at s p r a h,
      subst (λ (t : ℕ). AreBlocksFrom s t (replicate (run_len s p m - 1) (zero_block s None))) split
          (zeros_from s (i / s.interval) (p + 1) (run_len s p m - 1) a (omega arith) (omega arith)),
    )

length-blocks_in : (s : Settings) (p : ℕ) (r : Option ℕ) (body : Body) → p < s.interval → length (blocks_in s p r body) ≡ body_blocks s p body
length-blocks_in s p r (uncompressed_values values) l = refl
length-blocks_in s p r (value_pairs values) l = refl
length-blocks_in s p r (split_values k values) l = refl
length-blocks_in s p r (zero_blocks m) l =
    let some = run_len-some s p m l in omega (arith, length-replicate (run_len s p m - 1) (zero_block s None))

pub length-cds_blocks : (s : Settings) (p : ℕ) (c : CodedDataSet) → p < s.interval → length (cds_blocks s p c) ≡ block_count s p c
length-cds_blocks s p c l = length-blocks_in s p c.reference c.body l

-- the blocks of a lawful coded data set fit at its place
pub cds_blocks-shape : (s : Settings) (i : ℕ) (c : CodedDataSet)
    → IsAllowed s → IsLawfulAt s (i % s.interval) c → AreBlocksFrom s i (cds_blocks s (i % s.interval) c)
cds_blocks-shape s i c a h = blocks_in-shape s i c.reference c.body a h.shape.reference h.shape.body h.small h.within

-- ---- coded data sets one after the other

pub stream_blocks-shape : (s : Settings) (count : Option ℕ) (limit : ℕ) (bits : List Bool) (i b : ℕ) (sets : List CodedDataSet) (j e : ℕ)
    → IsAllowed s → LeadsTo s count limit bits i b sets j e → AreBlocksFrom s i (stream_blocks s i sets)
stream_blocks-shape s count limit bits i b [] j e a h = tt
stream_blocks-shape s count limit bits i b (c ∷ sets) j e a h =
    let p = i % s.interval in
    let rest = stream_blocks-shape s count limit bits (next_block s i c) (next_begin s bits i b c) sets j e a h.4 in
    let n : next_block s i c ≡ i + length (cds_blocks s p c) = ap (λ (t : ℕ). i + t) (sym (length-cds_blocks s p c (mod-lt i (interval-positive s a)))) in
    AreBlocksFrom-append s i (cds_blocks s p c) (stream_blocks s (next_block s i c) sets) (cds_blocks-shape s i c a h.2)
    (subst (λ (t : ℕ). AreBlocksFrom s t (stream_blocks s (next_block s i c) sets)) n rest)
