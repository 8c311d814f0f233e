-- The codes of intervals, one after the other, are read as the intervals.
use Rattle.std.proofs.Common.{◌≡◌, ℕ, ◌+◌, ◌-◌, ◌*◌, ◌/◌, ◌%◌, ◌<◌, ◌≤◌, Bool, true, false, Some, List, [], ◌∷◌, ◌++◌, length, map, take, replicate, refl, sym, ap, ap₂, ◌∙◌, subst, arith, ⊎_elim}
use Rattle.std.specs.Prelude.{ℤ, ◌==◌, if◌then◌else◌}
use Rattle.std.specs.List.{AllByRecursion, flat_map}
use Rattle.std.specs.Int.{div_ceil}
use Rattle.std.proofs.Math.Nat.{add-mul-div_right, mul-mod_left}
use Rattle.std.proofs.lemmas.List.{length-append, length-replicate, append_assoc, append-nil, take_all}
use Rattle.std.proofs.Math.Seq.{take-append-add}
use Rattle.std.proofs.lemmas.Bool.{cases_Bool, and_from, and_left, eq-eqb}
use Rattle.aec_params.specs.declared.settings.Settings.{Settings}
use Rattle.aec_params.specs.Params.{IsAllowed, IsHeld, interval_len}
use Rattle.aec_params.specs.Cutting.{up_to_multiple}
use Rattle.aec_params.specs.Blocks.{intervals_of, blocks_of, all_blocks_of}
use Rattle.aec_params.specs.CodedDataSets.{CodedDataSet, cds_bits}
use Rattle.aec_params.specs.Intervals.{unpadded_bits, interval_bits}
use Rattle.aec_params.specs.Streams.{stream_of}
use Rattle.aec_params.specs.Reading.{covered_blocks, ReadsBlocks, begin_of, LeadsTo, stream_blocks}
use Rattle.aec_interval.specs.Laws.{ReadsEach}
use Rattle.aec_interval.proofs.CuttingLemmas.{IsPieceBefore, by_pieces, pieces_of-nil, pieces_of-cons, pieces_of-one, div_ceil-positive}
use Rattle.aec_params.proofs.SettingLaws.{block_size-positive}
use Rattle.aec_interval.proofs.BlockLemmas.{all_left, all_right, length-blocks_of, blocks-few}
use Rattle.aec_interval.proofs.IntervalLemmas.{ReadsBlocks-unpadded_bits}
use Rattle.aec_interval.proofs.PlaceLemmas.{end_of, end_of-reaches, end_of-within, length-covered_blocks, stream_blocks-covered, LeadsTo-append, stream_blocks-append, LeadsTo-interval}
pub use Rattle.aec_params.proofs.SettingLaws.{interval-positive}
pub use Rattle.aec_params.proofs.SampleShapeLaws.{length-blocks_of_whole as length-full_blocks}
pub use Rattle.aec_params.proofs.SampleLaws.{interval_len-positive, all_blocks_of-nil}

-- ---- whole intervals before others

-- k whole pieces more
pub div_ceil-add : (k m n : ℕ) → 0 < n → div_ceil (n * k + m) n ≡ k + div_ceil m n
div_ceil-add k m n h =
    let e : n * k + m ≡ m + k * n = omega arith in
    let q = ap (λ x. x / n) e ∙ add-mul-div_right m k h in
    grind arith

pub stream_of-nil : (s : Settings) → IsAllowed s → stream_of s [] ≡ []
stream_of-nil s a = rw (pieces_of-nil (interval_len s) (interval_len-positive s a))

pub stream_of-cons : (s : Settings) (front rest : List ℤ) → IsPieceBefore (interval_len s) front rest
    → stream_of s (front ++ rest) ≡ interval_bits s front ++ stream_of s rest
stream_of-cons s front rest h = rw pieces_of-cons

pub all_blocks_of-cons : (s : Settings) (front rest : List ℤ) → IsPieceBefore (interval_len s) front rest
    → all_blocks_of s (front ++ rest) ≡ blocks_of s front ++ all_blocks_of s rest
all_blocks_of-cons s front rest h = rw pieces_of-cons

-- the blocks of one interval
pub all_blocks_of-one : (s : Settings) (v : List ℤ) → 0 < length v → length v ≤ interval_len s → all_blocks_of s v ≡ blocks_of s v
all_blocks_of-one s v some few = rw (pieces_of-one, append-nil)

-- a full interval, and what comes after it
pub div_ceil-interval : (s : Settings) (front rest : List ℤ) → IsAllowed s → length front ≡ interval_len s
    → div_ceil (length (front ++ rest)) s.block_size ≡ s.interval + div_ceil (length rest) s.block_size
div_ceil-interval s front rest a full = rw (length-append, full, div_ceil-add s.interval (length rest) s.block_size (block_size-positive s a))

-- ---- what padding adds

abbrev pub padding_of : Settings → List Bool → List Bool
padding_of s code = if s.pad then replicate (up_to_multiple 8 (length code)) false else []

-- a code, padded by its own length if the settings pad
abbrev pub padded_code : Settings → List Bool → List Bool
padded_code s code = code ++ padding_of s code

pub interval_bits-padded : (s : Settings) (v : List ℤ) → interval_bits s v ≡ padded_code s (unpadded_bits s v)
interval_bits-padded s v = padded s.pad (unpadded_bits s v) (replicate (up_to_multiple 8 (length (unpadded_bits s v))) false)
  where
    padded : (t : Bool) (x z : List Bool) → (if t then x ++ z else x) ≡ x ++ (if t then z else [])
    padded true x z = refl
    padded false x z = sym (append-nil x)

length-padding_of : (s : Settings) (code : List Bool) → s.pad ≡ true → length (padding_of s code) ≡ up_to_multiple 8 (length code)
length-padding_of s code t = rw (t, length-replicate)

pub no_padding : (s : Settings) (code : List Bool) → s.pad ≡ false → padded_code s code ≡ code
no_padding s code t = rw (t, append-nil)

-- bits before the start of an interval: with padding they are whole bytes
abbrev pub IsAligned : Settings → List Bool → Type 0
IsAligned s pre = s.pad ≡ true → length pre % 8 ≡ 0

-- after the code of a full interval, the next interval begins at the end of the padding
pub begin_of-code : (s : Settings) (code pre rest : List Bool) (k : ℕ) → IsAligned s pre
    → begin_of s (pre ++ (padded_code s code ++ rest)) (k * s.interval) (length pre + length code) ≡ length (pre ++ padded_code s code)
begin_of-code s code pre rest k aligned = ⊎_elim padded plain (cases_Bool s.pad)
  where
    bits : List Bool
    bits = pre ++ (padded_code s code ++ rest)

    i : ℕ
    i = k * s.interval

    b : ℕ
    b = length pre + length code

    len : length (pre ++ padded_code s code) ≡ b + length (padding_of s code)
    len = omega (arith, length-append pre (padded_code s code), length-append code (padding_of s code))

    enough : length (pre ++ padded_code s code) ≤ length bits
    enough = omega (arith, length-append pre (padded_code s code), length-append pre (padded_code s code ++ rest), length-append (padded_code s code) rest)

    plain : s.pad ≡ false → begin_of s bits i b ≡ length (pre ++ padded_code s code)
    plain t = rw and_left (omega (arith, length-append pre (padded_code s code), ap length (no_padding s code t)))

    padded : s.pad ≡ true → begin_of s bits i b ≡ length (pre ++ padded_code s code)
    padded t =
        rw (and_from s.pad (i % s.interval == 0) t (eq-eqb (i % s.interval) 0 (mul-mod_left k s.interval)))
        (omega (arith, len, enough, length-padding_of s code t, aligned t))

pub IsAligned-code : (s : Settings) (code pre : List Bool) → IsAligned s pre → IsAligned s (pre ++ padded_code s code)
IsAligned-code s code pre aligned t =
    omega (arith, length-append pre (padded_code s code), length-append code (padding_of s code), length-padding_of s code t, aligned t)

-- ---- from interval to interval

-- a walk from block i at position b to the last needed block; its needed blocks are those of xs
-- (`HasWalk`: through any codes of xs, whatever bits follow)
pub record IsWalk (s : Settings) (count limit : ℕ) (bits : List Bool) (i b : ℕ) (xs : List ℤ) : Type 0 where
  pub sets : List CodedDataSet
  pub end_block : ℕ
  pub end_bit : ℕ
  pub leads : LeadsTo s (Some count) limit bits i b sets end_block end_bit
  pub enough : div_ceil count s.block_size ≤ end_block
  pub blocks : take (div_ceil count s.block_size - i) (stream_blocks s i sets) ≡ all_blocks_of s xs

abbrev pub HasWalk : Settings → ℕ → ℕ → List Bool → List ℤ → Type 0
HasWalk s count limit tail xs = (codes : List (List Bool)) (k i b : ℕ) (pre bits : List Bool) → ReadsEach s codes (intervals_of s xs) → IsAligned s pre
    → i ≡ k * s.interval → b ≡ length pre → bits ≡ pre ++ (flat_map (padded_code s) codes ++ tail)
    → i + div_ceil (length xs) s.block_size ≡ div_ceil count s.block_size → IsWalk s count limit bits i b xs

no_walk : (s : Settings) (count limit : ℕ) (tail : List Bool) → IsAllowed s → HasWalk s count limit tail []
no_walk s count limit tail a codes k i b pre bits each aligned e f spelled need =
    let z : div_ceil count s.block_size - i ≡ 0 = omega arith in
    record {
      sets = [];
      end_block = i;
      end_bit = b;
      leads = (refl, refl);
      enough = omega arith;
      blocks = rw (z, all_blocks_of-nil);
    }

-- the walk through the code of one interval
pub record IsPart (s : Settings) (count limit k i b : ℕ) (pre bits code : List Bool) (v : List ℤ) : Type 0 where
  pub sets : List CodedDataSet
  pub leads : LeadsTo s (Some count) limit bits i b sets (k * s.interval + end_of s 0 sets)
      (begin_of s bits (k * s.interval + end_of s 0 sets) (length pre + length code))
  pub reaches : length (blocks_of s v) ≤ end_of s 0 sets
  pub within : end_of s 0 sets ≤ s.interval
  pub len : length (covered_blocks s 0 sets) ≡ end_of s 0 sets
  pub covered : stream_blocks s i sets ≡ covered_blocks s 0 sets
  pub stand_for : take (length (blocks_of s v)) (covered_blocks s 0 sets) ≡ blocks_of s v

pub part_of : (s : Settings) (count limit k i b : ℕ) (pre code rest bits : List Bool) (v : List ℤ) → IsAllowed s → 0 < length v → length v ≤ interval_len s
    → ReadsBlocks s code (blocks_of s v) → i ≡ k * s.interval → b ≡ length pre → bits ≡ pre ++ (padded_code s code ++ rest)
    → i + div_ceil (length v) s.block_size ≤ div_ceil count s.block_size
    → IsPart s count limit k i b pre bits code v
part_of s count limit k i b pre code rest bits v a some few r e f spelled need =
    let n = length (blocks_of s v) in
    let len : n ≡ div_ceil (length v) s.block_size = length-blocks_of s v a in
    let within : n ≤ s.interval = blocks-few s v a few in
    let positive : 0 < n = omega (arith, div_ceil-positive (length v) s.block_size (block_size-positive s a) some) in
    let cut : bits ≡ pre ++ (flat_map (cds_bits s) r.sets ++ (padding_of s code ++ rest)) = spelled ∙ ap (◌++◌ pre) (rw (append_assoc, r.spelled)) in
    record {
      sets = r.sets;
      leads = subst (λ x. LeadsTo s (Some count) limit bits i b r.sets (k * s.interval + end_of s 0 r.sets)
          (begin_of s bits (k * s.interval + end_of s 0 r.sets) (length pre + length x)))
          (sym r.spelled)
          (LeadsTo-interval s count limit n 0 k i b pre r.sets (padding_of s code ++ rest) bits r.covers positive within (omega arith) (omega arith) f cut);
      reaches = end_of-reaches s n 0 r.sets r.covers;
      within = end_of-within s n 0 r.sets r.covers within (omega arith);
      len = omega (arith, length-covered_blocks s n 0 r.sets r.covers within);
      covered = stream_blocks-covered s n 0 k i r.sets r.covers within (omega arith);
      stand_for = r.stand_for;
    }

last_walk : (s : Settings) (count limit : ℕ) (tail : List Bool) → IsAllowed s → (v : List ℤ) → 0 < length v → length v ≤ interval_len s
    → HasWalk s count limit tail v
last_walk s count limit tail a v some few [] k i b pre bits each aligned e f spelled need = absurd (rw pieces_of-one at each)
last_walk s count limit tail a v some few (code ∷ codes) k i b pre bits each aligned e f spelled need =
    let parts = rw pieces_of-one at each in
    let later = flat_map (padded_code s) codes ++ tail in
    let part = part_of s count limit k i b pre code later bits v a some few parts.0 e f (rw (spelled, append_assoc)) (omega arith) in
    let len = length-blocks_of s v a in
    let needed : div_ceil count s.block_size - i ≡ length (blocks_of s v) = omega arith in
    record {
      sets = part.sets;
      end_block = k * s.interval + end_of s 0 part.sets;
      end_bit = begin_of s bits (k * s.interval + end_of s 0 part.sets) (length pre + length code);
      leads = part.leads;
      enough = omega arith;
      blocks = rw (needed, part.covered, part.stand_for, all_blocks_of-one);
    }

-- the walk through the code of a full interval, and on through the others
walk_on : (s : Settings) (count limit : ℕ) (tail : List Bool) → IsAllowed s → (front rest : List ℤ) → IsPieceBefore (interval_len s) front rest
    → 0 < length rest → HasWalk s count limit tail rest → HasWalk s count limit tail (front ++ rest)
walk_on s count limit tail a front rest piece more ih [] k i b pre bits each aligned e f spelled need = absurd (rw pieces_of-cons at each)
walk_on s count limit tail a front rest piece more ih (code ∷ codes) k i b pre bits each aligned e f spelled need =
    record {
      sets = part.sets ++ later.sets;
      end_block = later.end_block;
      end_bit = later.end_bit;
      leads = LeadsTo-append s (Some count) limit bits i b part.sets j g later.sets later.end_block later.end_bit part.leads later.leads;
      enough = later.enough;
      blocks =
          rw (
            all_needed,
            stream_blocks-append s (Some count) limit bits i b part.sets j g later.sets part.leads,
            part.covered,
            take-append-add,
            here,
            later.blocks,
            all_blocks_of-cons,
          );
    }
  where
    parts : ReadsEach s (code ∷ codes) (front ∷ intervals_of s rest)
    parts = rw pieces_of-cons at each

    counted : div_ceil (length (front ++ rest)) s.block_size ≡ s.interval + div_ceil (length rest) s.block_size
    counted = div_ceil-interval s front rest a (piece.full more)

    n : length (blocks_of s front) ≡ s.interval
    n = length-full_blocks s front a (piece.full more)

    behind : List Bool
    behind = flat_map (padded_code s) codes ++ tail

    cut : bits ≡ pre ++ (padded_code s code ++ behind)
    cut = rw (spelled, append_assoc)

    part : IsPart s count limit k i b pre bits code front
    part = part_of s count limit k i b pre code behind bits front a piece.some piece.fits parts.0 e f cut
        (omega (arith, n, length-blocks_of s front a, counted))

    j : ℕ
    j = k * s.interval + end_of s 0 part.sets

    g : ℕ
    g = begin_of s bits j (length pre + length code)

    next : j ≡ (k + 1) * s.interval
    next = omega (arith, part.reaches, part.within, n)

    start : g ≡ length (pre ++ padded_code s code)
    start = ap₂ (λ x q. begin_of s x q (length pre + length code)) cut next ∙ begin_of-code s code pre behind (k + 1) aligned

    later : IsWalk s count limit bits j g rest
    later = ih codes (k + 1) j g (pre ++ padded_code s code) bits parts.1 (IsAligned-code s code pre aligned) next start
        (cut ∙ sym (append_assoc pre (padded_code s code) behind)) (omega (arith, counted, need, e, next))

    all_needed : div_ceil count s.block_size - i ≡ length (covered_blocks s 0 part.sets) + (div_ceil count s.block_size - j)
    all_needed = omega (arith, part.len, part.reaches, part.within, n, counted, need, e)

    here : covered_blocks s 0 part.sets ≡ blocks_of s front
    here = sym (take_all (length (blocks_of s front)) (covered_blocks s 0 part.sets) (omega (arith, part.len, part.within, n))) ∙ part.stand_for

step : (s : Settings) (count limit : ℕ) (tail : List Bool) → IsAllowed s → (front rest : List ℤ) → IsPieceBefore (interval_len s) front rest
    → HasWalk s count limit tail rest → HasWalk s count limit tail (front ++ rest)
step s count limit tail a front [] piece ih = rw append-nil (last_walk s count limit tail a front piece.some piece.fits)
step s count limit tail a front (x ∷ rest) piece ih = walk_on s count limit tail a front (x ∷ rest) piece (omega arith) ih

pub walk_of : (s : Settings) (count limit : ℕ) (tail : List Bool) → IsAllowed s → (xs : List ℤ) → HasWalk s count limit tail xs
walk_of s count limit tail a =
    by_pieces (HasWalk s count limit tail) (interval_len s) (interval_len-positive s a) (no_walk s count limit tail a) (step s count limit tail a)

-- ---- the code of samples

-- the code of samples is the padded codes of their intervals
pub stream_of-codes : (s : Settings) (intervals : List (List ℤ))
    → flat_map (interval_bits s) intervals ≡ flat_map (padded_code s) (map (unpadded_bits s) intervals)
stream_of-codes s [] = refl
stream_of-codes s (v ∷ intervals) = rw (interval_bits-padded, stream_of-codes s intervals)

pub ReadsEach-unpadded_bits : (s : Settings) → IsAllowed s → (xs : List ℤ) → AllByRecursion (IsHeld s) xs
    → ReadsEach s (map (unpadded_bits s) (intervals_of s xs)) (intervals_of s xs)
ReadsEach-unpadded_bits s a = by_pieces (λ xs. AllByRecursion (IsHeld s) xs → AreRead (intervals_of s xs)) (interval_len s) (interval_len-positive s a)
    (λ held. rw (pieces_of-nil (interval_len s) (interval_len-positive s a)) tt) (λ front rest piece ih held. rw pieces_of-cons
    (ReadsBlocks-unpadded_bits s front a (all_left (IsHeld s) front rest held) piece.some piece.fits, ih (all_right (IsHeld s) front rest held)))
  where
    AreRead : List (List ℤ) → Type 0
    AreRead intervals = ReadsEach s (map (unpadded_bits s) intervals) intervals
