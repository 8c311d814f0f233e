-- A reading goes one coded data set further.
use Rattle.std.proofs.Common.{◌≡◌, ℕ, zero, suc, ◌+◌, ◌-◌, ◌%◌, ◌<◌, ◌≤◌, Bool, true, Option, Some, None, ℤ, List, [], ◌∷◌, ◌++◌, length, take, append-nil, refl, ap, ◌∙◌, arith}
use Rattle.std.proofs.Math.Nat.{mod-lt, sub-zero, suc-sub-suc}
use Rattle.std.proofs.lemmas.List.{length-append, take_all}
use Rattle.std.proofs.lemmas.Bool.{ltb-true}
use Rattle.std.specs.Int.{div_ceil}
use Rattle.aec_params.specs.declared.settings.Settings.{Settings}
use Rattle.aec_params.specs.Params.{IsAllowed}
use Rattle.aec_params.specs.Blocks.{Block}
use Rattle.aec_params.specs.CodedDataSets.{CodedDataSet}
use Rattle.aec_params.specs.Places.{block_count, cds_blocks, IsLawfulAt}
use Rattle.aec_params.specs.Reading.{StandsAt, next_block, next_begin, is_wanted, keeps_limit, LeadsTo, stream_blocks, kept_blocks, FillBlocks}
use Rattle.aec_interval.specs.NextBlock.{FillsNext}
use Rattle.aec_interval.specs.Reached.{AreFilled, IsReached}
use Rattle.aec_params.proofs.SettingLaws.{interval-positive}
use Rattle.aec_interval.proofs.PlaceLemmas.{LeadsTo-append, stream_blocks-append}
use Rattle.aec_params.proofs.StreamLaws.{length-cds_blocks}

-- coded data sets that lead from block i to block j stand for j - i blocks
pub length-stream_blocks : (s : Settings) (count : Option ℕ) (limit : ℕ) (bits : List Bool) (i b : ℕ) (sets : List CodedDataSet) (j e : ℕ) → 0 < s.interval
    → LeadsTo s count limit bits i b sets j e → i + length (stream_blocks s i sets) ≡ j
length-stream_blocks s count limit bits i b [] j e positive leads = omega arith
length-stream_blocks s count limit bits i b (c ∷ sets) j e positive leads =
    let here : length (cds_blocks s (i % s.interval) c) ≡ block_count s (i % s.interval) c = length-cds_blocks s (i % s.interval) c (mod-lt i positive) in
    let later = length-stream_blocks s count limit bits (next_block s i c) (next_begin s bits i b c) sets j e positive leads.4 in
    omega (arith, length-append (cds_blocks s (i % s.interval) c) (stream_blocks s (next_block s i c) sets))

pub take-append-past : {X : Type 0} (n : ℕ) (xs ys : List X) → length xs ≤ n → take n (xs ++ ys) ≡ xs ++ take (n - length xs) ys
take-append-past n [] ys within = rw sub-zero
take-append-past zero (x ∷ xs) ys within = absurd (omega arith)
take-append-past (suc n) (x ∷ xs) ys within = rw (take-append-past n xs ys (omega arith), suc-sub-suc)

-- if more is wanted after some blocks, all of these are kept, and those after them that are needed
pub kept_blocks-append : (s : Settings) (count : Option ℕ) (bits : List Bool) (first i b : ℕ) (blocks more : List Block) → first + length blocks ≡ i
    → is_wanted s count bits i b ≡ true → kept_blocks s count first (blocks ++ more) ≡ blocks ++ kept_blocks s count i more
kept_blocks-append s None bits first i b blocks more len wanted = refl
kept_blocks-append s (Some count) bits first i b blocks more len wanted =
    let below = ltb-true i (div_ceil count s.block_size) wanted in
    take-append-past (div_ceil count s.block_size - first) blocks more (omega arith) ∙ ap (λ k. blocks ++ take k more) (omega arith)

pub kept_blocks-wanted : (s : Settings) (count : Option ℕ) (bits : List Bool) (first i b : ℕ) (blocks : List Block) → first + length blocks ≡ i
    → is_wanted s count bits i b ≡ true → kept_blocks s count first blocks ≡ blocks
kept_blocks-wanted s None bits first i b blocks len wanted = refl
kept_blocks-wanted s (Some count) bits first i b blocks len wanted =
    let below = ltb-true i (div_ceil count s.block_size) wanted in
    take_all (div_ceil count s.block_size - first) blocks (omega arith)

-- if more is wanted after coded data sets, all of their blocks are kept, and those after them that
-- are needed
pub kept_blocks-joined : (s : Settings) (count : Option ℕ) (limit : ℕ) (bits : List Bool) (first start : ℕ) (sets : List CodedDataSet) (i b : ℕ)
    (later : List CodedDataSet) → IsAllowed s → LeadsTo s count limit bits first start sets i b → is_wanted s count bits i b ≡ true
    → kept_blocks s count first (stream_blocks s first (sets ++ later)) ≡ stream_blocks s first sets ++ kept_blocks s count i (stream_blocks s i later)
kept_blocks-joined s count limit bits first start sets i b later allowed leads wanted =
    rw (stream_blocks-append s count limit bits first start sets i b)
    (kept_blocks-append s count bits first i b (stream_blocks s first sets) (stream_blocks s i later)
    (length-stream_blocks s count limit bits first start sets i b (interval-positive s allowed) leads) wanted)

-- a reading has come to where more is wanted: its samples fill all blocks that were read
module _ {s : Settings} {count : Option ℕ} {limit : ℕ} {bits : List Bool} {first start i b : ℕ} {samples : List ℤ} (allowed : IsAllowed s)
    (reached : IsReached s count limit bits first start i b samples) (wanted : is_wanted s count bits i b ≡ true) where
  pub blocks-reached : first + length (stream_blocks s first reached.sets) ≡ i
  blocks-reached = length-stream_blocks s count limit bits first start reached.sets i b (interval-positive s allowed) reached.leads

  pub FillBlocks-reached : FillBlocks s samples (stream_blocks s first reached.sets)
  FillBlocks-reached = rw (kept_blocks-wanted s count bits first i b (stream_blocks s first reached.sets) blocks-reached) at reached.filled

  pub AreFilled-reached : AreFilled s (i - first) samples
  AreFilled-reached =
      record { blocks = stream_blocks s first reached.sets; filled = FillBlocks-reached; count_is = omega (arith, blocks-reached) }

pub IsReached-more : (s : Settings) (count : Option ℕ) (limit : ℕ) (bits : List Bool) (first start i b : ℕ) (old new : List ℤ) (c : CodedDataSet) → IsAllowed s
    → IsReached s count limit bits first start i b old → is_wanted s count bits i b ≡ true → StandsAt s bits b c → IsLawfulAt s (i % s.interval) c
    → keeps_limit s count limit (next_block s i c) ≡ true → FillsNext s old new (kept_blocks s count i (cds_blocks s (i % s.interval) c))
    → IsReached s count limit bits first start (next_block s i c) (next_begin s bits i b c) new
IsReached-more s count limit bits first start i b old new c allowed reached wanted stands lawful within fills = record {
  sets = reached.sets ++ c ∷ [];
  leads = LeadsTo-append s count limit bits first start reached.sets i b (c ∷ []) (next_block s i c) (next_begin s bits i b c) reached.leads
      (wanted, stands, lawful, within, (refl, refl));
  filled = rw (kept_blocks-joined s count limit bits first start reached.sets i b (c ∷ []) allowed reached.leads, append-nil)
      (fills (stream_blocks s first reached.sets) (FillBlocks-reached allowed reached wanted));
}
