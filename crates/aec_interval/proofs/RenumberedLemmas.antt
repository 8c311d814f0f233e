-- The blocks from where an interval begins, counted from 0.
use Rattle.std.proofs.Common.{◌≡◌, ℕ, ◌+◌, ◌%◌, ◌<◌, ◌≤◌, Bool, Option, Some, List, [], ◌∷◌, refl, sym, arith}
use Rattle.std.specs.Int.{div_ceil}
use Rattle.std.proofs.lemmas.Bool.{lt-ltb}
use Rattle.std.proofs.lemmas.List.{length-append}
use Rattle.aec_params.specs.declared.settings.Settings.{Settings}
use Rattle.aec_params.specs.Params.{IsAllowed}
use Rattle.aec_params.specs.CodedDataSets.{CodedDataSet}
use Rattle.aec_params.specs.Reading.{begin_of, next_block, next_begin, LeadsTo, stream_blocks}
use Rattle.aec_params.proofs.SettingLaws.{interval-positive}
use Rattle.aec_params.proofs.StreamLaws.{length-cds_blocks}
use Rattle.aec_interval.proofs.PlaceLemmas.{block_count-positive}
use Rattle.aec_interval.proofs.ReachedLemmas.{length-stream_blocks}
use Rattle.aec_interval.proofs.ReadNextLemmas.{same_place}

module _ (s : Settings) (a : IsAllowed s) (count : Option ℕ) (limit other : ℕ) (bits : List Bool) (f : ℕ) (begins : f % s.interval ≡ 0) where
  same-at : (i : ℕ) → (f + i) % s.interval ≡ i % s.interval
  same-at i = sym (same_place s f (f + i) i (interval-positive s a) begins (omega arith) (omega arith))

  begin-at : (i b : ℕ) → begin_of s bits (f + i) b ≡ begin_of s bits i b
  begin-at i b = rw same-at

  next-at : (i : ℕ) (c : CodedDataSet) → next_block s (f + i) c ≡ f + next_block s i c
  next-at i c = rw same-at (omega arith)

  pub blocks-at : (i : ℕ) (sets : List CodedDataSet) → stream_blocks s (f + i) sets ≡ stream_blocks s i sets
  blocks-at i [] = refl
  blocks-at i (c ∷ sets) = cc (same-at i, next-at i c, blocks-at (next_block s i c) sets)

  -- such a way, with a count whose blocks end where the way ends
  pub leads-at : (i b : ℕ) (sets : List CodedDataSet) (j e m : ℕ) → LeadsTo s count limit bits (f + i) b sets j e → j ≤ f + div_ceil m s.block_size
      → (k : ℕ) × (j ≡ f + k) × LeadsTo s (Some m) other bits i b sets k e
  leads-at i b [] j e m leads within = (i, leads.0, (refl, leads.1))
  leads-at i b (c ∷ sets) j e m leads within =
      let later = leads-at (next_block s i c) (next_begin s bits i b c) sets j e m (rw (← bit-is, ← next-at) leads.4) within in (
        later.0,
        later.1,
        (
          lt-ltb i (div_ceil m s.block_size) needed,
          leads.1,
          rw same-at at leads.2,
          refl,
          later.2,
        ),
      )
    where
      needed : i < div_ceil m s.block_size
      needed = grind (arith, length-stream_blocks, interval-positive, length-append, length-cds_blocks, block_count-positive)

      bit-is : next_begin s bits (f + i) b c ≡ next_begin s bits i b c
      bit-is = rw (next-at, begin-at)
