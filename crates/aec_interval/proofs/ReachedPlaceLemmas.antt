-- Places that a reader reaches: coded data sets lead there from the first bit on.
use Rattle.std.proofs.Common.{◌≡◌, ℕ, ◌+◌, ◌%◌, ◌<◌, ◌≤◌, Bool, true, Option, List, [], ◌∷◌, ◌++◌, length, drop, arith}
use Rattle.std.proofs.lemmas.List.{length-append, length-drop}
use Rattle.aec_params.specs.declared.settings.Settings.{Settings}
use Rattle.aec_params.specs.CodedDataSets.{CodedDataSet, cds_bits}
use Rattle.aec_params.specs.Reading.{is_wanted, StandsAt, LeadsTo, begin_of, next_block, next_begin}
use Rattle.aec_params.specs.Limits.{most_blocks}
use Rattle.aec_interval.specs.Pieces.{place_at, IsPlace}
use Rattle.aec_interval.proofs.PlaceLemmas.{LeadsTo-append}

-- ---- within the bits

StandsAt-within : (s : Settings) (bits : List Bool) (b : ℕ) (c : CodedDataSet) → b ≤ length bits → StandsAt s bits b c → b + length (cds_bits s c) ≤ length bits
StandsAt-within s bits b c within stands =
    grind (arith, length-drop b bits, length-append (cds_bits s c) (drop (b + length (cds_bits s c)) bits), length-drop (b + length (cds_bits s c)) bits)

begin_of-within : (s : Settings) (bits : List Bool) (i b : ℕ) → b ≤ length bits → begin_of s bits i b ≤ length bits
begin_of-within s bits i b within = grind arith

pub LeadsTo-within : (s : Settings) (count : Option ℕ) (limit : ℕ) (bits : List Bool) (i b : ℕ) (sets : List CodedDataSet) (j e : ℕ) → b ≤ length bits
    → LeadsTo s count limit bits i b sets j e → e ≤ length bits
LeadsTo-within s count limit bits i b [] j e within leads = omega arith
LeadsTo-within s count limit bits i b (c ∷ sets) j e within leads =
    LeadsTo-within s count limit bits (next_block s i c) (next_begin s bits i b c) sets j e
    (begin_of-within s bits (next_block s i c) (b + length (cds_bits s c)) (StandsAt-within s bits b c within leads.1)) leads.4

pub place-within : (s : Settings) (count : Option ℕ) (limit : ℕ) (bits : List Bool) (i b : ℕ) → IsPlace (place_at s count limit bits i b) → b ≤ length bits
place-within s count limit bits i b is = LeadsTo-within s count limit bits 0 0 is.sets i b (omega arith) is.leads

-- ---- a step further

pub place-further : (s : Settings) (count : Option ℕ) (limit : ℕ) (list bits : List Bool) (first bit start i b : ℕ) (sets : List CodedDataSet)
    → IsPlace (place_at s count limit list first bit) → start ≡ bit → bits ≡ list → LeadsTo s count limit bits first start sets i b
    → i < most_blocks → (is_wanted s count bits i b ≡ true → i % s.interval ≡ 0) → IsPlace (place_at s count limit bits i b)
place-further s count limit list bits first bit start i b sets is begins same leads few ends = record {
  few = few;
  limit = is.limit;
  counted = is.counted;
  begins = ends;
  sets = is.sets ++ sets;
  leads = LeadsTo-append s count limit bits 0 0 is.sets first start sets i b (rw (same, begins) is.leads) leads;
}
