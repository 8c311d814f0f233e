-- Bits always have a reading or a fault: the walk goes on until no coded data set is wanted or
-- something is wrong.
use Rattle.std.proofs.Common.{◌≡◌, ℕ, zero, suc, ◌+◌, ◌%◌, ◌<◌, ◌≤◌, Bool, true, false, Option, List, [], ◌∷◌, ◌++◌, length, drop, refl, arith, inl, inr, ◌⊎◌, ⊎_elim}
use Rattle.std.proofs.lemmas.List.{length-append, length-drop, drop_at, drop-drop}
use Rattle.std.proofs.lemmas.Bool.{cases_Bool}
use Rattle.aec_params.specs.declared.settings.Settings.{Settings}
use Rattle.aec_params.specs.declared.fault.Fault.{Fault}
use Rattle.aec_params.specs.declared.fault.Fault.TheVariants.{Truncated, ValueTooLarge, RunTooLong, TooManySamples}
use Rattle.aec_params.specs.Params.{IsAllowed}
use Rattle.aec_params.specs.Blocks.{Block}
use Rattle.aec_params.specs.CodedDataSets.{Body, uncompressed_values, value_pairs, split_values, zero_blocks, CodedDataSet, cds_bits, identifier, reference_bits, body_bits, has_small_values}
use Rattle.aec_params.specs.Places.{stays_in_segment, is_reference_block, IsLawfulAt}
use Rattle.aec_params.specs.Reading.{StandsAt, begin_of, next_block, next_begin, is_wanted, keeps_limit, stream_blocks, kept_blocks, IsBlockReading}
use Rattle.aec_params.specs.Faults.{IsSetAt, IsWrongAt, not_read, cut_short, too_large, too_long, too_many, IsFault}
use Rattle.aec_params.proofs.CodewordLaws.{length-binary}
use Rattle.aec_block.specs.ReadAt.{nothing, taken, cds_at}
use Rattle.aec_block.proofs.CodewordLemmas.{cases_taken}
use Rattle.aec_block.proofs.SetLemmas.{id_len-positive, what_is_read_is_spelled, nothing_is_read_where_none_begins}

-- ---- a coded data set has at least one bit, so the walk moves forward

identifier-positive : (s : Settings) (body : Body) → 0 < length (identifier s body)
identifier-positive s (uncompressed_values values) = omega (arith, length-binary, id_len-positive)
identifier-positive s (value_pairs values) = omega (arith, length-binary)
identifier-positive s (split_values k values) = omega (arith, length-binary, id_len-positive)
identifier-positive s (zero_blocks m) = omega (arith, length-binary)

pub length-cds_bits-positive : (s : Settings) (c : CodedDataSet) → 0 < length (cds_bits s c)
length-cds_bits-positive s c =
    omega (arith, length-append (identifier s c.body) (reference_bits s c.reference ++ body_bits s c.body), identifier-positive s c.body)

-- a coded data set that is at a position ends within the bits
pub stands-within : (s : Settings) (bits : List Bool) (b : ℕ) (c : CodedDataSet) → StandsAt s bits b c → b + length (cds_bits s c) ≤ length bits
stands-within s bits b c h =
    grind (
      arith,
      length-append (cds_bits s c) (drop (b + length (cds_bits s c)) bits),
      length-drop b bits,
      length-drop (b + length (cds_bits s c)) bits,
      length-cds_bits-positive s c,
    )

begin_of-ahead : (s : Settings) (bits : List Bool) (i b : ℕ) → b ≤ length bits → b ≤ begin_of s bits i b
begin_of-ahead s bits i b h = grind arith

pub next_begin-ahead : (s : Settings) (bits : List Bool) (i b : ℕ) (c : CodedDataSet) → StandsAt s bits b c
    → (b < next_begin s bits i b c) × (b < length bits)
next_begin-ahead s bits i b c h = grind (arith, stands-within, length-cds_bits-positive, begin_of-ahead)

-- ---- whether a coded data set begins at a place

pub set_or_none : (s : Settings) (t : Bool) (bits : List Bool) (b : ℕ) → IsAllowed s
    → ((c : CodedDataSet) × IsSetAt s t bits b c) ⊎ ((c : CodedDataSet) → IsSetAt s t bits b c → ⊥)
set_or_none s t bits b a = ⊎_elim none (λ r. some r.0 r.1.0 r.1.1) (cases_taken (cds_at s t (drop b bits)))
  where
    Answer : Type 0
    Answer = ((c : CodedDataSet) × IsSetAt s t bits b c) ⊎ ((c : CodedDataSet) → IsSetAt s t bits b c → ⊥)

    none : cds_at s t (drop b bits) ≡ nothing → Answer
    none e = inr (λ c h. (nothing_is_read_where_none_begins s a t (drop b bits)).0 e c
        (drop (b + length (cds_bits s c)) bits) h.shape h.stands)

    some : (c : CodedDataSet) (rest : List Bool) → cds_at s t (drop b bits) ≡ taken c rest → Answer
    some c rest e =
        let h = what_is_read_is_spelled s a t (drop b bits) c rest e in
        let behind : drop (b + length (cds_bits s c)) bits ≡ rest = rw (← drop-drop, h.1, drop_at) in
        inl (c, record { shape = h.0; stands = rw (h.1, behind) })

-- ---- the walk

module _ (s : Settings) (a : IsAllowed s) (count : Option ℕ) (limit : ℕ) (bits : List Bool) where
  -- the bits from block i at position b on have a reading or a fault
  abbrev pub Outcome : ℕ → ℕ → Type 0
  Outcome i b = ((blocks : List Block) × IsBlockReading s count limit bits i b blocks) ⊎ ((fault : Fault) × IsFault s count limit bits i b fault)

  finished : (i b : ℕ) → is_wanted s count bits i b ≡ false → Outcome i b
  finished i b e = inl (kept_blocks s count i [], record { sets = []; end_block = i; end_bit = b; leads = (refl, refl); done = e; kept = refl })

  failed : (i b : ℕ) (fault : Fault) → is_wanted s count bits i b ≡ true → IsWrongAt s count limit bits i b fault → Outcome i b
  failed i b fault e w = inr (fault, record { sets = []; block = i; bit = b; leads = (refl, refl); wanted = e; wrong = w })

  -- the outcome before a lawful coded data set within the limit, from the outcome after it
  before : (i b : ℕ) (c : CodedDataSet) → is_wanted s count bits i b ≡ true → StandsAt s bits b c → IsLawfulAt s (i % s.interval) c
      → keeps_limit s count limit (next_block s i c) ≡ true → Outcome (next_block s i c) (next_begin s bits i b c) → Outcome i b
  before i b c e x l k (inl r) =
      let h = r.1 in
      inl (
        kept_blocks s count i (stream_blocks s i (c ∷ h.sets)),
        record { sets = c ∷ h.sets; end_block = h.end_block; end_bit = h.end_bit; leads = (e, x, l, k, h.leads); done = h.done; kept = refl },
      )
  before i b c e x l k (inr r) =
      let h = r.1 in
      inr (r.0, record { sets = c ∷ h.sets; block = h.block; bit = h.bit; leads = (e, x, l, k, h.leads); wanted = h.wanted; wrong = h.wrong })

  -- the outcome before any coded data set, from the outcome after it
  judged : (i b : ℕ) (c : CodedDataSet) → is_wanted s count bits i b ≡ true → IsSetAt s (is_reference_block s (i % s.interval)) bits b c
      → Outcome (next_block s i c) (next_begin s bits i b c) → Outcome i b
  judged i b c e h later =
      ⊎_elim (λ small. ⊎_elim (λ within. ⊎_elim
      (λ kept. before i b c e h.stands (record { shape = h.shape; small = small; within = within }) kept later)
      (λ past. failed i b (TooManySamples limit) e (too_many c h (record { shape = h.shape; small = small; within = within }) past))
      (cases_Bool (keeps_limit s count limit (next_block s i c))))
      (λ long. failed i b (RunTooLong b) e (too_long c h small long))
      (cases_Bool (stays_in_segment s (i % s.interval) c)))
      (λ large. failed i b (ValueTooLarge b) e (not_read _ (too_large c h large)))
      (cases_Bool (has_small_values s c))

  -- the outcome at a place, from the outcome after each coded data set that is there
  step : (i b : ℕ) → ((c : CodedDataSet) → IsSetAt s (is_reference_block s (i % s.interval)) bits b c
      → Outcome (next_block s i c) (next_begin s bits i b c)) → Outcome i b
  step i b later = ⊎_elim wanted (finished i b) (cases_Bool (is_wanted s count bits i b))
    where
      wanted : is_wanted s count bits i b ≡ true → Outcome i b
      wanted e = ⊎_elim (λ h. judged i b h.0 e h.1 (later h.0 h.1)) (λ none. failed i b (Truncated b) e (not_read _ (cut_short none)))
          (set_or_none s (is_reference_block s (i % s.interval)) bits b a)

  outcome_within : (fuel i b : ℕ) → length bits < b + fuel → Outcome i b
  outcome_within zero i b h = step i b (λ c at. absurd (omega (arith, next_begin-ahead s bits i b c at.stands)))
  outcome_within (suc fuel) i b h =
      step i b (λ c at. outcome_within fuel (next_block s i c) (next_begin s bits i b c) (omega (arith, next_begin-ahead)))

  -- each place has a reading or a fault
  pub outcome : (i b : ℕ) → Outcome i b
  outcome i b = outcome_within (suc (length bits)) i b (omega arith)
