-- A reading that goes interval by interval: where it is, what one step reads, and what the steps
-- were so far.
use Rattle.std.specs.Prelude.{◌≡◌, ℕ, ◌+◌, ◌-◌, ◌*◌, ◌%◌, ◌<◌, ◌≤◌, Bool, true, Option, Some, None, IfSome, ℤ, List, length, take}
use Rattle.aec_params.specs.declared.settings.Settings.{Settings}
use Rattle.aec_params.specs.declared.fault.Fault.{Fault}
use Rattle.aec_params.specs.Params.{interval_len}
use Rattle.aec_params.specs.CodedDataSets.{CodedDataSet}
use Rattle.aec_params.specs.Reading.{is_wanted, LeadsTo, stream_blocks, kept_blocks, FillBlocks}
use Rattle.aec_params.specs.Limits.{most_blocks, most_samples}
use Rattle.aec_interval.specs.Reached.{RefusesUpTo}

-- what is read and under which terms, the block that comes next, and the bit where its coded data
-- set begins (numbers and lists, where the code has a `BitReader` and a block number)
pub record Place : Type 0 where
  pub settings : Settings
  pub count : Option ℕ
  pub limit : ℕ
  pub bits : List Bool
  pub block : ℕ
  pub bit : ℕ

-- the place with these terms and bits, this next block and this bit
abbrev pub place_at : Settings → Option ℕ → ℕ → List Bool → ℕ → ℕ → Place
place_at s count limit bits i b = record { settings = s; count = count; limit = limit; bits = bits; block = i; bit = b }

-- whether a coded data set is wanted there
abbrev pub is_wanted_at : Place → Bool
is_wanted_at p = is_wanted p.settings p.count p.bits p.block p.bit

-- the samples from block i on that are asked for: with a count those up to it, without one all
abbrev pub counted_from : Settings → Option ℕ → ℕ → List ℤ → List ℤ
counted_from s (Some count) i samples = take (count - i * s.block_size) samples
counted_from s None i samples = samples

-- from one place coded data sets lead to another, and these samples are those of their blocks that
-- are asked for
pub record ReadsPiece (p : Place) (samples : List ℤ) (q : Place) : Type 0 where
  pub sets : List CodedDataSet
  pub leads : LeadsTo p.settings p.count p.limit p.bits p.block p.bit sets q.block q.bit
  pub all_samples : List ℤ
  pub filled : FillBlocks p.settings all_samples
      (kept_blocks p.settings p.count p.block (stream_blocks p.settings p.block sets))
  pub counted : samples ≡ counted_from p.settings p.count p.block all_samples
  pub same : q ≡ place_at p.settings p.count p.limit p.bits q.block q.bit

-- one step: more is wanted where an interval begins, and its samples are read, to its end if more
-- is wanted after them
pub record ReadsInterval (p : Place) (samples : List ℤ) (q : Place) : Type 0 where
  pub wanted : is_wanted_at p ≡ true
  pub begins : p.block % p.settings.interval ≡ 0
  pub piece : ReadsPiece p samples q
  pub few : length samples ≤ interval_len p.settings
  pub ahead : p.block < q.block
  pub within : q.block ≤ p.block + p.settings.interval
  pub to_end : is_wanted_at q ≡ true → q.block ≡ p.block + p.settings.interval

-- more is wanted where an interval begins, and samples are read from there up to a place further
-- on, maybe within an interval
pub record ReadsIntervals (p : Place) (samples : List ℤ) (q : Place) : Type 0 where
  pub wanted : is_wanted_at p ≡ true
  pub begins : p.block % p.settings.interval ≡ 0
  pub piece : ReadsPiece p samples q
  pub ahead : p.block < q.block

-- the samples that were read from the first bit up to a place (as one piece)
abbrev pub HasRead : Place → List ℤ → Type 0
HasRead p samples = ReadsPiece (place_at p.settings p.count p.limit p.bits 0 0) samples p

-- why the interval that begins at a place is not read: a fault in it, or a lack of memory for its
-- samples
abbrev pub RefusesAt : Place → Fault → Type 0
RefusesAt p fault = RefusesUpTo p.settings p.count p.limit p.bits p.block p.bit (p.block + p.settings.interval) fault

-- a place between two steps, or where all is read: coded data sets lead there from the first bit
-- on, and where more is wanted an interval begins. Fewer than `most_blocks` blocks were read
-- (`place` proves it of each place of a reader, `seek` requires it)
pub record IsPlace (p : Place) : Type 0 where
  pub few : p.block < most_blocks
  pub limit : p.limit ≤ most_samples
  pub counted : IfSome p.count (λ count. count ≤ most_samples)
  pub begins : is_wanted_at p ≡ true → p.block % p.settings.interval ≡ 0
  pub sets : List CodedDataSet
  pub leads : LeadsTo p.settings p.count p.limit p.bits 0 0 sets p.block p.bit
