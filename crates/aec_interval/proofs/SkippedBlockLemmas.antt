-- Blocks that are skipped one after the other, of which none needs a test of its place, in one
-- interval or in several.
use Rattle.std.proofs.Common.{◌≡◌, ℕ, ◌+◌, ◌-◌, ◌*◌, ◌/◌, ◌%◌, ◌<◌, ◌≤◌, Bool, true, false, Option, IfSome, unwrap_or, refl, sym, ◌∙◌, arith}
use Rattle.std.proofs.Math.Nat.{mod-lt, mod-eq_of_lt, mul-mod_left, mod-add-mod, le-mul_of_pos_right}
use Rattle.aec_params.specs.declared.settings.Settings.{Settings}
use Rattle.aec_params.specs.Params.{IsAllowed}
use Rattle.aec_params.specs.CodedDataSets.{CodedDataSet}
use Rattle.aec_params.specs.Places.{is_reference_block}
use Rattle.aec_params.proofs.SettingLaws.{block_size-positive, interval-positive}
use Rattle.aec_params.specs.Limits.{most_blocks, most_samples}
use Rattle.aec_bits.specs.BitReader.{Cursor, has_one}
use Rattle.aec_block.specs.declared.cds.RunLen.TheVariants.{Blocks}
use Rattle.aec_block.specs.Gathering.{bits_at}
use Rattle.aec_block.specs.SkipCds.{IsSkippedAs}
use Rattle.aec_interval.specs.Skipping.{IsLedTo}
use Rattle.aec_interval.specs.Steps.{IsUntestedEnd, SkipsBlocks}
use Rattle.aec_interval.proofs.UntestedLemmas.{AreUntested, few_samples, untested-within, wanted_here, untested-placed, untested-begins, one_fits}
use Rattle.aec_interval.proofs.WantedSetLemmas.{led-next}

-- ---- places in intervals

-- the place after n more blocks depends on the place alone
place-more : (r i p n : ℕ) → i % r ≡ p → (i + n) % r ≡ (p + n) % r
place-more r i p n is = rw (← mod-add-mod, is)

pub place-begun : (r p : ℕ) → p < r → p ≡ (p + 0) % r
place-begun r p within = let same : p ≡ p + 0 = omega arith in cc (mod-eq_of_lt within)

pub place-next : (r p n at next : ℕ) → at ≡ (p + n) % r → next ≡ (at + 1) % r → next ≡ (p + (n + 1)) % r
place-next r p n at next is next_is =
    let same : p + n + 1 ≡ p + (n + 1) = omega arith in
    rw (next_is, is, mod-add-mod, same)

-- ---- blocks

pub skips_none : (s : Settings) (place most : ℕ) (cursor : Cursor) → SkipsBlocks s place most cursor 0 cursor
skips_none s place most cursor = record {
  list = refl;
  within = omega arith;
  stays = λ _. refl;
  leads = λ count limit first start i there low counted within led.
      let same : i ≡ i + 0 = omega arith in rw same at led;
}

-- one more block is skipped
module _ (s : Settings) (place most n at : ℕ) (old mid new : Cursor) (allowed : IsAllowed s) (unpadded : s.pad ≡ false)
    (before : SkipsBlocks s place most old n mid) (at_is : at ≡ (place + n) % s.interval) (one : has_one (bits_at mid) ≡ true)
    (due : Bool) (due_is : due ≡ is_reference_block s at) (found : (c : CodedDataSet) × IsSkippedAs s due mid new c (Blocks 1))
    (same : new.list ≡ mid.list) where
  module _ (count : Option ℕ) (limit first start i : ℕ) (there : i % s.interval ≡ place) (low : limit ≤ most_samples)
      (counted : IfSome count (λ m. m ≤ most_samples)) (within : (i + (n + 1)) * s.block_size ≤ unwrap_or count limit)
      (led : IsLedTo s count limit old.list first start i old.pos) where
    abbrev pub j : ℕ
    j = i + n

    place_is : at ≡ j % s.interval
    place_is = at_is ∙ sym (place-more s.interval i place n there)

    -- where the interval of block j begins
    abbrev pub begin : ℕ
    begin = j - j % s.interval

    whole : begin ≡ j / s.interval * s.interval
    whole = omega arith

    aligned : begin % s.interval ≡ 0
    aligned = rw (whole, mul-mod_left)

    inside : j + 1 ≤ begin + s.interval
    inside = omega (arith, mod-lt j (interval-positive s allowed))

    fewer : j * s.block_size ≤ unwrap_or count limit
    fewer = grind arith

    ends : IsUntestedEnd s count limit begin (j + 1)
    ends = untested-within s count limit begin (begin + s.interval) 0 (j + 1) allowed low counted refl (rw unpadded)
        (omega (arith, inside)) (rw next at within)
      where
        next : i + (n + 1) ≡ j + 1
        next = omega arith

    mid_led : IsLedTo s count limit mid.list first start j mid.pos
    mid_led = rw before.list (before.leads count limit first start i there low counted (λ _. fewer) led)

    past : begin ≤ j
    past = omega arith

    pub led_further : IsLedTo s count limit old.list first start (i + (n + 1)) new.pos
    led_further =
        let are : AreUntested s count limit begin (j + 1) j 1 mid =
        record { allowed = allowed; aligned = aligned; after = past; ends = ends; some = omega arith; within = omega arith; one = one } in
        let wanted = wanted_here are in
        let placed = untested-placed are (one_fits s j allowed) in
        let next : j + 1 ≡ i + (n + 1) = omega arith in
        rw next at (led-next mid new allowed mid_led wanted (rw (due_is, place_is)) found 0 (j + 1) placed old.list new.pos (sym (same ∙ before.list))
        (untested-begins are new.list new.pos))

  pub skips_more : n + 1 ≤ most → SkipsBlocks s place most old (n + 1) new
  skips_more few = record {
    list = same ∙ before.list;
    within = few;
    stays = λ none. absurd (omega arith);
    leads = λ count limit first start i there low counted within led. led_further count limit first start i there low counted (within (omega arith)) led;
  }

-- ---- how many blocks need no test

-- n of u blocks that need no test, from block i on
pub fewer_samples : (s : Settings) (count : Option ℕ) (limit i n u : ℕ) → n ≤ u → (0 < u → (i + u) * s.block_size ≤ unwrap_or count limit)
    → 0 < n → (i + n) * s.block_size ≤ unwrap_or count limit
fewer_samples s count limit i n u few within some = grind arith

pub fewer_blocks : (s : Settings) (count : Option ℕ) (limit i n u : ℕ) → IsAllowed s → i < most_blocks → limit ≤ most_samples
    → IfSome count (λ m. m ≤ most_samples) → n ≤ u → (0 < u → (i + u) * s.block_size ≤ unwrap_or count limit) → i + n < most_blocks
fewer_blocks s count limit i n u allowed low_block low counted few within =
    grind (arith, fewer_samples, few_samples, le-mul_of_pos_right, block_size-positive)
