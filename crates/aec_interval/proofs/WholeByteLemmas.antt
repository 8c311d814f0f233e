-- With padding, a way through full intervals ends at a whole byte, or where the bits end.
use Rattle.std.proofs.Common.{◌≡◌, ℕ, ◌*◌, ◌/◌, ◌%◌, Bool, true, Option, List, [], ◌∷◌, length, arith, ◌⊎◌}
use Rattle.aec_params.specs.declared.settings.Settings.{Settings}
use Rattle.aec_params.specs.CodedDataSets.{CodedDataSet}
use Rattle.aec_params.specs.Reading.{next_block, next_begin, LeadsTo}

-- after a full interval the next one begins at a whole byte, or where the bits end
pub led-whole : (s : Settings) (count : Option ℕ) (limit : ℕ) (bits : List Bool) (i b : ℕ) (sets : List CodedDataSet) (j e : ℕ) → s.pad ≡ true
    → (i % s.interval ≡ 0 → (8 * (b / 8) ≡ b) ⊎ (b ≡ length bits)) → LeadsTo s count limit bits i b sets j e → j % s.interval ≡ 0
    → (8 * (e / 8) ≡ e) ⊎ (e ≡ length bits)
led-whole s count limit bits i b [] j e pad from leads begins = rw leads.1 (from (rw (← leads.0) begins))
led-whole s count limit bits i b (c ∷ sets) j e pad from leads begins =
    led-whole s count limit bits (next_block s i c) (next_begin s bits i b c) sets j e pad here leads.4 begins
  where
    here : next_block s i c % s.interval ≡ 0 → (8 * (next_begin s bits i b c / 8) ≡ next_begin s bits i b c) ⊎ (next_begin s bits i b c ≡ length bits)
    here first = grind arith
