-- The settings of the worked examples.
use Rattle.std.proofs.Common.{ℕ, true, false}
use Rattle.aec_params.specs.declared.settings.Settings.{Settings}
use Rattle.aec_params.specs.Params.{usual_settings}

-- 8 bits, blocks of 8, intervals of 2 blocks, unsigned, with preprocessing
abbrev pub usual : Settings
usual = usual_settings

abbrev pub with_interval : ℕ → Settings
with_interval r = record usual { interval = r }

-- blocks of 10, intervals of r blocks
abbrev pub tens : ℕ → Settings
tens r = record usual { block_size = 10; interval = r; even_blocks = true }

abbrev pub unprocessed : Settings
unprocessed = record usual { preprocess = false }

abbrev pub padded : Settings
padded = record usual { pad = true }

abbrev pub restricted_two : Settings
restricted_two = record usual { bits = 2; interval = 1; restricted = true }

abbrev pub twelve_bits : Settings
twelve_bits = record usual { bits = 12 }

abbrev pub five_signed : Settings
five_signed = record usual { bits = 5; signed = true }

abbrev pub twenty_bits : Settings
twenty_bits = record usual { bits = 20 }
