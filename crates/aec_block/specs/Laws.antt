-- The laws of coded data sets: in allowed settings their bits and their place determine them.
use Rattle.std.specs.Prelude.{◌≡◌, ℕ, ◌≤◌, Bool, ◌↔◌, Option, Some, None, List, ◌++◌, length}
use Rattle.aec_params.specs.declared.settings.Settings.{Settings}
use Rattle.aec_params.specs.Params.{IsAllowed}
use Rattle.aec_params.specs.Blocks.{Block}
use Rattle.aec_params.specs.CodedDataSets.{Body, uncompressed_values, value_pairs, split_values, zero_blocks, CodedDataSet, cds_bits, HasShape}
use Rattle.aec_params.specs.Places.{block_of_values, block_of_members}
use Rattle.aec_params.specs.Spellings.{shortest_spelling}
use Rattle.aec_params.specs.Faults.{IsSetAt}
use Rattle.aec_block.specs.ReadAt.{nothing, taken, cds_at}

-- a coded data set is read back from its bits, whatever follows them
abbrev pub WhatIsSpelledIsRead : Type 0
WhatIsSpelledIsRead = (s : Settings) → IsAllowed s → (is_reference : Bool) (c : CodedDataSet) (rest : List Bool)
    → HasShape s is_reference c
    → cds_at s is_reference (cds_bits s c ++ rest) ≡ taken c rest

-- what is read has the shape of a coded data set, and its bits are those that were taken
abbrev pub WhatIsReadIsSpelled : Type 0
WhatIsReadIsSpelled = (s : Settings) → IsAllowed s
    → (is_reference : Bool) (bits : List Bool) (c : CodedDataSet) (rest : List Bool)
    → cds_at s is_reference bits ≡ taken c rest → HasShape s is_reference c × (bits ≡ cds_bits s c ++ rest)

-- reading takes nothing exactly if no coded data set begins the bits
abbrev pub NothingIsReadWhereNoneBegins : Type 0
NothingIsReadWhereNoneBegins = (s : Settings) → IsAllowed s → (is_reference : Bool) (bits : List Bool)
    → (cds_at s is_reference bits ≡ nothing)
    ↔ ((c : CodedDataSet) (rest : List Bool) → HasShape s is_reference c → bits ≡ cds_bits s c ++ rest → ⊥)

-- no coded data set is a prefix of another, where both are of reference blocks or neither is
abbrev pub NoSetIsAPrefix : Type 0
NoSetIsAPrefix = (s : Settings) → IsAllowed s → (is_reference : Bool) (c d : CodedDataSet) (x y : List Bool)
    → HasShape s is_reference c → HasShape s is_reference d → cds_bits s c ++ x ≡ cds_bits s d ++ y → (c ≡ d) × (x ≡ y)

-- at most one coded data set of a reference block, and at most one of another, begins at a position
abbrev pub OneSetStands : Type 0
OneSetStands = (s : Settings) → IsAllowed s → (is_reference : Bool) (bits : List Bool) (b : ℕ) (c d : CodedDataSet)
    → IsSetAt s is_reference bits b c → IsSetAt s is_reference bits b d → c ≡ d

-- the block that a coded data set of a single option decodes to: for pairs in a reference block,
-- whatever the first member is; none for a run of zero blocks
abbrev pub single_block_of : Option ℕ → Body → Option Block
single_block_of reference (uncompressed_values values) = Some (block_of_values reference values)
single_block_of reference (value_pairs members) = Some (block_of_members reference members)
single_block_of reference (split_values k values) = Some (block_of_values reference values)
single_block_of reference (zero_blocks m) = None

-- no coded data set that decodes to a block by a single option has fewer bits than the block's
-- shortest spelling
abbrev pub NoOptionIsShorter : Type 0
NoOptionIsShorter = (s : Settings) → IsAllowed s → (is_reference : Bool) (c : CodedDataSet) (b : Block)
    → HasShape s is_reference c
    → single_block_of c.reference c.body ≡ Some b → length (cds_bits s (shortest_spelling s b)) ≤ length (cds_bits s c)
