-- The coded data sets that are weighed for one block by itself, and the shortest of them.
use Rattle.std.specs.Prelude.{ℕ, Bool, nat_lt, Option, Some, None, List, ◌∷◌, length, map, drop}
use Rattle.std.specs.List.{range_with_len, best_of}
use Rattle.aec_params.specs.declared.settings.Settings.{Settings}
use Rattle.aec_params.specs.Params.{split_count}
use Rattle.aec_params.specs.Blocks.{Block}
use Rattle.aec_params.specs.CodedDataSets.{CodedDataSet, uncompressed_values, value_pairs, split_values, cds_bits}

-- the values that are written one by one: those after the reference place, if there is one (§7)
abbrev pub after_reference : Option ℕ → List ℕ → List ℕ
after_reference None values = values
after_reference (Some r) values = drop 1 values

-- the values of a block that are written one by one (§7)
abbrev pub written_values : Block → List ℕ
written_values b = after_reference b.reference b.values

-- the block by no compression (§7; a coded data set, where the program has an option and a length)
abbrev pub uncompressed : Block → CodedDataSet
uncompressed b = record { reference = b.reference; body = uncompressed_values (written_values b) }

-- the block by the second extension, whose pairs have the reference place too (§7; a coded data
-- set, where the program has an option and a length)
abbrev pub paired : Block → CodedDataSet
paired b = record { reference = b.reference; body = value_pairs b.values }

-- the block by splitting with k (§7; a coded data set, where the program has an option and a
-- length)
abbrev pub split : Block → ℕ → CodedDataSet
split b k = record { reference = b.reference; body = split_values k (written_values b) }

-- the compressed spellings, in the order in which the first of the shortest is taken (§9; k = 0, k
-- = 1 and so on after the second extension)
abbrev pub compressed_spellings : Settings → Block → List CodedDataSet
compressed_spellings s b = paired b ∷ map (split b) (range_with_len 0 (split_count s))

-- all options in that order, no compression first (§9)
abbrev pub spellings : Settings → Block → List CodedDataSet
spellings s b = uncompressed b ∷ compressed_spellings s b

-- whether one coded data set has fewer bits than another (§9; compares lists of bits, where the
-- code compares sums)
abbrev pub is_shorter : Settings → CodedDataSet → CodedDataSet → Bool
is_shorter s c d = nat_lt (length (cds_bits s c)) (length (cds_bits s d))

-- the first of the shortest spellings (§9; writes every candidate out and takes the first best,
-- while the code compares lengths and writes one)
abbrev pub shortest_spelling : Settings → Block → CodedDataSet
shortest_spelling s b = best_of (is_shorter s) (uncompressed b) (compressed_spellings s b)
