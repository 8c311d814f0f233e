-- For proofs alone: no public contract cites this file.
-- Overwrites that can be applied before the samples after them are loaded.
use Rattle.std.specs.Prelude.{ℕ, ◌+◌, ◌≤◌, length}
use Rattle.aec_params.specs.declared.edit.Edit.{Edit}
use Rattle.aec_params.specs.declared.edit.Edit.TheVariants.{Overwrite, Append, Truncate, Insert, Remove}

-- an edit that only overwrites places among the first `count`
abbrev pub IsInside : ℕ → Edit → Type 0
IsInside count (Overwrite first values) = first + length values ≤ count
IsInside count (Append values) = ⊥
IsInside count (Truncate kept) = ⊥
IsInside count (Insert first values) = ⊥
IsInside count (Remove first len) = ⊥
