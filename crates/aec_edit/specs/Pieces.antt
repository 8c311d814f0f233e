-- For proofs alone: no public contract cites this file.
-- Lists of places, kept as pieces. The contract of `apply_all` cites the samples that edits leave
-- instead.
use Rattle.std.specs.Prelude.{◌≡◌, ℕ, ◌-◌, List, [], ◌∷◌, ◌++◌, length}
use Rattle.std.specs.List.{range_with_len}
use Rattle.aec_edit.specs.declared.pieces.Piece.{Piece}
use Rattle.aec_edit.specs.declared.pieces.Pieces.{Pieces}

-- how many places a piece has
abbrev pub piece_len : Piece → ℕ
piece_len piece = piece.stop - piece.first

-- the places of a piece
abbrev pub piece_places : Piece → List ℕ
piece_places piece = range_with_len piece.first (piece_len piece)

-- the places of pieces, the first piece first
abbrev pub places_of : List Piece → List ℕ
places_of [] = []
places_of (piece ∷ pieces) = piece_places piece ++ places_of pieces

-- the places of pieces, the last piece first
abbrev pub places_after : List Piece → List ℕ
places_after [] = []
places_after (piece ∷ pieces) = places_after pieces ++ piece_places piece

-- all places of a list that is cut in two
abbrev pub all_places : Pieces → List ℕ
all_places pieces = places_of pieces.before.items ++ places_after pieces.after.items

-- the number of places before the cut is as stated
abbrev pub IsCut : Pieces → Type 0
IsCut pieces = pieces.at ≡ length (places_of pieces.before.items)

-- the next piece was taken out, or a first part of it
abbrev pub IsTaken : Piece → List Piece → List Piece → Type 0
IsTaken piece old new = places_after old ≡ piece_places piece ++ places_after new
