-- How a workspace is kept: the code of its samples, the places where the intervals begin in it, and
-- the number of samples. The contract of `apply` cites `samples_after`, `needed_calls` and
-- `opened_intervals` instead.
use Rattle.std.specs.Prelude.{◌≡◌, ℕ, ◌+◌, Bool, List, [], ◌∷◌, length, ℤ}
use Rattle.aec_params.specs.Cutting.{pieces_of}
use Rattle.std.proofs.Common.{sym, ◌∙◌}
use Rattle.std.proofs.Props.{props}
use mathlib.Core.HLevel.{Σ_prop_path}
use Rattle.aec_bits.specs.Codec.{Format, AreHeld, IsLawful, code_of}
use Rattle.aec_bits.proofs.CodeLaws.{same_samples}

-- where pieces begin that are coded one after the other, the first at a place
abbrev pub piece_starts : (List ℤ → List Bool) → ℕ → List (List ℤ) → List ℕ
piece_starts bits_of place [] = []
piece_starts bits_of place (piece ∷ pieces) = place ∷ piece_starts bits_of (place + length (bits_of piece)) pieces

-- where the intervals of samples begin if the first is coded at a place
abbrev pub starts_of : Format → ℕ → List ℤ → List ℕ
starts_of f place s = piece_starts f.bits_of place (pieces_of f.most s)

-- these bits, starts and this count are how the samples s are kept
pub record IsKeptCode (f : Format) (count : ℕ) (bits : List Bool) (starts : List ℕ) (s : List ℤ) : Type 0 where
  pub held : AreHeld f s
  pub count_is : length s ≡ count
  pub bits_are : bits ≡ code_of f s
  pub starts_are : starts ≡ starts_of f 0 s

-- samples kept as these bits, starts and count
abbrev pub KeptSamples : Format → ℕ → List Bool → List ℕ → Type 0
KeptSamples f count bits starts = (s : List ℤ) × IsKeptCode f count bits starts s

-- the list of these samples
unfoldable pub kept_samples : {f : Format} {count : ℕ} {bits : List Bool} {starts : List ℕ}
    → KeptSamples f count bits starts → List ℤ
kept_samples kept = kept.0

-- two proofs that samples are kept so are equal
IsKeptCode-prop : (f : Format) (count : ℕ) (bits : List Bool) (starts : List ℕ) (s : List ℤ)
    → IsProp (IsKeptCode f count bits starts s)
IsKeptCode-prop f count bits starts s = hlevel props

-- with a lawful codec there is at most one such list
pub one_list : (f : Format) (count : ℕ) (bits : List Bool) (starts : List ℕ) → IsLawful f
    → IsProp (KeptSamples f count bits starts)
one_list f count bits starts lawful =
    λ u v. Σ_prop_path (IsKeptCode-prop f count bits starts)
    (same_samples f u.0 v.0 lawful u.1.held v.1.held (u.1.count_is ∙ sym v.1.count_is)
    (sym u.1.bits_are ∙ v.1.bits_are))
