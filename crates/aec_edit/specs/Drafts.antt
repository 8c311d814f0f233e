-- For proofs alone: no public contract cites this file.
-- What a list of edits leaves, before it is coded. The contract of `apply_all` cites `all_after`,
-- `all_needed` and `first_refusal` instead.
use Rattle.std.specs.Prelude.{◌≡◌, ℕ, ◌+◌, ◌-◌, ◌*◌, ◌^◌, ◌<◌, ◌≤◌, ◌⊎◌, nat_lt, if◌then◌else◌, List, [], ◌∷◌, ◌++◌, length, take, drop, ⊤, ℤ}
use Rattle.std.specs.Int.{div_ceil}
use Rattle.aec_bits.specs.Codec.{Format, AreHeld, code_of}
use Rattle.aec_edit.specs.Workspace.{Contents}
use Rattle.aec_edit.specs.Calls.{RisesAtMost}
use Rattle.aec_edit.specs.Index.{starts_of}
use Rattle.aec_edit.specs.Pieces.{all_places, places_after, IsCut}
use Rattle.aec_edit.specs.Batched.{HasCount}
use Rattle.aec_edit.specs.Coming.{AddsInterval}
use Rattle.aec_edit.specs.declared.coded.Coded.{Coded}
use Rattle.aec_edit.specs.declared.workspace.rebuilding.Draft.{Draft}
use Rattle.aec_edit.specs.declared.workspace.rebuilding.Reader.{Reader}

-- the samples s are those at these places of a list
abbrev pub AreAt : List ℤ → List ℕ → List ℤ → Type 0
AreAt all [] [] = ⊤
AreAt all [] (x ∷ s) = ⊥
AreAt all (k ∷ places) [] = ⊥
AreAt all (k ∷ places) (x ∷ s) = (drop k all ≡ x ∷ drop (k + 1) all) × AreAt all places s

-- one number for each interval of n samples of s. The number of an interval of `old` says that both
-- have the same samples
abbrev pub AreFrom : ℕ → List ℤ → List ℕ → List ℤ → Type 0
AreFrom n old [] s = s ≡ []
AreFrom n old (k ∷ marks) s =
    (0 < length s) × (k < div_ceil (length old) n → take n s ≡ take n (drop (k * n) old))
    × AreFrom n old marks (drop n s)

-- how many of these numbers are those of no interval among `count`
abbrev pub fresh_among : ℕ → List ℕ → ℕ
fresh_among count [] = 0
fresh_among count (k ∷ marks) = (if nat_lt k count then 0 else 1) + fresh_among count marks

-- a draft of the samples s, made of the samples `old` and of values, of which at most `most`
-- intervals have to be coded
pub record IsDraft (f : Format) (old s : List ℤ) (most : ℕ) (draft : Draft) : Type 0 where
  pub places : AreAt (old ++ draft.values.items) (all_places draft.samples) s
  pub marks : AreFrom f.most old (all_places draft.intervals) s
  pub fresh : fresh_among (div_ceil (length old) f.most) (all_places draft.intervals) ≤ most
  pub counted : HasCount f draft.count s
  pub places_cut : IsCut draft.samples
  pub marks_cut : IsCut draft.intervals

-- all of a draft comes after its cuts: these samples are still to be coded
pub record IsToCode (n : ℕ) (old rest : List ℤ) (draft : Draft) : Type 0 where
  pub places : AreAt (old ++ draft.values.items) (places_after draft.samples.after.items) rest
  pub marks : AreFrom n old (places_after draft.intervals.after.items) rest

-- how many intervals are still to be coded, and not only copied
abbrev pub fresh_left : ℕ → List ℤ → Draft → ℕ
fresh_left n old draft = fresh_among (div_ceil (length old) n) (places_after draft.intervals.after.items)

-- a draft whose samples a workspace can code
pub record CanBeDrafted {C : Type 0} (format_of : C → Format) (called : C → ℕ) (w : Contents C) (rest : List ℤ)
    (draft : Draft) : Type 0 where
  pub to_code : IsToCode (format_of w.codec).most w.samples rest draft
  pub held : AreHeld (format_of w.codec) rest
  pub calls : called w.codec + fresh_left (format_of w.codec).most w.samples draft ≤ 2 ^ 64 - 1

-- a reader of old samples contains those of its interval, or none
abbrev pub IsReader : ℕ → List ℤ → Reader → Type 0
IsReader n old reader = (reader.opened.items ≡ []) ⊎ (reader.opened.items ≡ take n (drop (reader.number * n) old))

-- samples, limit and format are unchanged, and the count of coded intervals has risen by at most
-- `coded`
pub record KeepsList {C : Type 0} (format_of : C → Format) (called : C → ℕ) (coded : ℕ) (old new : Contents C)
    : Type 0 where
  pub samples : new.samples ≡ old.samples
  pub limit : new.limit ≡ old.limit
  pub format : format_of new.codec ≡ format_of old.codec
  pub calls : RisesAtMost coded (called old.codec) (called new.codec)

-- the next interval of `rest` was coded or copied: the calls made and those still needed have the
-- same sum
pub record AddsNext {C : Type 0} (format_of : C → Format) (called : C → ℕ) (rest : List ℤ) (w w_after : Contents C)
    (old new : Draft) (coded coded_after : Coded) : Type 0 where
  pub to_code : IsToCode (format_of w.codec).most w.samples (drop (format_of w.codec).most rest) new
  pub adds : AddsInterval (format_of w.codec) (take (format_of w.codec).most rest) coded coded_after
  pub calls : called w_after.codec + fresh_left (format_of w.codec).most w.samples new
      ≡ called w.codec + fresh_left (format_of w.codec).most w.samples old

-- the code of these samples
pub record IsCodeOf (f : Format) (s : List ℤ) (coded : Coded) : Type 0 where
  pub bits : coded.bits.list ≡ code_of f s
  pub starts : coded.starts.items ≡ starts_of f 0 s
  pub count_is : coded.count ≡ length s
