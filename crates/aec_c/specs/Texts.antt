-- How a text is written to a buffer.
use Rattle.std.specs.Prelude.{◌≡◌, ℕ, ◌-◌, nat_lt, if◌then◌else◌, List, [], ◌∷◌, ◌++◌, length, take}
use Rattle.aec_c.specs.Replies.{over_front}

-- as much of a text as fits before a zero, and the zero, at the front of a buffer; a buffer of no
-- bytes is unchanged
abbrev pub text_in : List ℕ → List ℕ → List ℕ
text_in text before = if nat_lt 0 (length before) then over_front (take (length before - 1) text ++ (0 ∷ [])) before
    else before

-- a text of `len` bytes was written to a buffer (not which text)
pub record PutsText (before after : List ℕ) (len : ℕ) : Type 0 where
  pub text : List ℕ
  pub put : after ≡ text_in text before
  pub counted : length text ≡ len
