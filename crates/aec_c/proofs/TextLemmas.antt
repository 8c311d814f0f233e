-- A text and the zero after it, written byte by byte.
use Rattle.std.proofs.Common.{◌≡◌, ℕ, ◌+◌, ◌-◌, ◌<◌, ◌≤◌, min, if◌then◌else◌, List, [], ◌∷◌, ◌++◌, length, take, drop, set, refl, sym, ap, ◌∙◌, arith}
use Rattle.std.proofs.lemmas.Bool.{lt-ltb}
use Rattle.std.proofs.lemmas.List.{take_min, length-take-le}
use Rattle.aec_c.specs.Replies.{over_front}
use Rattle.aec_c.specs.Texts.{PutsText}

-- a byte stored right after the written part makes this part longer
set_behind : (front before : List ℕ) (y : ℕ) → length front < length before
    → set (front ++ drop (length front) before) (length front) y ≡ over_front (front ++ (y ∷ [])) before
set_behind [] [] y room = absurd (omega arith)
set_behind [] (b ∷ before) y room = refl
set_behind (x ∷ front) [] y room = absurd (omega arith)
set_behind (x ∷ front) (b ∷ before) y room = ap (λ rest. x ∷ rest) (set_behind front before y (omega arith))

-- as much of a text as fits, in a buffer with room for `last` bytes before the zero
pub text_put : (text front before : List ℕ) (last shown : ℕ) → length before ≡ last + 1 → shown ≡ min last (length text)
    → front ≡ take shown text → PutsText before (set (front ++ drop shown before) shown 0) (length text)
text_put text front before last shown room is fronts = record {
  text = text;
  put = written ∙ sym (ap (λ t. if t then over_front (take (length before - 1) text ++ (0 ∷ [])) before else before) (lt-ltb 0 (length before) (omega arith)));
  counted = refl;
}
  where
    few : shown ≤ length text
    few = omega (arith, is)

    long : length front ≡ shown
    long = ap length fronts ∙ length-take-le shown text few

    fits : length front < length before
    fits = omega (arith, long, few, room, is)

    same : front ≡ take (length before - 1) text
    same = fronts ∙ (ap (λ k. take k text) is ∙ (take_min last text ∙ ap (λ k. take k text) (omega (arith, room))))

    written : set (front ++ drop shown before) shown 0 ≡ over_front (take (length before - 1) text ++ (0 ∷ [])) before
    written = ap (λ k. set (front ++ drop k before) k 0) (sym long) ∙ (set_behind front before 0 fits
        ∙ ap (λ f. over_front (f ++ (0 ∷ [])) before) same)
