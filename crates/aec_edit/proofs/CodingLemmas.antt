-- One more interval is coded.
use Rattle.std.proofs.Common.{◌≡◌, ℕ, suc, ◌+◌, ◌<◌, ◌≤◌, min, Bool, Result, Ok, Err, List, [], ◌∷◌, ◌++◌, length, take, drop, ℤ}
use Rattle.std.proofs.Common.{refl, sym, subst, ap, ◌∙◌, inl, inr, arith, append_assoc, length-append}
use Rattle.std.specs.Result.{OnOk, OnErr}
use Rattle.std.specs.Int.{div_ceil}
use Rattle.std.proofs.lemmas.List.{take_min, drop_min, length-take, length-drop, take-append-le, drop-append-le, append-nil}
use Rattle.aec_params.proofs.CuttingLaws.{div_ceil-step}
use Rattle.aec_bits.specs.Codec.{Format, AreHeld, IsInterval, IsLawful, code_of}
use Rattle.aec_bits.proofs.CodeLaws.{code_of_first}
use Rattle.aec_edit.specs.Index.{starts_of}
use Rattle.aec_edit.specs.Calls.{RisesAtMost}
use Rattle.aec_edit.specs.Fresh.{IsGathered}
use Rattle.aec_edit.proofs.HeldLemmas.{held-take, held-drop}
use Rattle.aec_edit.proofs.StartLemmas.{starts_of_first}

-- samples cut into their first interval and the rest
pub record SplitsFirst (f : Format) (rest interval later : List ℤ) : Type 0 where
  pub interval_is : interval ≡ take (min f.most (length rest)) rest
  pub later_is : later ≡ drop (min f.most (length rest)) rest
  pub some : 0 < length rest

-- the first interval, and what comes after it
pub splits_first : (f : Format) (rest later : List ℤ) → 0 < length rest → later ≡ drop f.most rest → SplitsFirst f rest (take f.most rest) later
splits_first f rest later some is = record { interval_is = sym (take_min f.most rest); later_is = is ∙ sym (drop_min f.most rest); some = some }

pub later_held : (f : Format) {rest interval later : List ℤ} → SplitsFirst f rest interval later → AreHeld f rest → AreHeld f later
later_held f {rest = rest} split held = rw split.later_is (held-drop f.holds (min f.most (length rest)) rest held)

pub one_call_less : (f : Format) {rest interval later : List ℤ} → IsLawful f → SplitsFirst f rest interval later
    → div_ceil (length rest) f.most ≡ suc (div_ceil (length later) f.most)
one_call_less f {rest = rest} lawful split =
    div_ceil-step (length rest) f.most lawful.some split.some
    ∙ ap (λ m. suc (div_ceil m f.most)) (sym (ap length (split.later_is ∙ drop_min f.most rest) ∙ length-drop f.most rest))

-- the bits so far, and those of the first interval
pub bits_more : (f : Format) {rest interval later : List ℤ} (bits bits' all : List Bool) → IsLawful f → SplitsFirst f rest interval later
    → all ≡ bits ++ code_of f rest → bits' ≡ bits ++ f.bits_of interval → all ≡ bits' ++ code_of f later
bits_more f {rest = rest} {interval = interval} {later = later} bits bits' all lawful split so_far grown =
    so_far
    ∙ ap (λ l. bits ++ l)
    (code_of_first f rest lawful.some split.some
    ∙ ap (λ l. f.bits_of l ++ code_of f (drop f.most rest)) (sym (split.interval_is ∙ take_min f.most rest))
    ∙ ap (λ l. f.bits_of interval ++ code_of f l) (sym (split.later_is ∙ drop_min f.most rest)))
    ∙ sym (append_assoc bits (f.bits_of interval) (code_of f later))
    ∙ ap (λ l. l ++ code_of f later) (sym grown)

-- the starts so far, and the next one
pub starts_more : (f : Format) {rest interval later : List ℤ} (bits bits' : List Bool) (starts starts' all : List ℕ) (place : ℕ) → IsLawful f
    → SplitsFirst f rest interval later → all ≡ starts ++ starts_of f (length bits) rest → place ≡ length bits
    → starts' ≡ starts ++ place ∷ [] → bits' ≡ bits ++ f.bits_of interval → all ≡ starts' ++ starts_of f (length bits') later
starts_more f {rest = rest} {interval = interval} {later = later} bits bits' starts starts' all place lawful split so_far here pushed grown =
    let next : length bits + length (f.bits_of interval) ≡ length bits' = sym (ap length grown ∙ length-append bits (f.bits_of interval)) in
    so_far
    ∙ ap (λ l. starts ++ l)
    (starts_of_first f (length bits) rest lawful.some split.some
    ∙ ap (λ l. length bits ∷ starts_of f (length bits + length (f.bits_of l)) (drop f.most rest)) (sym (split.interval_is ∙ take_min f.most rest))
    ∙ ap (λ l. length bits ∷ starts_of f (length bits + length (f.bits_of interval)) l) (sym (split.later_is ∙ drop_min f.most rest))
    ∙ ap (λ n. length bits ∷ starts_of f n later) next)
    ∙ sym (append_assoc starts (length bits ∷ []) (starts_of f (length bits') later))
    ∙ ap (λ n. (starts ++ n ∷ []) ++ starts_of f (length bits') later) (sym here)
    ∙ ap (λ l. l ++ starts_of f (length bits') later) (sym pushed)

-- a call of the coder that may fail
pub one_more_call : {T E : Type 0} (r : Result T E) (before after : ℕ) → OnOk r (after ≡ before + 1) → OnErr r (after ≡ before) → RisesAtMost 1 before after
one_more_call (Ok t) before after ok err = record { stays = omega (arith, ok); few = omega (arith, ok) }
one_more_call (Err e) before after ok err = record { stays = omega (arith, err); few = omega (arith, err) }

no_rest : (front rest : List ℤ) → front ≡ front ++ rest → rest ≡ []
no_rest front [] all = refl
no_rest front (x ∷ rest) all = absurd (omega (arith, ap length all, length-append front (x ∷ rest)))

-- the first interval of what is to come, once `front` contains it
module _ (f : Format) (front rest : List ℤ) (len : ℕ) (len_is : len ≡ min f.most (length front)) (gathered : IsGathered f.most front (front ++ rest)) where
  pub front_taken : {coming : List ℤ} → front ++ rest ≡ coming → take len front ≡ take f.most coming
  front_taken same =
      ap (λ m. take m front) len_is
      ∙ take_min f.most front
      ∙ elim gathered [
        | inl whole ↦ sym (take-append-le f.most front rest whole)
        | inr all ↦ ap (take f.most) all
      ]
      ∙ ap (take f.most) same

  pub front_dropped : {coming front' : List ℤ} → front ++ rest ≡ coming → front' ≡ drop len front → front' ++ rest ≡ drop f.most coming
  front_dropped same dropped =
      ap (λ l. l ++ rest) dropped
      ∙ ap (λ m. drop m front ++ rest) len_is
      ∙ ap (λ l. l ++ rest) (drop_min f.most front)
      ∙ elim gathered [
        | inl whole ↦ sym (drop-append-le f.most front rest whole)
        | inr all ↦ rw (no_rest front rest all) (append-nil (drop f.most front) ∙ ap (drop f.most) (sym (append-nil front)))
      ]
      ∙ ap (drop f.most) same

  pub front_interval : 1 ≤ f.most → 1 ≤ length (front ++ rest) → AreHeld f (front ++ rest) → IsInterval f (take len front)
  front_interval some any held = record {
    some = omega (arith, ap length (front_taken refl), length-take f.most (front ++ rest));
    few = omega (arith, ap length (front_taken refl), length-take f.most (front ++ rest));
    held = subst (AreHeld f) (sym (front_taken refl)) (held-take f.holds f.most (front ++ rest) held);
  }
