-- Intervals that are read one after the other.
use Rattle.std.proofs.Common.{◌≡◌, ℕ, ◌-◌, ◌≤◌, max, length, Result, Err, IfErr, ℤ, List, [], ◌∷◌, ◌++◌, sym, ap, ◌∙◌, subst, arith, append_assoc}
use Rattle.std.proofs.lemmas.List.{length-append}
use Rattle.std.specs.List.{AllByRecursion}
use Rattle.aec_params.specs.declared.fault.Fault.{Fault}
use Rattle.aec_params.specs.declared.settings.Settings.{Settings}
use Rattle.aec_params.specs.Params.{IsAllowed, IsHeld, interval_len}
use Rattle.aec_params.specs.Reading.{IsReading}
use Rattle.aec_interval.specs.Pieces.{Place, ReadsInterval, HasRead, RefusesAt}
use Rattle.aec_interval.proofs.PieceReadingLemmas.{has_read_more, lacks_memory_only, piece_is_held}
use Rattle.aec_engine.specs.ReadingTwice.{AreSamplesOf, ReadsOn, LacksMemoryAlone}
use Rattle.aec_engine.proofs.ReadTwiceLemmas.{place_from, settings-same, same_next}

pub same_reading : (start p : Place) (xs : List ℤ) → p ≡ place_from start p.block p.bit → AreSamplesOf start xs
    → IsReading p.settings p.count p.limit p.bits xs
same_reading start p xs same given = subst (λ (p : Place). IsReading p.settings p.count p.limit p.bits xs) (sym same) given.reading

all_both : {X : Type 0} (P : X → Type 0) (xs ys : List X) → AllByRecursion P xs → AllByRecursion P ys → AllByRecursion P (xs ++ ys)
all_both P [] ys first second = second
all_both P (x ∷ xs) ys first second = (first.0, all_both P xs ys first.1 second)

-- one interval
pub reads_one : (p q : Place) (ys : List ℤ) → IsAllowed p.settings → ReadsInterval p ys q → ReadsOn p ys q
reads_one p q ys a step = record {
  wanted = step.wanted;
  begins = step.begins;
  ahead = step.ahead;
  same = step.piece.same;
  held = piece_is_held p q ys step.piece;
  behind = λ front read. has_read_more p q front ys a read step;
}

allowed_on : (p q : Place) (xs : List ℤ) → IsAllowed p.settings → ReadsOn p xs q → IsAllowed q.settings
allowed_on p q xs a on = subst IsAllowed (sym (settings-same p q on.same)) a

-- one more interval
pub reads_more : (p q r : Place) (xs ys all : List ℤ) → IsAllowed p.settings → ReadsOn p xs q → ReadsInterval q ys r → all ≡ xs ++ ys → ReadsOn p all r
reads_more p q r xs ys all a on step is = subst (λ all. ReadsOn p all r) (sym is) (record {
  wanted = on.wanted;
  begins = on.begins;
  ahead = omega (arith, on.ahead, step.ahead);
  same = same_next p q r on.same step.piece.same;
  held = all_both (IsHeld p.settings) xs ys on.held
      (subst (λ s. AllByRecursion (IsHeld s) ys) (settings-same p q on.same) (piece_is_held q r ys step.piece));
  behind = λ front read. subst (HasRead r) (append_assoc front xs ys)
      (has_read_more q r (front ++ xs) ys (allowed_on p q xs a on) (on.behind front read) step);
})

-- ---- how many samples are gathered

-- the samples of one interval
pub one_at_once : (p q : Place) (s : Settings) (ys : List ℤ) → p.settings ≡ s → ReadsInterval p ys q → length ys ≤ max 2048 (interval_len s)
one_at_once p q s ys is step = omega (arith, step.few, ap interval_len is)

-- the samples of one more interval, if those before it leave room for it
pub more_at_once : (p q r : Place) (s : Settings) (last : ℕ) (xs ys all : List ℤ) → p.settings ≡ s → ReadsOn p xs q → ReadsInterval q ys r → all ≡ xs ++ ys
    → last ≡ 2048 - interval_len s → length xs ≤ last → length all ≤ max 2048 (interval_len s)
more_at_once p q r s last xs ys all is on step both gives few =
    omega (arith, step.few, ap interval_len (settings-same p q on.same ∙ is), ap length both, length-append xs ys, gives, few)

-- ---- refusals

pub lacks_first : (p : Place) (fault : Fault) → IsAllowed p.settings → RefusesAt p fault → LacksMemoryAlone p fault
lacks_first p fault a refuses front samples read given = lacks_memory_only p front samples fault a read given.reading refuses

pub lacks_later : (p q : Place) (xs : List ℤ) (fault : Fault) → IsAllowed p.settings → ReadsOn p xs q → RefusesAt q fault → LacksMemoryAlone p fault
lacks_later p q xs fault a on refuses front samples read given =
    lacks_memory_only q (front ++ xs) samples fault (allowed_on p q xs a on) (on.behind front read) (same_reading p q samples on.same given) refuses

pub lacks_err : {X : Type 0} (r : Result X Fault) (fault other : Fault) (p : Place) → r ≡ Err fault → fault ≡ other → LacksMemoryAlone p other
    → IfErr r (λ fault. LacksMemoryAlone p fault)
lacks_err r fault other p is same alone = subst (λ r. IfErr r (λ fault. LacksMemoryAlone p fault)) (sym (is ∙ ap Err same)) alone
