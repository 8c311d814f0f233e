-- Fresh samples, handed out one interval at a time.
use Rattle.std.proofs.Common.{◌≡◌, ℕ, ◌+◌, ◌-◌, ◌*◌, ◌<◌, ◌≤◌, ◌⊎◌, List, [], ◌++◌, length, take, drop, ℤ, sym, ap, ◌∙◌, inl, inr, arith, append_assoc, take-add}
use Rattle.std.proofs.lemmas.List.{drop-drop, drop-take}
use Rattle.aec_edit.specs.Calls.{RisesAtMost}
use Rattle.aec_edit.specs.Fresh.{old_part, to_come}
use Rattle.aec_edit.specs.Coming.{MovesOn}
use Rattle.aec_edit.specs.declared.workspace.fresh_coding.Fresh.{Fresh}

-- ---- old intervals

-- the first old interval, and the others
pub old_part-first : (n next end : ℕ) (s : List ℤ) → next < end → old_part n s next end ≡ take n (drop (next * n) s) ++ old_part n s (next + 1) end
old_part-first n next end s some = first_of (end - (next + 1)) (omega arith)
  where
    first_of : (k : ℕ) → end ≡ next + 1 + k → old_part n s next end ≡ take n (drop (next * n) s) ++ old_part n s (next + 1) end
    first_of k count =
        let product : end * n ≡ (next + 1 + k) * n = ap (λ m. m * n) count in
        let all : next * n + (n + k * n) ≡ end * n = omega arith in
        let others : (next + 1) * n + k * n ≡ end * n = omega arith in
        let after : next * n + n ≡ (next + 1) * n = omega arith in
        ap (λ m. drop (next * n) (take m s)) (sym all)
        ∙ drop-take (next * n) (n + k * n) s
        ∙ take-add n (k * n) (drop (next * n) s)
        ∙ ap (λ l. take n (drop (next * n) s) ++ take (k * n) l) (drop-drop n (next * n) s ∙ ap (λ m. drop m s) after)
        ∙ ap (λ l. take n (drop (next * n) s) ++ l)
        (sym (drop-take ((next + 1) * n) (k * n) s) ∙ ap (λ m. drop ((next + 1) * n) (take m s)) others)

-- ---- what is to come

regroup : (a b c d : List ℤ) → a ++ (b ++ (c ++ d)) ≡ (a ++ (b ++ c)) ++ d
regroup a b c d = ap (λ l. a ++ l) (sym (append_assoc b c d)) ∙ sym (append_assoc a (b ++ c) d)

-- what is to come stays the same if samples move to the front
pub coming_moved : (n : ℕ) (s front values back front' values' back' : List ℤ) (next end next' end' : ℕ)
    → front' ++ (values' ++ back') ≡ front ++ (values ++ back) → next' ≡ next → end' ≡ end
    → to_come n s front' values' back' next' end' ≡ to_come n s front values back next end
coming_moved n s front values back front' values' back' next end next' end' moved next_is end_is =
    regroup front' values' back' (old_part n s next' end')
    ∙ ap (λ l. l ++ old_part n s next' end') moved
    ∙ ap (λ k. (front ++ (values ++ back)) ++ old_part n s k end') next_is
    ∙ ap (λ k. (front ++ (values ++ back)) ++ old_part n s next k) end_is
    ∙ sym (regroup front values back (old_part n s next end))

-- what is to come stays the same if an interval is decoded to the front
pub coming_decoded : (n : ℕ) (s front values back front' : List ℤ) (next end : ℕ) → next < end → values ≡ [] → back ≡ []
    → front' ≡ front ++ take n (drop (next * n) s) → to_come n s front' values back (next + 1) end ≡ to_come n s front values back next end
coming_decoded n s front values back front' next end some no_values no_back grown =
    rw (no_values, no_back, grown)
    (append_assoc front (take n (drop (next * n) s)) (old_part n s (next + 1) end) ∙ ap (λ l. front ++ l) (sym (old_part-first n next end s some)))

-- ---- what `front` contains

pub emptied : (n : ℕ) (front values back : List ℤ) → (n ≤ length front) ⊎ ((values ≡ []) × (back ≡ [])) → length front < n → (values ≡ []) × (back ≡ [])
emptied n front values back (inl full) less = absurd (omega arith)
emptied n front values back (inr none) less = none

-- ---- old intervals that are handed out

pub moves_further : {reads between after : ℕ} {old mid new : Fresh} → MovesOn reads between old mid → MovesOn between after mid new
    → MovesOn reads after old new
moves_further first then = record {
  order = then.order;
  end = then.end ∙ first.end;
  opens = record { stays = omega (arith, first.opens.stays, then.opens.stays); few = omega (arith, first.opens.few, then.opens.few) };
}

pub rises_further : {reads between after : ℕ} {old mid : Fresh} → MovesOn reads between old mid → RisesAtMost (mid.end - mid.next) between after
    → RisesAtMost (old.end - old.next) reads after
rises_further first then = record { stays = omega (arith, first.opens.stays, then.stays); few = omega (arith, first.opens.few, then.few) }

pub moves_still : {reads between after : ℕ} {old mid new : Fresh} → MovesOn reads between old mid → after ≡ between → new.next ≡ mid.next → new.end ≡ mid.end
    → MovesOn reads after old new
moves_still first same next_is end_is = record {
  order = omega (arith, first.order, next_is, end_is);
  end = end_is ∙ first.end;
  opens = record { stays = omega (arith, first.opens.stays, same); few = omega (arith, first.opens.few, same, next_is, end_is) };
}
