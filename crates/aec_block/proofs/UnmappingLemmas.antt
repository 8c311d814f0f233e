-- Samples that replace others: the first part that is done, with one or eight more samples.
use Rattle.std.proofs.Common.{◌≡◌, ℕ, ◌+◌, ◌-◌, ◌<◌, ◌≤◌, ◌∙◌, ℤ, List, [], ◌∷◌, ◌++◌, length, take, drop, slice_set, refl, sym, ap, subst, arith}
use Rattle.std.proofs.lemmas.Grind.{take-set_at}
use Rattle.std.proofs.lemmas.List.{take_all, length-take, length-drop}
use Rattle.std.proofs.lemmas.Slice.{take-put_mid}
use Rattle.aec_params.specs.declared.settings.Settings.{Settings}
use Rattle.aec_block.specs.Unmapping.{Unmaps, UnmapsTo}
use Rattle.aec_block.proofs.ListMappingLemmas.{unmaps_to-append, unmaps_to-join}
use borrow.Rule.Slice.PartMut.{mid_of, put_mid, same_len_mid}

pub one_more : (xs : List ℤ) (i : ℕ) (x : ℤ) → i < length xs → take (i + 1) (slice_set xs i x) ≡ take i xs ++ x ∷ []
one_more xs i x within = take-set_at xs i (i + 1) x refl within

-- the samples of values, appended to other samples
abbrev pub unmaps-behind : (s : Settings) (p : ℤ) (values : List ℕ) (old new : List ℤ) → Unmaps s p values [] new → Unmaps s p values old (old ++ new)
unmaps-behind s p values old new unmaps =
    record { more = unmaps.more; appended = ap (λ xs. old ++ xs) unmaps.appended; held = unmaps.held; mapped = unmaps.mapped }

unmaps_to-behind : (s : Settings) (p q : ℤ) (values : List ℕ) (old new : List ℤ) → UnmapsTo s p q values [] new → UnmapsTo s p q values old (old ++ new)
unmaps_to-behind s p q values old new to = record { so_far = unmaps-behind s p values old new to.so_far; last_is = to.last_is }

length-mid : (at : ℕ) (samples : List ℤ) → length (mid_of at (length samples - at) samples) ≡ length samples - at
length-mid at samples = omega (arith, length-take (length samples - at) (drop at samples), length-drop at samples)

-- one more part of the values, whose samples are written at its place
pub part_more : (s : Settings) (p q r : ℤ) (values others all : List ℕ) (samples part : List ℤ) (at k n : ℕ) → values ++ others ≡ all → n ≡ at + k
    → at + k ≤ length samples → length part ≡ k → UnmapsTo s p q values [] (take at samples) → UnmapsTo s q r others [] part
    → UnmapsTo s p r all [] (take n (put_mid at k samples part))
part_more s p q r values others all samples part at k n all_is sum within len front more =
    let done : UnmapsTo s p r (values ++ others) [] (take at samples ++ part) =
    unmaps_to-join s p q r values others [] (take at samples) (take at samples ++ part) front (unmaps_to-behind s q r others (take at samples) part more) in
    rw (← all_is, take-put_mid at k samples part n (omega (arith, sum, len)) (omega (arith, within))) done

-- the part of the values up to the end
pub rest_more : (s : Settings) (p q start : ℤ) (values others all : List ℕ) (samples part : List ℤ) (at : ℕ) → start ≡ p → values ++ others ≡ all
    → at ≤ length samples → length part ≡ length samples - at → UnmapsTo s start q values [] (take at samples) → Unmaps s q others [] part
    → Unmaps s p all [] (put_mid at (length samples - at) samples part)
rest_more s p q start values others all samples part at start_is all_is within len front more =
    let k : ℕ = length samples - at in
    let whole : take (at + k) (put_mid at k samples part) ≡ put_mid at k samples part =
    take_all (at + k) (put_mid at k samples part) (omega (arith, same_len_mid at k samples part (len ∙ sym (length-mid at samples)), within)) in
    let done : Unmaps s start (values ++ others) [] (take at samples ++ part) =
    unmaps_to-append s start q values others [] (take at samples) (take at samples ++ part) front
    (unmaps-behind s q others (take at samples) part more) in
    subst (Unmaps s p all []) (sym (take-put_mid at k samples part (at + k) (omega (arith, len)) within) ∙ whole)
    (rw (← start_is, ← all_is) done)
