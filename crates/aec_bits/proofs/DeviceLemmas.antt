-- What several calls of a sink do in total.
use Rattle.std.proofs.Common.{ℕ, ◌+◌, List, Option, Result, Ok, Err, take, drop, subst, sym, arith, take-add, inl, inr}
use Rattle.std.specs.Result.{OnErr}
use Rattle.std.specs.Io.KnownBytes.{Appends}
use Rattle.std.proofs.KnownBytes.{Appends-trans}
use Rattle.std.proofs.lemmas.List.{take-take, take_all, length-take}
use Rattle.std.proofs.lemmas.Bool.{cases_lt}
use Rattle.aec_bits.specs.Devices.{AppendsFront}

-- if `done` bytes of a piece were appended, and then n more, its first done + n bytes were appended
pub Appends_more : (a b c : Option (List ℕ)) (piece : List ℕ) (done n : ℕ)
    → Appends a b (take done piece) → Appends b c (take n (drop done piece)) → Appends a c (take (done + n) piece)
Appends_more a b c piece done n first second = subst (Appends a c) (sym (take-add done n piece)) (Appends-trans a b c _ _ first second)

-- if `done` bytes of a piece were appended, and then some next ones, a first part was appended
pub AppendsFront_more : (a b c : Option (List ℕ)) (piece : List ℕ) (done count : ℕ)
    → Appends a b (take done piece) → AppendsFront b c (take count (drop done piece)) → AppendsFront a c piece
AppendsFront_more a b c piece done count first second =
    elim (cases_lt second.0 count) [
      | inl few ↦ (
        done + second.0,
        Appends_more a b c piece done second.0 first
            (subst (Appends b c) (take-take second.0 count (drop done piece) (omega arith)) second.1),
      )
      | inr all ↦ (
        done + count,
        Appends_more a b c piece done count first
            (subst (Appends b c) (take_all second.0 (take count (drop done piece)) (omega (arith, length-take count (drop done piece)))) second.1),
      )
    ]

-- what holds in any case holds after a refusal
pub on_err : {T E : Type 0} (r : Result T E) (P : Type 0) → P → OnErr r P
on_err (Ok x) P h = tt
on_err (Err e) P h = h
