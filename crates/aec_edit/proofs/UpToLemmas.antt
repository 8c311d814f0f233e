-- An exchange that codes the intervals up to a number anew: the samples that it codes, and how many
-- intervals they fill.
use Rattle.std.proofs.Common.{◌≡◌, ℕ, ◌+◌, ◌-◌, ◌*◌, ◌/◌, ◌%◌, ◌<◌, ◌≤◌, min, List}
use Rattle.std.proofs.Common.{◌^◌, ◌++◌, length, take, drop, ℤ, Bool, Result, refl, sym, ap, ◌∙◌, inl, inr, arith, append_assoc, length-append}
use Rattle.std.specs.Int.{div_ceil}
use Rattle.std.proofs.Math.Nat.{mul-le-mul_right}
use Rattle.std.proofs.lemmas.Bool.{cases_lt}
use Rattle.std.proofs.lemmas.List.{length-take, length-drop, take-take, take-append-drop, drop-append-le}
use Rattle.aec_bits.specs.Codec.{Format, AreHeld, IsLawful, code_of}
use Rattle.aec_params.specs.Edits.{Stretch}
use Rattle.aec_edit.specs.Workspace.{Contents, interval_count}
use Rattle.aec_edit.specs.Fresh.{old_part}
use Rattle.aec_edit.specs.Coming.{coming, HasOldPart, IsFreshFor}
use Rattle.aec_edit.specs.declared.workspace.fresh_coding.Fresh.{Fresh}
use Rattle.std.specs.Result.{MatchResult}
use Rattle.aec_params.specs.declared.fault.Fault.{Fault}
use Rattle.aec_edit.specs.Index.{starts_of}
use Rattle.aec_edit.specs.Calls.{RisesAtMost}
use Rattle.aec_edit.specs.Changes.{IsCodeFor, IsExchanged, IsNotExchanged, opened_by, IsExchange, IsExchangeUpTo, IsRecoding, exchanged, exchange_calls, recoded, head_of, tail_of, fresh_of, fresh_total, recoding_calls}
use Rattle.aec_params.proofs.CountLaws.{ceil_bounds}
use Rattle.aec_edit.proofs.FreshLemmas.{coming_moved}
use Rattle.aec_edit.proofs.CallLemmas.{calls_left, recoded_at}
use Rattle.aec_edit.proofs.HeldLemmas.{held-take, held-drop, held-append}
use Rattle.aec_edit.proofs.ExchangeLemmas.{begins_before, ends_after, ceil_mono, fresh_len, fresh_count}
use Rattle.aec_params.proofs.MoveLaws.{from_to}
use Rattle.aec_edit.proofs.ExchangeLemmas.{recoding}

-- what is to come, in a workspace that was only read
module _ {C : Type 0} (format_of : C → Format) (seen w : Contents C) {gone : Stretch} {to : ℕ} {values : List ℤ} {fresh : Fresh}
    (format_is : format_of w.codec ≡ format_of seen.codec) (samples_are : w.samples ≡ seen.samples) where
  pub fresh_coming : IsFreshFor (format_of seen.codec).most seen.samples gone to values fresh
      → coming format_of w fresh ≡ fresh_of (format_of seen.codec).most seen.samples gone to values
  fresh_coming is =
      rw (format_is, samples_are)
      (coming_moved (format_of seen.codec).most seen.samples (head_of (format_of seen.codec).most gone.first seen.samples) values
      (tail_of (format_of seen.codec).most gone.stop seen.samples) fresh.front.items fresh.values.now fresh.back.items
      (div_ceil gone.stop (format_of seen.codec).most) to fresh.next fresh.end is.all is.next is.end)

  pub fresh_old_part : div_ceil gone.stop (format_of seen.codec).most ≤ to → to ≤ interval_count (format_of seen.codec) seen.samples
      → IsFreshFor (format_of seen.codec).most seen.samples gone to values fresh → HasOldPart format_of w fresh
  fresh_old_part reaches inside is =
      let within : fresh.end ≤ interval_count (format_of seen.codec) seen.samples = omega (arith, is.end, inside) in
      record { order = omega (arith, is.next, is.end, reaches); within = rw (format_is, samples_are) within }

module _ (f : Format) (limit first stop to : ℕ) (s values : List ℤ) (lawful : IsLawful f) (held : AreHeld f s)
    (fits : IsExchangeUpTo f limit s (from_to first stop) to values) where
  abbrev pub tail : List ℤ
  tail = drop stop (take (to * f.most) s)

  tail_is : tail_of f.most stop s ++ old_part f.most s (div_ceil stop f.most) to ≡ tail
  tail_is =
      let middle : ℕ = div_ceil stop f.most * f.most in
      let part : List ℤ = take (to * f.most) s in
      let back = ceil_bounds stop f.most lawful.some in
      let order : middle ≤ to * f.most = mul-le-mul_right {m = div_ceil stop f.most} {n = to} f.most fits.reaches in
      let inside : stop ≤ length (take middle part) = omega (arith, length-take middle part, length-take (to * f.most) s, back.0, fits.within) in
      ap (λ l. drop stop l ++ drop middle part) (sym (take-take middle (to * f.most) s order))
      ∙ sym (drop-append-le stop (take middle part) (drop middle part) inside)
      ∙ ap (drop stop) (take-append-drop middle part)

  pub all_is : fresh_of f.most s (from_to first stop) to values ≡ head_of f.most first s ++ (values ++ tail)
  all_is = ap (λ l. head_of f.most first s ++ (values ++ l)) tail_is

  pub stop_before : stop ≤ to * f.most
  stop_before =
      let order = mul-le-mul_right {m = div_ceil stop f.most} {n = to} f.most fits.reaches in
      omega (arith, (ceil_bounds stop f.most lawful.some).0)

  pub all_len : length (fresh_of f.most s (from_to first stop) to values) ≡ fresh_total f.most (length s) (recoding first stop to (length values))
  all_len =
      omega (
        arith,
        ap length all_is,
        length-append (head_of f.most first s) (values ++ tail),
        length-append values tail,
        length-drop (first / f.most * f.most) (take first s),
        length-take first s,
        length-drop stop (take (to * f.most) s),
        length-take (to * f.most) s,
        fits.order,
        fits.within,
        begins_before first f.most lawful.some,
      )

  pub all_held : AreHeld f (fresh_of f.most s (from_to first stop) to values)
  all_held =
      rw all_is
      (held-append f.holds (head_of f.most first s) (values ++ tail)
      (held-drop f.holds (first / f.most * f.most) (take first s) (held-take f.holds first s held))
      (held-append f.holds values tail fits.held (held-drop f.holds stop (take (to * f.most) s) (held-take f.holds (to * f.most) s held))))

  pub is_recoding_up_to : IsRecoding f limit s (first / f.most) to (fresh_of f.most s (from_to first stop) to values)
  is_recoding_up_to =
      let begins = begins_before first f.most lawful.some in
      let after = ends_after f.most first stop lawful.some fits.order in
      record {
        order = omega (arith, after, fits.reaches);
        within = fits.inside;
        begins = omega (arith, begins.0, fits.order, fits.within);
        held = all_held;
        fitting =
            elim fits.fitting [
              | inl past ↦ inl past
              | inr whole ↦ inr (whole.0, all_len ∙ whole.1)
            ];
        few = omega (arith, all_len, begins.2, stop_before, fits.few, fits.within, fits.order);
      }

  pub recoded_up_to : recoded f (first / f.most) to (fresh_of f.most s (from_to first stop) to values) s ≡ exchanged (from_to first stop) values s
  recoded_up_to =
      let begins = begins_before first f.most lawful.some in
      let from : ℕ = first / f.most * f.most in
      let end : ℕ = to * f.most in
      let head : List ℤ = head_of f.most first s in
      let front : take from s ++ head ≡ take first s =
      ap (λ l. l ++ head) (sym (take-take from first s begins.0)) ∙ take-append-drop from (take first s) in
      let inside : stop ≤ length (take end s) = omega (arith, length-take end s, stop_before, fits.within) in
      let rest : tail ++ drop end s ≡ drop stop s =
      sym (drop-append-le stop (take end s) (drop end s) inside) ∙ ap (drop stop) (take-append-drop end s) in
      ap (λ l. take from s ++ (l ++ drop end s)) all_is
      ∙ ap (λ l. take from s ++ l) (append_assoc head (values ++ tail) (drop end s))
      ∙ sym (append_assoc (take from s) head ((values ++ tail) ++ drop end s))
      ∙ ap (λ l. l ++ ((values ++ tail) ++ drop end s)) front
      ∙ ap (λ l. take first s ++ l) (append_assoc values tail (drop end s) ∙ ap (λ l. values ++ l) rest)

  -- what the touched intervals keep is among what is coded
  pub kept_more : first % f.most + (min (length s) (div_ceil stop f.most * f.most) - stop)
      ≤ fresh_total f.most (length s) (recoding first stop to (length values))
  kept_more =
      let order = mul-le-mul_right {m = div_ceil stop f.most} {n = to} f.most fits.reaches in
      omega arith

  -- if a sample is coded, an interval is coded
  pub some_calls : 0 < fresh_total f.most (length s) (recoding first stop to (length values))
      → 0 < recoding_calls f.most (length s) (recoding first stop to (length values))
  some_calls some =
      elim (cases_lt 0 (recoding_calls f.most (length s) (recoding first stop to (length values)))) [
        | inl codes ↦ codes
        | inr none ↦
            let low = (ceil_bounds (fresh_total f.most (length s) (recoding first stop to (length values))) f.most lawful.some).0 in
            let none_coded : recoding_calls f.most (length s) (recoding first stop to (length values)) ≡ 0 = omega arith in
            let nothing : recoding_calls f.most (length s) (recoding first stop to (length values)) * f.most ≡ 0 * f.most =
            ap (λ n. n * f.most) none_coded in
            absurd (omega arith)
      ]

-- an exchange for the same number of values, or up to the end, codes up to the last interval that
-- it touches
module _ (f : Format) (limit first stop : ℕ) (s values : List ℤ) (lawful : IsLawful f) (held : AreHeld f s)
    (fits : IsExchange f limit s (from_to first stop) values) where
  pub same_calls : recoding_calls f.most (length s) (recoding first stop (div_ceil stop f.most) (length values)) ≡ exchange_calls f.most first (length values)
  same_calls =
      ap (λ n. div_ceil n f.most) (sym (fresh_len f limit first stop s values lawful held fits)) ∙ fresh_count f limit first stop s values lawful held fits

  pub up_to_last : IsExchangeUpTo f limit s (from_to first stop) (div_ceil stop f.most) values
  up_to_last =
      let begins = begins_before first f.most lawful.some in
      let back = ceil_bounds stop f.most lawful.some in
      let after = ends_after f.most first stop lawful.some fits.order in
      let split : div_ceil stop f.most ≡ first / f.most + (div_ceil stop f.most - first / f.most) = omega arith in
      let product : div_ceil stop f.most * f.most ≡ first / f.most * f.most + (div_ceil stop f.most - first / f.most) * f.most =
      ap (λ n. n * f.most) split ∙ omega arith in
      record {
        order = fits.order;
        within = fits.within;
        reaches = omega arith;
        inside = ceil_mono f.most stop (length s) lawful.some fits.within;
        held = fits.held;
        fitting =
            elim (cases_lt (div_ceil stop f.most * f.most) (length s)) [
              | inr past ↦ inl past
              | inl inside ↦
                  elim fits.fitting [
                    | inl at_end ↦ inl (omega (arith, back.0))
                    | inr same ↦ inr (div_ceil stop f.most - first / f.most, omega (arith, begins.2, back.0))
                  ]
            ];
        few = fits.few;
      }

-- ---- the same, stated by other variables

pub held_at : (f g : Format) (a b : List ℤ) → g ≡ f → a ≡ b → AreHeld f b → AreHeld g a
held_at f g a b format_is same held = rw (format_is, same) held

pub total_is : (m n count size first stop to len r : ℕ) → m ≡ n → count ≡ size → r ≡ min count (to * m)
    → first % m + (len + (r - stop)) ≡ fresh_total n size (recoding first stop to len)
total_is m n count size first stop to len r m_is count_is r_is = cc

pub calls_is : (m n count size first stop to len r d : ℕ) → m ≡ n → count ≡ size → r ≡ min count (to * m)
    → d ≡ div_ceil (first % m + (len + (r - stop))) m → d ≡ recoding_calls n size (recoding first stop to len)
calls_is m n count size first stop to len r d m_is count_is r_is d_is = cc

pub calls_in : (f g : Format) (total size first stop to len : ℕ) → g ≡ f → total ≡ fresh_total f.most size (recoding first stop to len)
    → div_ceil total g.most ≡ recoding_calls f.most size (recoding first stop to len)
calls_in f g total size first stop to len format_is total_are = rw (format_is, total_are) refl

pub code_for : (f g h : Format) (limit limit' from from' to : ℕ) (s s' fresh came : List ℤ) (bits : List Bool) (starts : List ℕ) (count total : ℕ)
    → g ≡ f → h ≡ f → limit' ≡ limit → s' ≡ s → from' ≡ from → came ≡ fresh → IsRecoding f limit s from to fresh
    → bits ≡ code_of g came → starts ≡ starts_of g 0 came → count ≡ total → total ≡ length came → IsCodeFor h limit' s' from' to bits starts count fresh
code_for f g h limit limit' from from' to s s' fresh came bits starts count total format_is after_is limit_is s_is from_is came_is fits bits_are starts_are
    count_is total_are =
    rw (after_is, limit_is, s_is, from_is) (record {
      recoding = fits;
      bits_are = bits_are ∙ ap (λ k. code_of k came) format_is ∙ ap (code_of f) came_is;
      starts_are = starts_are ∙ ap (λ k. starts_of k 0 came) format_is ∙ ap (starts_of f 0) came_is;
      count_is = count_is ∙ total_are ∙ ap length came_is;
    })

pub answer_at : (a b calls after : ℕ) (r : Result ℕ Fault) → a ≡ b
    → MatchResult r (λ coded. IsExchanged a calls coded after) (λ fault. IsNotExchanged a calls fault after)
    → MatchResult r (λ coded. IsExchanged b calls coded after) (λ fault. IsNotExchanged b calls fault after)
answer_at a b calls after r same answer = rw (sym same) answer

pub reads_at : (a b calls opens opens' reads reads' : ℕ) → a ≡ b → opens ≡ opens' → RisesAtMost (opened_by a calls opens) reads reads'
    → RisesAtMost (opened_by b calls opens') reads reads'
reads_at a b calls opens opens' reads reads' same opens_same rises = rw (sym same, sym opens_same) rises

-- the intervals at both ends were decoded, and then old intervals from number next up to number end
pub decodes_both : (needed calls ends next next' end end' reads : ℕ) {between after : ℕ} → next' ≡ next → end' ≡ end → needed ≤ 2 ^ 64 - 1 - calls
    → RisesAtMost ends reads between → RisesAtMost (end' - next') between after → RisesAtMost (opened_by needed calls (ends + (end - next))) reads after
decodes_both needed calls ends next next' end end' reads next_is end_is enough first then =
    rw (calls_left calls needed enough) (record {
      stays = omega (arith, first.stays, then.stays);
      few = omega (arith, first.few, then.few, next_is, end_is);
    })

-- ---- an exchange up to some interval, as the code makes it

module _ (f : Format) (limit first stop to : ℕ) (s values : List ℤ) (lawful : IsLawful f) (held : AreHeld f s)
    (fits : IsExchangeUpTo f limit s (from_to first stop) to values) where
  -- what was coded is the code of the exchange's fresh samples
  pub code_came : (g h : Format) (limit' from count : ℕ) (s'' came : List ℤ) (bits : List Bool) (starts : List ℕ)
      → g ≡ f → h ≡ g → limit' ≡ limit → s'' ≡ s → came ≡ fresh_of f.most s (from_to first stop) to values → from ≡ first / f.most
      → bits ≡ code_of g came → starts ≡ starts_of g 0 came → count ≡ fresh_total f.most (length s) (recoding first stop to (length values))
      → IsCodeFor h limit' s'' from to bits starts count (fresh_of f.most s (from_to first stop) to values)
  code_came g h limit' from count s'' came' bits starts format_is after_is limit_is s_is came from_is bits_are starts_are count_is =
      code_for f g h limit limit' (first / f.most) from to s s'' (fresh_of f.most s (from_to first stop) to values) came' bits starts count
      (fresh_total f.most (length s) (recoding first stop to (length values))) format_is (after_is ∙ format_is) limit_is s_is from_is came
      (is_recoding_up_to f limit first stop to s values lawful held fits) bits_are starts_are count_is
      (sym (ap length came ∙ all_len f limit first stop to s values lawful held fits))

  -- with that code in its place, the exchange is made
  pub put_came : (h : Format) (from : ℕ) (s'' : List ℤ) → h ≡ f → s'' ≡ s → from ≡ first / f.most
      → recoded h from to (fresh_of f.most s (from_to first stop) to values) s'' ≡ exchanged (from_to first stop) values s
  put_came h from s'' format_is s_is from_is =
      recoded_at f h (first / f.most) from to to s s'' (fresh_of f.most s (from_to first stop) to values)
      (fresh_of f.most s (from_to first stop) to values) format_is from_is refl s_is refl
      ∙ recoded_up_to f limit first stop to s values lawful held fits
