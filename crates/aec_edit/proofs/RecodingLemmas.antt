-- Intervals are exchanged for the code of fresh samples.
use Rattle.std.proofs.Common.{◌≡◌, ℕ, ◌+◌, ◌-◌, ◌*◌, ◌<◌, ◌≤◌, Bool, Result, Ok, Err, List, ◌++◌, length}
use Rattle.std.proofs.Common.{map, take, drop, get_or, ℤ, sym, ap, subst, ◌∙◌, inl, inr, arith, length-append}
use Rattle.std.specs.Result.{OnOk, OnErr}
use Rattle.std.proofs.lemmas.List.{append-nil, length-take, length-drop, drop_all}
use Rattle.aec_bits.specs.Codec.{Format, IsLawful, code_of}
use Rattle.aec_bits.proofs.CodeLaws.{code_of-nil, code_of-append}
use Rattle.aec_edit.specs.Workspace.{interval_count, start_of}
use Rattle.aec_edit.specs.Index.{IsKeptCode, starts_of}
use Rattle.aec_edit.specs.Changes.{IsRecoding, recoded}
use Rattle.aec_edit.proofs.HeldLemmas.{held-take, held-drop, held-append}
use Rattle.aec_edit.proofs.StartLemmas.{starts_of-nil, starts_of-append, starts_of-add, starts_of-move, take-starts_of, drop-starts_of, take-code_of, drop-code_of, length-starts_of, get_or-starts_of, starts_of-within, start_of-le, start_of-mono}

module _ (f : Format) (limit from to : ℕ) (s fresh : List ℤ) (lawful : IsLawful f) (fits : IsRecoding f limit s from to fresh) where
  front_len : length (take (from * f.most) s) ≡ from * f.most
  front_len = omega (arith, length-take (from * f.most) s, fits.begins)

  fresh_code : code_of f (fresh ++ drop (to * f.most) s) ≡ code_of f fresh ++ code_of f (drop (to * f.most) s)
  fresh_code =
      elim fits.fitting [
        | inl past ↦
            ap (λ l. code_of f (fresh ++ l)) (drop_all (to * f.most) s past) ∙ ap (code_of f) (append-nil fresh)
            ∙ sym (ap (λ l. code_of f fresh ++ code_of f l) (drop_all (to * f.most) s past) ∙ ap (λ l. code_of f fresh ++ l) (code_of-nil f lawful.some)
            ∙ append-nil (code_of f fresh))
        | inr whole ↦ code_of-append f whole.0 fresh (drop (to * f.most) s) lawful.some whole.1
      ]

  fresh_starts : (place : ℕ) → starts_of f place (fresh ++ drop (to * f.most) s) ≡ starts_of f place fresh ++ starts_of f (place + length
      (code_of f fresh)) (drop (to * f.most) s)
  fresh_starts place =
      elim fits.fitting [
        | inl past ↦
            ap (λ l. starts_of f place (fresh ++ l)) (drop_all (to * f.most) s past) ∙ ap (starts_of f place) (append-nil fresh)
            ∙ sym (ap (λ l. starts_of f place fresh ++ starts_of f (place + length (code_of f fresh)) l) (drop_all (to * f.most) s past)
            ∙ ap (λ l. starts_of f place fresh ++ l) (starts_of-nil f (place + length (code_of f fresh)) lawful.some) ∙ append-nil (starts_of f place fresh))
        | inr whole ↦ starts_of-append f place whole.0 fresh (drop (to * f.most) s) lawful.some whole.1
      ]

  recoded_code : code_of f (recoded f from to fresh s) ≡ code_of f (take (from * f.most) s) ++ (code_of f fresh ++ code_of f (drop (to * f.most) s))
  recoded_code =
      code_of-append f from (take (from * f.most) s) (fresh ++ drop (to * f.most) s) lawful.some front_len
      ∙ ap (λ l. code_of f (take (from * f.most) s) ++ l) fresh_code

  recoded_starts : starts_of f 0 (recoded f from to fresh s)
      ≡ starts_of f 0 (take (from * f.most) s)
      ++ (starts_of f (start_of f s from) fresh ++ starts_of f (start_of f s from + length (code_of f fresh)) (drop (to * f.most) s))
  recoded_starts =
      let e : 0 + start_of f s from ≡ start_of f s from = omega arith in
      starts_of-append f 0 from (take (from * f.most) s) (fresh ++ drop (to * f.most) s) lawful.some front_len
      ∙ ap (λ n. starts_of f 0 (take (from * f.most) s) ++ starts_of f n (fresh ++ drop (to * f.most) s)) e
      ∙ ap (λ l. starts_of f 0 (take (from * f.most) s) ++ l) (fresh_starts (start_of f s from))

  -- what is kept after the bits and the starts of intervals were replaced by those of the fresh
  -- samples
  pub recoded_kept : {count : ℕ} {bits : List Bool} {starts : List ℕ} (count' fresh_count i j start stop : ℕ) (bits' fresh_bits : List Bool)
      (starts' fresh_starts : List ℕ)
      → IsKeptCode f count bits starts s → fresh_bits ≡ code_of f fresh → fresh_starts ≡ starts_of f 0 fresh
      → i ≡ from → j ≡ to → start ≡ start_of f s from → stop ≡ start_of f s to
      → bits' ≡ take start bits ++ (fresh_bits ++ drop stop bits)
      → starts' ≡ take i starts ++ (map (λ x. start + x) fresh_starts ++ map (λ x. x - stop + (start + length fresh_bits)) (drop j starts))
      → count' ≡ from * f.most + length fresh + (length s - to * f.most)
      → IsKeptCode f count' bits' starts' (recoded f from to fresh s)
  recoded_kept {bits = bits} {starts = starts} count' fresh_count i j start stop bits' fresh_bits starts' fresh_starts kept code_is index_is i_is j_is
      start_is stop_is bits_is starts_is count_is =
      record {
        held = held-append f.holds (take (from * f.most) s) (fresh ++ drop (to * f.most) s) (held-take f.holds (from * f.most) s kept.held)
            (held-append f.holds fresh (drop (to * f.most) s) fits.held (held-drop f.holds (to * f.most) s kept.held));
        count_is = omega (
          arith,
          length-append (take (from * f.most) s) (fresh ++ drop (to * f.most) s),
          length-append fresh (drop (to * f.most) s),
          length-drop (to * f.most) s,
          front_len,
        );
        bits_are =
            bits_is
            ∙ ap (λ l. take start l ++ (fresh_bits ++ drop stop l)) kept.bits_are
            ∙ ap (λ n. take n (code_of f s) ++ (fresh_bits ++ drop stop (code_of f s))) start_is
            ∙ ap (λ n. take (start_of f s from) (code_of f s) ++ (fresh_bits ++ drop n (code_of f s))) stop_is
            ∙ ap (λ l. l ++ (fresh_bits ++ drop (start_of f s to) (code_of f s))) (take-code_of f from s lawful.some)
            ∙ ap (λ l. code_of f (take (from * f.most) s) ++ (fresh_bits ++ l)) (drop-code_of f to s lawful.some)
            ∙ ap (λ l. code_of f (take (from * f.most) s) ++ (l ++ code_of f (drop (to * f.most) s))) code_is
            ∙ sym recoded_code;
        starts_are = starts_there;
      }
    where
      within : from ≤ interval_count f s
      within = omega (arith, fits.order, fits.within)

      moved : map (λ x. x - stop + (start + length fresh_bits)) (drop j starts) ≡ starts_of f (start_of f s from + length (code_of f fresh)) (drop
          (to * f.most) s)
      moved =
          let sum : start + length fresh_bits ≡ start_of f s from + length (code_of f fresh) = omega (arith, start_is, ap length code_is) in
          ap (λ l. map (λ x. x - stop + (start + length fresh_bits)) (drop j l)) kept.starts_are
          ∙ ap (λ n. map (λ x. x - stop + (start + length fresh_bits)) (drop n (starts_of f 0 s))) j_is
          ∙ ap (map (λ x. x - stop + (start + length fresh_bits)))
          (drop-starts_of f to s lawful.some fits.within ∙ ap (λ n. starts_of f n (drop (to * f.most) s)) (sym stop_is))
          ∙ starts_of-move f stop (start + length fresh_bits) (drop (to * f.most) s)
          ∙ ap (λ n. starts_of f n (drop (to * f.most) s)) sum

      added : map (λ x. start + x) fresh_starts ≡ starts_of f (start_of f s from) fresh
      added = ap (map (λ x. start + x)) index_is ∙ starts_of-add f start fresh ∙ ap (λ n. starts_of f n fresh) start_is

      front : take i starts ≡ starts_of f 0 (take (from * f.most) s)
      front = ap (take i) kept.starts_are ∙ ap (λ n. take n (starts_of f 0 s)) i_is ∙ take-starts_of f from s lawful.some within

      starts_there : starts' ≡ starts_of f 0 (recoded f from to fresh s)
      starts_there =
          starts_is
          ∙ ap (λ l. l ++ (map (λ x. start + x) fresh_starts ++ map (λ x. x - stop + (start + length fresh_bits)) (drop j starts))) front
          ∙ ap (λ l. starts_of f 0 (take (from * f.most) s) ++ (l ++ map (λ x. x - stop + (start + length fresh_bits)) (drop j starts))) added
          ∙ ap (λ l. starts_of f 0 (take (from * f.most) s) ++ (starts_of f (start_of f s from) fresh ++ l)) moved
          ∙ sym recoded_starts

-- in both cases some list is kept
pub some_kept : {T E : Type 0} {f : Format} {count : ℕ} {bits : List Bool} {starts : List ℕ} (r : Result T E) (s s' : List ℤ)
    → OnOk r (IsKeptCode f count bits starts s') → OnErr r (IsKeptCode f count bits starts s) → (x : List ℤ) × IsKeptCode f count bits starts x
some_kept (Ok t) s s' ok err = (s', ok)
some_kept (Err e) s s' ok err = (s, err)

-- what follows from a fact, after a success or after a refusal
pub on_ok_then : {T E P Q : Type 0} (r : Result T E) → OnOk r P → (P → Q) → OnOk r Q
on_ok_then (Ok t) p h = h p
on_ok_then (Err e) p h = tt

pub on_err_then : {T E P Q : Type 0} (r : Result T E) → OnErr r P → (P → Q) → OnErr r Q
on_err_then (Ok t) p h = tt
on_err_then (Err e) p h = h p

-- unchanged fields keep the same samples
pub same_kept : {f : Format} {count count' : ℕ} {bits bits' : List Bool} {starts starts' : List ℕ} {s : List ℤ} → IsKeptCode f count bits starts s
    → bits' ≡ bits → starts' ≡ starts → count' ≡ count → IsKeptCode f count' bits' starts' s
same_kept kept bits_are starts_are count_is = record {
  held = kept.held;
  count_is = kept.count_is ∙ sym count_is;
  bits_are = bits_are ∙ kept.bits_are;
  starts_are = starts_are ∙ kept.starts_are;
}

pub in_format : {f g : Format} {count : ℕ} {bits : List Bool} {starts : List ℕ} {s : List ℤ} → g ≡ f → IsKeptCode f count bits starts s
    → IsKeptCode g count bits starts s
in_format {count = count} {bits = bits} {starts = starts} {s = s} same kept = subst (λ h. IsKeptCode h count bits starts s) (sym same) kept

-- fresh starts are within the fresh bits
pub starts_short : (f : Format) (fresh : List ℤ) {bits : List Bool} {starts : List ℕ} → IsLawful f → bits ≡ code_of f fresh → starts ≡ starts_of f 0 fresh
    → (k : ℕ) → k < length starts → get_or starts k 0 ≤ length bits
starts_short f fresh {starts = starts} lawful bits_are starts_are k within =
    let all : length starts ≡ interval_count f fresh = ap length starts_are ∙ length-starts_of f 0 fresh lawful.some in
    let inside = starts_of-within f 0 fresh k lawful.some (omega arith) in
    omega (arith, inside.1, ap length bits_are, ap (λ l. get_or l k 0) starts_are)

-- the starts from interval `to` on are between the start of that interval and the end of the bits
pub starts_later : (f : Format) {count : ℕ} {bits : List Bool} {starts : List ℕ} {s : List ℤ} (to j stop : ℕ) → IsLawful f → IsKeptCode f count bits starts s
    → j ≡ to → stop ≡ start_of f s to → (k : ℕ) → j ≤ k → k < length starts → (stop ≤ get_or starts k 0) × (get_or starts k 0 ≤ length bits)
starts_later f {starts = starts} {s = s} to j stop lawful kept j_is stop_is k later within =
    let all : length starts ≡ interval_count f s = ap length kept.starts_are ∙ length-starts_of f 0 s lawful.some in
    let here : get_or starts k 0 ≡ start_of f s k = ap (λ l. get_or l k 0) kept.starts_are ∙ get_or-starts_of f 0 s k 0 lawful.some (omega arith)
    ∙ omega arith in
    (omega (arith, start_of-mono f to k s lawful.some (omega arith)), omega (arith, start_of-le f k s lawful.some, ap length kept.bits_are))

-- the new number of samples, as the code computes it
pub new_count : (i j m from to n fresh_count len later count size count' : ℕ) → i ≡ from → j ≡ to → m ≡ n → fresh_count ≡ len → count ≡ size
    → later ≡ count - j * m → count' ≡ i * m + fresh_count + later → count' ≡ from * n + len + (size - to * n)
new_count i j m from to n fresh_count len later count size count' i_is j_is m_is fresh_is count_is later_is sum = cc
