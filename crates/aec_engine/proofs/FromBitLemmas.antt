-- The bits of bytes from a bit on, and what decoding them leaves in a buffer.
use Rattle.std.proofs.Common.{◌≡◌, ℕ, ◌+◌, ◌*◌, ◌/◌, ◌%◌, ◌≤◌, Bool, Option, Result, Ok, Err, IfOk, List, ◌++◌, length, take, drop, refl, sym, ap, ◌∙◌, subst, arith, inr}
use Rattle.std.proofs.lemmas.List.{take-append-drop, length-take-le, drop_at, drop-drop}
use Rattle.aec_params.specs.declared.settings.Settings.{Settings}
use Rattle.aec_params.specs.declared.fault.Fault.{Fault}
use Rattle.aec_params.specs.Limits.{Caps}
use Rattle.aec_params.specs.Codewords.{bits_of_bytes}
use Rattle.aec_params.proofs.ByteLaws.{length-bits_of_bytes}
use Rattle.aec_bits.proofs.CodewordLemmas.{bits_of_bytes-append}
use Rattle.aec_engine.specs.ReadingTwice.{DecodesBits, read, unread, no_memory}
use Rattle.aec_params.specs.Reading.{IsReading}
use Rattle.aec_engine.specs.Buffers.{FillsOne, OrMemory}
use Rattle.aec_engine.specs.Offsets.{IsDecodedAt, decoded}

-- the bytes from that of the bit on, without the bits before it
pub bits_from : (bytes : List ℕ) (bit : ℕ) → bit ≤ 8 * length bytes
    → drop (bit % 8) (bits_of_bytes (drop (bit / 8) bytes)) ≡ drop bit (bits_of_bytes bytes)
bits_from bytes bit within =
    let k = bit / 8 in
    let few : k ≤ length bytes = omega (arith, within) in
    let cut : bits_of_bytes bytes ≡ bits_of_bytes (take k bytes) ++ bits_of_bytes (drop k bytes) =
    ap bits_of_bytes (sym (take-append-drop k bytes)) ∙ bits_of_bytes-append (take k bytes) (drop k bytes) in
    let front : length (bits_of_bytes (take k bytes)) ≡ 8 * k =
    omega (arith, length-bits_of_bytes (take k bytes), length-take-le k bytes few) in
    let behind : drop (8 * k) (bits_of_bytes bytes) ≡ bits_of_bytes (drop k bytes) =
    ap (drop (8 * k)) cut ∙ drop_at (bits_of_bytes (take k bytes)) (bits_of_bytes (drop k bytes)) (8 * k) front in
    let whole : 8 * k + bit % 8 ≡ bit = omega arith in
    ap (drop (bit % 8)) (sym behind) ∙ drop-drop (bit % 8) (8 * k) (bits_of_bytes bytes) ∙ ap (λ n. drop n (bits_of_bytes bytes)) whole

module _ (s : Settings) (caps : Caps) (count : Option ℕ) (coded : List ℕ) (bit : ℕ) (bits : List Bool) (behind : bits ≡ drop bit (bits_of_bytes coded))
    (short : length coded ≤ caps.bytes) where
  decoded_from : (answer : Result (List ℕ) Fault) (bytes : List ℕ) → answer ≡ Ok bytes → DecodesBits s count caps.samples bits answer
      → IsDecodedAt s caps bit count coded (Ok bytes)
  decoded_from answer bytes is (read samples counted reading) =
      let same : _ ≡ bytes = cc in
      subst (λ bytes. IsDecodedAt s caps bit count coded (Ok bytes)) same
      (decoded samples short counted (subst (λ bits. IsReading s count caps.samples bits samples) behind reading))
  decoded_from answer bytes is (unread fault refuses) = absurd (cc)
  decoded_from answer bytes is no_memory = absurd (cc)

  fills_from : (before after : List ℕ) (len : ℕ) → FillsOne (DecodesBits s count caps.samples bits) before after (Ok len)
      → FillsOne (OrMemory (IsDecodedAt s caps bit count coded)) before after (Ok len)
  fills_from before after len one = by_answer one.answer refl
    where
      by_answer : (answer : Result (List ℕ) Fault) → one.answer ≡ answer → FillsOne (OrMemory (IsDecodedAt s caps bit count coded)) before after (Ok len)
      by_answer (Err fault) is = let told = one.told in absurd (cc)
      by_answer (Ok bytes) is = record {
        answer = one.answer;
        answered = inr (subst (IsDecodedAt s caps bit count coded) (sym is) (decoded_from one.answer bytes is one.answered));
        told = one.told;
        left = one.left;
      }

  -- what decoding the bits from a bit on writes to a buffer, decoding from that bit on writes there
  pub fills_ok : (before after : List ℕ) (r : Result ℕ Fault) → FillsOne (DecodesBits s count caps.samples bits) before after r
      → IfOk r (λ len. FillsOne (OrMemory (IsDecodedAt s caps bit count coded)) before after (Ok len))
  fills_ok before after (Ok len) one = fills_from before after len one
  fills_ok before after (Err fault) one = tt
