-- The bits of bytes that are taken piece by piece.
use Rattle.std.proofs.Common.{◌≡◌, ℕ, ◌+◌, ◌-◌, ◌*◌, ◌≤◌, ◌<◌, Bool, true, false, Option, List, [], ◌∷◌, ◌++◌, length, refl, sym, ap, ◌∙◌, arith, append_assoc}
use Rattle.std.specs.Int.{div_ceil}
use Rattle.std.specs.Io.KnownBytes.{Consumes, Keeps}
use Rattle.std.proofs.KnownBytes.{Consumes-trans, Consumes-kept}
use Rattle.std.proofs.lemmas.Bool.{ltb-false, le-ltb}
use Rattle.std.proofs.lemmas.List.{length-append}
use Rattle.aec_params.specs.Codewords.{binary, bits_of_bytes}
use Rattle.aec_params.proofs.CodewordLaws.{length-binary}
use Rattle.aec_engine.specs.ReadingTwice.{GaveBits, GaveWhole}
use Rattle.aec_params.specs.declared.fault.Fault.TheVariants.{Read, StreamTooLong}
use Rattle.aec_engine.specs.Transfers.{RefusesIntake, source_failed, too_many_bytes}

pub bits_of_bytes-append : (xs ys : List ℕ) → bits_of_bytes (xs ++ ys) ≡ bits_of_bytes xs ++ bits_of_bytes ys
bits_of_bytes-append [] ys = refl
bits_of_bytes-append (x ∷ xs) ys =
    ap (λ bits. binary 8 x ++ bits) (bits_of_bytes-append xs ys) ∙ sym (append_assoc (binary 8 x) (bits_of_bytes xs) (bits_of_bytes ys))

pub length-bits_of_bytes : (xs : List ℕ) → length (bits_of_bytes xs) ≡ 8 * length xs
length-bits_of_bytes [] = refl
length-bits_of_bytes (x ∷ xs) = omega (arith, length-append (binary 8 x) (bits_of_bytes xs), length-binary 8 x, length-bits_of_bytes xs)

-- bytes that were taken, and their bits
pub record TakesBits (before after : Option (List ℕ)) (failures : ℕ) (bits : List Bool) : Type 0 where
  pub bytes : List ℕ
  pub taken : Consumes before after bytes
  pub spelled : bits ≡ bits_of_bytes bytes
  pub sound : 0 < length bytes → failures ≡ 0

pub bytes-count : (bits : List Bool) (bytes : List ℕ) (n : ℕ) → bits ≡ bits_of_bytes bytes → n ≡ div_ceil (length bits) 8 → n ≡ length bytes
bytes-count bits bytes n spelled is = omega (arith, is, ap length spelled, length-bits_of_bytes bytes)

pub takes_more : (before mid after : Option (List ℕ)) (failures later : ℕ) (bits new : List Bool) (piece : List ℕ) → TakesBits before mid failures bits
    → Consumes mid after piece → later ≡ 0 → new ≡ bits ++ bits_of_bytes piece → TakesBits before after later new
takes_more before mid after failures later bits new piece so_far taken sound appended = record {
  bytes = so_far.bytes ++ piece;
  taken = Consumes-trans before mid after so_far.bytes piece so_far.taken taken;
  spelled = appended ∙ ap (λ l. l ++ bits_of_bytes piece) so_far.spelled ∙ sym (bits_of_bytes-append so_far.bytes piece);
  sound = λ some. sound;
}

-- the source failed after these bytes, which are within the limit
pub gave_failed : (before mid after : Option (List ℕ)) (failures later limit n : ℕ) (bits : List Bool) → TakesBits before mid failures bits → Keeps mid after
    → later ≡ 1 → n ≡ div_ceil (length bits) 8 → n ≤ limit → GaveBits (record { before = before; after = after; failures = later }) limit bits true
gave_failed before mid after failures later limit n bits so_far kept failed is within =
    let few : length so_far.bytes ≤ limit = omega (arith, within, bytes-count bits so_far.bytes n so_far.spelled is) in
    record {
      bytes = so_far.bytes;
      gave = record {
        taken = Consumes-kept before mid after so_far.bytes so_far.taken kept;
        failed = λ e. failed;
        sound = λ e. absurd (cc);
        whole =
            λ short e. absurd (cc);
      };
      spelled = so_far.spelled;
      within = λ e. few;
    }

-- the bytes exceed the limit
pub gave_past : (before after : Option (List ℕ)) (failures limit n : ℕ) (bits : List Bool) → TakesBits before after failures bits
    → n ≡ div_ceil (length bits) 8 → limit < n → GaveBits (record { before = before; after = after; failures = failures }) limit bits false
gave_past before after failures limit n bits so_far is past =
    let many : limit < length so_far.bytes = omega (arith, past, bytes-count bits so_far.bytes n so_far.spelled is) in
    record {
      bytes = so_far.bytes;
      gave = record {
        taken = so_far.taken;
        failed = λ e. absurd (cc);
        sound = λ e. so_far.sound (omega (arith, many));
        whole = λ short e. absurd (omega (arith, many, ltb-false limit (length so_far.bytes) short));
      };
      spelled = so_far.spelled;
      within = λ e. absurd (cc);
    }

-- one more piece leaves fewer bytes up to the limit
pub nearer : (bits new : List Bool) (piece : List ℕ) (limit n : ℕ) → new ≡ bits ++ bits_of_bytes piece → 0 < length piece
    → n ≡ div_ceil (length bits) 8 → n ≤ limit → limit + 1 - div_ceil (length new) 8 < limit + 1 - div_ceil (length bits) 8
nearer bits new piece limit n appended some is within =
    omega (arith, ap length appended, length-append bits (bits_of_bytes piece), length-bits_of_bytes piece, some, is, within)

-- if a source didn't fail, and its bytes are within the limit, it was taken whole
pub gave_whole_bits : (before after : Option (List ℕ)) (failures limit n : ℕ) (bits : List Bool) (failed : Bool)
    → GaveBits (record { before = before; after = after; failures = failures }) limit bits failed → failed ≡ false
    → n ≡ div_ceil (length bits) 8 → n ≤ limit → GaveWhole before after failures limit bits
gave_whole_bits before after failures limit n bits failed gave sound is within =
    let few : length gave.bytes ≤ limit = omega (arith, within, bytes-count bits gave.bytes n gave.spelled is) in
    record {
      bytes = gave.bytes;
      taken = record {
        taken = gave.gave.taken;
        at_end = gave.gave.whole (le-ltb limit (length gave.bytes) few) sound;
        sound = gave.gave.sound sound;
        within = few;
      };
      spelled = gave.spelled;
    }

pub refuses_failed : (before after : Option (List ℕ)) (failures limit : ℕ) (bits : List Bool) (failed : Bool)
    → GaveBits (record { before = before; after = after; failures = failures }) limit bits failed → failed ≡ true
    → RefusesIntake before after failures limit Read
refuses_failed before after failures limit bits failed gave fails =
    source_failed gave.bytes (record { taken = gave.gave.taken; failed = gave.gave.failed fails; within = gave.within fails })

pub refuses_past : (before after : Option (List ℕ)) (failures limit n : ℕ) (bits : List Bool) (failed : Bool)
    → GaveBits (record { before = before; after = after; failures = failures }) limit bits failed → failed ≡ false → n ≡ div_ceil (length bits) 8 → limit < n
    → RefusesIntake before after failures limit (StreamTooLong limit)
refuses_past before after failures limit n bits failed gave sound is past =
    too_many_bytes gave.bytes (record
    { taken = gave.gave.taken; sound = gave.gave.sound sound; past = omega (arith, past, bytes-count bits gave.bytes n gave.spelled is) })
