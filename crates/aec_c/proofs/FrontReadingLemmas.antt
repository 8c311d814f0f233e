-- With a count, if a first part of coded bytes can be read, all the bytes have the same reading.
use Rattle.std.proofs.Common.{◌≡◌, ℕ, ◌+◌, ◌%◌, ◌≤◌, ◌==◌, min, Bool, true, false, ◌&&◌, if◌then◌else◌, Some, Result, Ok, Err, List, [], ◌∷◌, ◌++◌, length, take, drop, ◌^◌, inl, inr, ℤ, refl, sym, ap, subst, ◌∙◌, arith}
use Rattle.std.specs.Int.{next_multiple_of}
use Rattle.std.proofs.lemmas.List.{take-append-drop, drop-append-le, length-drop, length-append, append_assoc}
use Rattle.aec_params.specs.declared.settings.Settings.{Settings}
use Rattle.aec_params.specs.declared.fault.Fault.{Fault}
use Rattle.aec_params.specs.Limits.{Caps}
use Rattle.aec_params.specs.Codewords.{bits_of_bytes}
use Rattle.aec_params.specs.CodedDataSets.{CodedDataSet, cds_bits}
use Rattle.aec_params.specs.Reading.{StandsAt, next_block, next_begin, LeadsTo, IsReading}
use Rattle.aec_params.proofs.ByteLaws.{length-bits_of_bytes}
use Rattle.aec_bits.proofs.CodewordLemmas.{bits_of_bytes-append}
use Rattle.aec_engine.specs.Transfers.{input_of}
use Rattle.aec_engine.specs.Output.{IsRead, IsDecoded, not_taken, not_counted, decoded, faulty, IsRanged, not_decoded, outside, cut_out}
use Rattle.aec_engine.specs.Buffers.{FillsOne, OrMemory}
use Rattle.aec_engine.proofs.OutputLemmas.{none_refused}
use Rattle.aec_c.specs.Calls.{most}

module _ (s : Settings) (bits more : List Bool) (whole : length bits % 8 ≡ 0) where
  set_within : (b : ℕ) (c : CodedDataSet) → b ≤ length bits → StandsAt s bits b c → b + length (cds_bits s c) ≤ length bits
  set_within b c within stands =
      let n = length (cds_bits s c) in
      let both : length (drop b bits) ≡ n + length (drop (b + n) bits) = ap length stands ∙ length-append (cds_bits s c) (drop (b + n) bits) in
      omega (arith, within, both, length-drop b bits, length-drop (b + n) bits)

  stands_on : (b : ℕ) (c : CodedDataSet) → b ≤ length bits → StandsAt s bits b c → StandsAt s (bits ++ more) b c
  stands_on b c within stands =
      let n = length (cds_bits s c) in
      let rest : List Bool = drop (b + n) bits in
      drop-append-le b bits more within
      ∙ (ap (λ l. l ++ more) stands
      ∙ (append_assoc (cds_bits s c) rest more ∙ ap (λ l. cds_bits s c ++ l) (sym (drop-append-le (b + n) bits more (set_within b c within stands)))))

  byte_end : (b : ℕ) → b ≤ length bits → next_multiple_of b 8 ≤ length bits
  byte_end b within = omega (arith, within, whole)

  begins : (t : Bool) (b : ℕ) → b ≤ length bits
      → (if t then min (next_multiple_of b 8) (length bits) else b) ≡ (if t then min (next_multiple_of b 8) (length (bits ++ more)) else b)
  begins true b within = omega (arith, byte_end b within, length-append bits more)
  begins false b within = refl

  begin_within : (t : Bool) (b : ℕ) → b ≤ length bits → (if t then min (next_multiple_of b 8) (length bits) else b) ≤ length bits
  begin_within true b within = omega (arith, byte_end b within)
  begin_within false b within = within

  leads_on : (n limit i b : ℕ) (sets : List CodedDataSet) (j e : ℕ) → b ≤ length bits → LeadsTo s (Some n) limit bits i b sets j e
      → LeadsTo s (Some n) limit (bits ++ more) i b sets j e
  leads_on n limit i b [] j e within leads = leads
  leads_on n limit i b (c ∷ sets) j e within (wanted, stands, lawful, keeps, rest) =
      let next : ℕ = next_block s i c in
      let t : Bool = s.pad && (next % s.interval == 0) in
      let end : ℕ = b + length (cds_bits s c) in
      let inside : end ≤ length bits = set_within b c within stands in
      let further = leads_on n limit next (next_begin s bits i b c) sets j e (begin_within t end inside) rest in (
        wanted,
        stands_on b c within stands,
        lawful,
        keeps,
        subst (λ b. LeadsTo s (Some n) limit (bits ++ more) next b sets j e) (begins t end inside) further,
      )

  pub reads_on : (n limit : ℕ) (samples : List ℤ) → IsReading s (Some n) limit bits samples → IsReading s (Some n) limit (bits ++ more) samples
  reads_on n limit samples r = record {
    blocks = r.blocks;
    read = record {
      sets = r.read.sets;
      end_block = r.read.end_block;
      end_bit = r.read.end_bit;
      leads = leads_on n limit 0 0 r.read.sets r.read.end_block r.read.end_bit (omega arith) r.read.leads;
      done = r.read.done;
      kept = r.read.kept;
    };
    all_samples = r.all_samples;
    filled = r.filled;
    counted = r.counted;
  }

-- ---- bytes

module _ (s : Settings) (caps : Caps) (n : ℕ) (front rest : List ℕ) (short : length (front ++ rest) ≤ caps.bytes) where
  pub read_on : (samples : List ℤ) → IsRead s caps (Some n) (input_of front false) samples → IsRead s caps (Some n) (input_of (front ++ rest) false) samples
  read_on samples r = record {
    taken = none_refused caps.bytes (front ++ rest) short;
    within = r.within;
    reading = rw (bits_of_bytes-append front rest)
        (reads_on s (bits_of_bytes front) (bits_of_bytes rest) (omega (arith, length-bits_of_bytes front)) n caps.samples samples r.reading);
  }

  decoded_on : (answer : Result (List ℕ) Fault) (bytes : List ℕ) → answer ≡ Ok bytes → IsDecoded s caps (Some n) (input_of front false) answer
      → IsDecoded s caps (Some n) (input_of (front ++ rest) false) (Ok bytes)
  decoded_on answer bytes is (not_taken fault why) = absurd (cc)
  decoded_on answer bytes is (not_counted fault taken above) = absurd (cc)
  decoded_on answer bytes is (decoded samples read) =
      rw (sym is) (decoded samples (read_on samples read))
  decoded_on answer bytes is (faulty fault taken within wrong) = absurd (cc)

  ranged_on : (first len : ℕ) (answer : Result (List ℕ) Fault) (bytes : List ℕ) → answer ≡ Ok bytes
      → IsRanged s caps (Some n) first len (input_of front false) answer → IsRanged s caps (Some n) first len (input_of (front ++ rest) false) (Ok bytes)
  ranged_on first len answer bytes is (not_decoded fault refused) = absurd (cc)
  ranged_on first len answer bytes is (outside samples read past) = absurd (cc)
  ranged_on first len answer bytes is (cut_out samples read within) =
      rw (sym is) (cut_out samples (read_on samples read) within)

-- if A implies B for each answer with bytes, a buffer filled as A states is filled as B states
module _ (A B : Result (List ℕ) Fault → Type 0) (on : (answer : Result (List ℕ) Fault) (bytes : List ℕ) → answer ≡ Ok bytes → A answer → B (Ok bytes)) where
  fills_on : (before after : List ℕ) (len : ℕ) → FillsOne (OrMemory A) before after (Ok len) → FillsOne (OrMemory B) before after (Ok len)
  fills_on before after len one = by_answer one.answer refl
    where
      by_answer : (answer : Result (List ℕ) Fault) → one.answer ≡ answer → FillsOne (OrMemory B) before after (Ok len)
      by_answer (Err fault) is = let told = one.told in absurd (cc)
      by_answer (Ok bytes) is = record {
        answer = one.answer;
        answered = by_one one.answered;
        told = one.told;
        left = one.left;
      }
        where
          by_one : OrMemory A one.answer → OrMemory B one.answer
          by_one (inl lacks) = absurd (cc)
          by_one (inr answered) = inr (subst B (sym is) (on one.answer bytes is answered))

module _ (s : Settings) (n front : ℕ) (bytes before after : List ℕ) (len : ℕ) (short : length bytes ≤ 2 ^ 40) where
  whole : take front bytes ++ drop front bytes ≡ bytes
  whole = take-append-drop front bytes

  in_most : length (take front bytes ++ drop front bytes) ≤ most.bytes
  in_most = rw whole short

  -- what decoding the first `front` bytes writes to a buffer, decoding all bytes writes there too
  pub fills_whole : FillsOne (OrMemory (IsDecoded s most (Some n) (input_of (take front bytes) false))) before after (Ok len)
      → FillsOne (OrMemory (IsDecoded s most (Some n) (input_of bytes false))) before after (Ok len)
  fills_whole one =
      rw (← whole) (fills_on _ _ (decoded_on s most n (take front bytes) (drop front bytes) in_most) before after len one)

  -- the same for a range
  pub ranges_whole : (first length : ℕ) → FillsOne (OrMemory (IsRanged s most (Some n) first length (input_of (take front bytes) false))) before after (Ok len)
      → FillsOne (OrMemory (IsRanged s most (Some n) first length (input_of bytes false))) before after (Ok len)
  ranges_whole first length one =
      rw (← whole) (fills_on _ _ (ranged_on s most n (take front bytes) (drop front bytes) in_most first length) before after len one)
