-- What is read from a position of some bits on is the reading of the bits that are left there. With
-- padding the position is a whole byte.
use Rattle.std.proofs.Common.{◌≡◌, ℕ, ◌+◌, ◌%◌, ◌≤◌, Bool, true, false, Option, Some, None, Result, Ok, Err, IfOk, IfErr, ℤ, List, [], ◌∷◌, ◌++◌, length, drop, refl, sym, ◌∙◌, arith}
use Rattle.std.specs.Prelude.{nat_lt, if◌then◌else◌}
use Rattle.std.proofs.lemmas.List.{length-drop, drop-drop}
use Rattle.std.proofs.lemmas.Bool.{and_parts}
use Rattle.aec_params.specs.declared.settings.Settings.{Settings}
use Rattle.aec_params.specs.declared.fault.Fault.{Fault}
use Rattle.aec_params.specs.declared.fault.Fault.TheVariants.{Memory, Truncated, ValueTooLarge, RunTooLong, TooManySamples}
use Rattle.aec_params.specs.Blocks.{Block}
use Rattle.aec_params.specs.CodedDataSets.{CodedDataSet, cds_bits}
use Rattle.aec_params.specs.Places.{is_reference_block}
use Rattle.aec_params.specs.Reading.{StandsAt, begin_of, next_block, next_begin, is_wanted, LeadsTo, IsBlockReading, IsReading}
use Rattle.aec_params.specs.Faults.{IsSetAt, IsNotRead, IsWrongAt, not_read, cut_short, too_large, too_long, too_many, IsFault}
use Rattle.aec_interval.specs.Reached.{IsReadFrom, RefusesReading, no_memory, faulty, count_refusal, above_limit, unread}
use Rattle.aec_interval.specs.Offsets.{fault_from, RefusesDecodingAt}

module _ (s : Settings) (count : Option ℕ) (limit : ℕ) (bits : List Bool) (start : ℕ)
    (within : start ≤ length bits) (whole : s.pad ≡ true → start % 8 ≡ 0) where
  begin-dropped : (i b : ℕ) → begin_of s bits i (start + b) ≡ start + begin_of s (drop start bits) i b
  begin-dropped i b = grind (arith, and_parts, length-drop)

  wanted-dropped : (count : Option ℕ) (i b : ℕ) → is_wanted s count bits i (start + b) ≡ is_wanted s count (drop start bits) i b
  wanted-dropped None i b = rw drop-drop
  wanted-dropped (Some n) i b = refl

  further : (b : ℕ) (c : CodedDataSet) → drop (start + b + length (cds_bits s c)) bits ≡ drop (b + length (cds_bits s c)) (drop start bits)
  further b c = grind (arith, drop-drop)

  stands-dropped : (b : ℕ) (c : CodedDataSet) → StandsAt s bits (start + b) c → StandsAt s (drop start bits) b c
  stands-dropped b c h = rw (drop-drop, h, further)

  stands-whole : (b : ℕ) (c : CodedDataSet) → StandsAt s (drop start bits) b c → StandsAt s bits (start + b) c
  stands-whole b c h = rw (← drop-drop, h, further)

  set-dropped : (t : Bool) (b : ℕ) (c : CodedDataSet) → IsSetAt s t bits (start + b) c → IsSetAt s t (drop start bits) b c
  set-dropped t b c at = record { shape = at.shape; stands = stands-dropped b c at.stands }

  set-whole : (t : Bool) (b : ℕ) (c : CodedDataSet) → IsSetAt s t (drop start bits) b c → IsSetAt s t bits (start + b) c
  set-whole t b c at = record { shape = at.shape; stands = stands-whole b c at.stands }

  next-dropped : (i b : ℕ) (c : CodedDataSet) → next_begin s bits i (start + b) c ≡ start + next_begin s (drop start bits) i b c
  next-dropped i b c =
      let e : start + b + length (cds_bits s c) ≡ start + (b + length (cds_bits s c)) = omega arith in
      rw (e, begin-dropped)

  -- ---- the way

  leads-dropped : (i b : ℕ) (sets : List CodedDataSet) (j e : ℕ) → LeadsTo s count limit bits i (start + b) sets j e
      → (f : ℕ) × (e ≡ start + f) × LeadsTo s count limit (drop start bits) i b sets j f
  leads-dropped i b [] j e leads = (b, leads.1, (leads.0, refl))
  leads-dropped i b (c ∷ sets) j e leads =
      let next = next_block s i c in
      let later = leads-dropped next (next_begin s (drop start bits) i b c) sets j e (rw next-dropped at leads.4) in
      (later.0, later.1, (sym (wanted-dropped count i b) ∙ leads.0, stands-dropped b c leads.1, leads.2, leads.3, later.2))

  pub from_start : (sets : List CodedDataSet) (j e : ℕ) → LeadsTo s count limit bits 0 start sets j e
      → (f : ℕ) × (e ≡ start + f) × LeadsTo s count limit (drop start bits) 0 0 sets j f
  from_start sets j e leads =
      let zero_more : start ≡ start + 0 = omega arith in
      leads-dropped 0 0 sets j e (rw zero_more at leads)

  blocks-dropped : (blocks : List Block) → IsBlockReading s count limit bits 0 start blocks → IsBlockReading s count limit (drop start bits) 0 0 blocks
  blocks-dropped blocks h =
      let led = from_start h.sets h.end_block h.end_bit h.leads in
      record {
        sets = h.sets;
        end_block = h.end_block;
        end_bit = led.0;
        leads = led.2;
        done = rw (← wanted-dropped, ← led.1) h.done;
        kept = h.kept;
      }

  pub reading-dropped : (samples : List ℤ) → IsReadFrom s count limit bits start samples → IsReading s count limit (drop start bits) samples
  reading-dropped samples h = record {
    blocks = h.blocks;
    read = blocks-dropped h.blocks h.read;
    all_samples = h.all_samples;
    filled = h.filled;
    counted = h.counted;
  }

  -- ---- a refusal

  unread-dropped : (t : Bool) (b : ℕ) (fault : Fault) → IsNotRead s t bits (start + b) fault
      → (alone : Fault) × IsNotRead s t (drop start bits) b alone × (fault ≡ fault_from start alone)
  unread-dropped t b fault (cut_short none) = (Truncated b, cut_short (λ c at. none c (set-whole t b c at)), refl)
  unread-dropped t b fault (too_large c at large) = (ValueTooLarge b, too_large c (set-dropped t b c at) large, refl)

  wrong-dropped : (i b : ℕ) (fault : Fault) → IsWrongAt s count limit bits i (start + b) fault
      → (alone : Fault) × IsWrongAt s count limit (drop start bits) i b alone × (fault ≡ fault_from start alone)
  wrong-dropped i b fault (not_read _ none) =
      let r = unread-dropped (is_reference_block s (i % s.interval)) b fault none in (r.0, not_read r.0 r.1, r.2)
  wrong-dropped i b fault (too_long c at small long) =
      (RunTooLong b, too_long c (set-dropped (is_reference_block s (i % s.interval)) b c at) small long, refl)
  wrong-dropped i b fault (too_many c at lawful past) =
      (TooManySamples limit, too_many c (set-dropped (is_reference_block s (i % s.interval)) b c at) lawful past, refl)

  fault-dropped : (fault : Fault) → IsFault s count limit bits 0 start fault
      → (alone : Fault) × IsFault s count limit (drop start bits) 0 0 alone × (fault ≡ fault_from start alone)
  fault-dropped fault h =
      let led = from_start h.sets h.block h.bit h.leads in
      let r = wrong-dropped h.block led.0 fault (rw led.1 at h.wrong) in (
        r.0,
        record {
          sets = h.sets;
          block = h.block;
          bit = led.0;
          leads = led.2;
          wanted = rw (← wanted-dropped, ← led.1) h.wanted;
          wrong = r.1;
        },
        r.2,
      )

  refusal-dropped : (fault : Fault) → RefusesReading s count limit bits 0 start fault
      → (alone : Fault) × RefusesReading s count limit (drop start bits) 0 0 alone × (fault ≡ fault_from start alone)
  refusal-dropped fault (no_memory h) =
      let led = from_start (h.sets ++ (h.last ∷ [])) h.block h.bit h.leads in
      (Memory, no_memory (record { sets = h.sets; last = h.last; block = h.block; bit = led.0; leads = led.2 }), refl)
  refusal-dropped fault (faulty f wrong) = let r = fault-dropped f wrong in (r.0, faulty r.0 r.1, r.2)

  pub decoding-dropped : (fault : Fault) → count_refusal limit count ≡ None → RefusesReading s count limit bits 0 start fault
      → RefusesDecodingAt s count limit bits start fault
  decoding-dropped fault none refuses =
      let r = refusal-dropped fault refuses in record { alone = r.0; refuses = unread r.0 none r.1; counted = r.2 }

-- ---- a count above the limit

count-from : (limit start : ℕ) (count : Option ℕ) (fault : Fault) → count_refusal limit count ≡ Some fault → fault ≡ fault_from start fault
count-from limit start None fault is = absurd (cc)
count-from limit start (Some n) fault is = by_test (nat_lt limit n) is
  where
    by_test : (t : Bool) → (if t then Some (TooManySamples limit) else None) ≡ Some fault → fault ≡ fault_from start fault
    by_test true e = let same : fault ≡ TooManySamples limit = cc in rw same
    by_test false e = absurd (cc)

pub count-refuses-at : {X : Type 0} (r : Result X Fault) (fault : Fault) (s : Settings) (count : Option ℕ) (limit start : ℕ) (bits : List Bool)
    → r ≡ Err fault → Some fault ≡ count_refusal limit count → IfErr r (λ fault. RefusesDecodingAt s count limit bits start fault)
count-refuses-at {X} r fault s count limit start bits is above =
    rw is (record { alone = fault; refuses = above_limit fault (sym above); counted = count-from limit start count fault (sym above) })

-- ---- by the result of the call

pub decoded-at : {X : Type 0} (items : X → List ℤ) (r : Result X Fault) (s : Settings) (count : Option ℕ) (limit start : ℕ) (bits : List Bool)
    → start ≤ length bits → (s.pad ≡ true → start % 8 ≡ 0) → None ≡ count_refusal limit count
    → IfOk r (λ x. IsReadFrom s count limit bits start (items x))
    → IfOk r (λ x. (count_refusal limit count ≡ None) × IsReading s count limit (drop start bits) (items x))
decoded-at items (Ok x) s count limit start bits within whole none read = (sym none, reading-dropped s count limit bits start within whole (items x) read)
decoded-at items (Err fault) s count limit start bits within whole none read = tt

pub refused-at : {X : Type 0} (r : Result X Fault) (s : Settings) (count : Option ℕ) (limit start : ℕ) (bits : List Bool)
    → start ≤ length bits → (s.pad ≡ true → start % 8 ≡ 0) → None ≡ count_refusal limit count
    → IfErr r (λ fault. RefusesReading s count limit bits 0 start fault) → IfErr r (λ fault. RefusesDecodingAt s count limit bits start fault)
refused-at (Ok x) s count limit start bits within whole none refuses = tt
refused-at (Err fault) s count limit start bits within whole none refuses = decoding-dropped s count limit bits start within whole fault (sym none) refuses
