-- Pieces that are fed one after the other are like one piece.
use Rattle.std.proofs.Common.{◌≡◌, ℕ, ◌+◌, ◌/◌, ◌<◌, Bool, Option, Some, None, ℤ, List, ◌++◌, length, refl, ◌∙◌, arith, append_assoc}
use Rattle.std.proofs.lemmas.List.{length-append}
use Rattle.aec_params.specs.declared.settings.Settings.{Settings}
use Rattle.aec_params.specs.declared.fault.Fault.{Fault}
use Rattle.aec_params.specs.declared.fault.Fault.TheVariants.{Memory}
use Rattle.aec_params.specs.Params.{IsAllowed, interval_len, storage_len}
use Rattle.aec_params.specs.Stored.{byte_groups}
use Rattle.aec_params.proofs.StoredLemmas.{storage-least}
use Rattle.aec_params.proofs.SampleLaws.{interval_len-positive}
use Rattle.aec_interval.specs.Feeding.{Coder, whole_front, left_behind, taken_of, samples_with, fed, fed_bits, Feeds, StopsFeeding, refused, no_memory}
use Rattle.aec_interval.proofs.PieceLemmas.{whole_and_left, length-whole_front, whole_front-append, left_behind-append, stream_of-append, byte_groups-append}
use Rattle.aec_interval.proofs.TakingLemmas.{taken_behind, taken_groups-append, taken_groups-refused}

-- ---- what two pieces complete

-- the groups of both pieces
groups_of_both : (c : Coder) (p q : List ℕ) → IsAllowed c.settings
    → byte_groups c.settings (c.rest ++ (p ++ q)) ≡ byte_groups c.settings (c.rest ++ p) ++ byte_groups c.settings ((fed c p).rest ++ q)
groups_of_both c p q a = rw (← append_assoc, byte_groups-append)

pub taken_of-append : (c : Coder) (p q : List ℕ) → IsAllowed c.settings → (taken_of c p).refusal ≡ None
    → taken_of c (p ++ q) ≡ taken_behind (taken_of c p) (taken_of (fed c p) q)
taken_of-append c p q a none =
    rw groups_of_both (taken_groups-append c.settings c.limit c.count (fed c p).count (byte_groups c.settings (c.rest ++ p))
    (byte_groups c.settings ((fed c p).rest ++ q)) none refl)

pub taken_of-refused : (c : Coder) (p q : List ℕ) (fault : Fault) → IsAllowed c.settings → (taken_of c p).refusal ≡ Some fault
    → taken_of c (p ++ q) ≡ taken_of c p
taken_of-refused c p q fault a refusal =
    rw groups_of_both (taken_groups-refused c.settings c.limit c.count (byte_groups c.settings (c.rest ++ p))
    (byte_groups c.settings ((fed c p).rest ++ q)) fault refusal)

length-taken : (c : Coder) (p q : List ℕ) → IsAllowed c.settings → (taken_of c p).refusal ≡ None
    → length (taken_of c (p ++ q)).samples ≡ length (taken_of c p).samples + length (taken_of (fed c p) q).samples
length-taken c p q a none = rw taken_of-append (length-append (taken_of c p).samples (taken_of (fed c p) q).samples)

samples_with-append : (c : Coder) (p q : List ℕ) → IsAllowed c.settings → (taken_of c p).refusal ≡ None
    → samples_with c (p ++ q) ≡ samples_with c p ++ (taken_of (fed c p) q).samples
samples_with-append c p q a none = rw (taken_of-append, append_assoc)

fed_bits-append : (c : Coder) (p q : List ℕ) → IsAllowed c.settings → (taken_of c p).refusal ≡ None
    → fed_bits c (p ++ q) ≡ fed_bits c p ++ fed_bits (fed c p) q
fed_bits-append c p q a none =
    let s = c.settings in
    let n = interval_len s in
    let some : 0 < n = interval_len-positive s a in
    rw (samples_with-append, whole_front-append) (stream_of-append s (length (samples_with c p) / n) (whole_front n (samples_with c p))
    (whole_front n (samples_with (fed c p) q)) a (length-whole_front n (samples_with c p) some))

-- a coder by its parts
abbrev pub coding_of : Settings → ℕ → List ℤ → List ℕ → ℕ → Option Fault → Coder
coding_of s limit held rest count refusal = record { settings = s; limit = limit; held = held; rest = rest; count = count; refusal = refusal }

pub same_coding : (s : Settings) (limit : ℕ) (h k : List ℤ) (r t : List ℕ) (m n : ℕ) (f g : Option Fault) → h ≡ k → r ≡ t → m ≡ n → f ≡ g
    → coding_of s limit h r m f ≡ coding_of s limit k t n g
same_coding s limit h k r t m n f g held rest count refusal = rw (held, rest, count, refusal)

pub fed-append : (c : Coder) (p q : List ℕ) → IsAllowed c.settings → (taken_of c p).refusal ≡ None → fed (fed c p) q ≡ fed c (p ++ q)
fed-append c p q a none =
    let s = c.settings in
    let taken = taken_of-append c p q a none in
    let some : 0 < storage_len s = omega (arith, storage-least) in
    same_coding s c.limit (fed (fed c p) q).held (fed c (p ++ q)).held (fed (fed c p) q).rest (fed c (p ++ q)).rest (fed (fed c p) q).count
    (fed c (p ++ q)).count (fed (fed c p) q).refusal (fed c (p ++ q)).refusal
    (rw (samples_with-append, left_behind-append (interval_len s) (samples_with c p) (taken_of (fed c p) q).samples (interval_len-positive s a)))
    (rw (← left_behind-append, append_assoc)) (omega (arith, length-taken)) (rw taken)

-- ---- one piece after another

bits_of_both : (c : Coder) (p q : List ℕ) (b0 b1 b2 : List Bool) → IsAllowed c.settings → (taken_of c p).refusal ≡ None
    → b1 ≡ b0 ++ fed_bits c p → b2 ≡ b1 ++ fed_bits (fed c p) q → b2 ≡ b0 ++ fed_bits c (p ++ q)
bits_of_both c p q b0 b1 b2 a none e f = rw (f, e, append_assoc, fed_bits-append)

pub feeds_both : (c d e : Coder) (p q : List ℕ) (b0 b1 b2 : List Bool) → IsAllowed c.settings → Feeds c p b0 b1 d → Feeds d q b1 b2 e
    → Feeds c (p ++ q) b0 b2 e
feeds_both c d e p q b0 b1 b2 a first second =
    let next = rw first.coder at second in
    record {
      taken = rw (taken_of-append c p q a first.taken) next.taken;
      bits = bits_of_both c p q b0 b1 b2 a first.taken first.bits next.bits;
      coder = next.coder ∙ fed-append c p q a first.taken;
    }

-- a refusal of the second piece is a refusal of both pieces as one
stops_next : (c : Coder) (p q : List ℕ) (b0 b1 b2 : List Bool) (fault : Fault) → IsAllowed c.settings → (taken_of c p).refusal ≡ None
    → b1 ≡ b0 ++ fed_bits c p → StopsFeeding (fed c p) q b1 b2 fault → StopsFeeding c (p ++ q) b0 b2 fault
stops_next c p q b0 b1 b2 fault a none bits (refused f refusal e) = refused f (rw taken_of-append refusal) (bits_of_both c p q b0 b1 b2 a none bits e)
stops_next c p q b0 b1 b2 fault a none bits (no_memory k front behind cut whole left some e) =
    let s = c.settings in
    let n = interval_len s in
    let xs = samples_with c p in
    let w = whole_front n xs in
    let l = length-whole_front n xs (interval_len-positive s a) in
    no_memory (length xs / n + k) (w ++ front) behind (cc (
      samples_with-append c p q a none,
      whole_and_left n xs,
      append_assoc w (left_behind n xs) (taken_of (fed c p) q).samples,
      append_assoc w front behind,
    ))
    (omega (arith, length-append w front)) left (omega (arith, length-taken c p q a none))
    (rw (e, bits, append_assoc, stream_of-append s (length xs / n)))

pub stops_later : (c d : Coder) (p q : List ℕ) (b0 b1 b2 : List Bool) (fault : Fault) → IsAllowed c.settings → Feeds c p b0 b1 d
    → StopsFeeding d q b1 b2 fault → StopsFeeding c (p ++ q) b0 b2 fault
stops_later c d p q b0 b1 b2 fault a first stops = stops_next c p q b0 b1 b2 fault a first.taken first.bits (rw first.coder at stops)

-- the refusal of a piece stays the same, whatever bytes follow
pub stops_before : (c : Coder) (p q : List ℕ) (b0 b1 : List Bool) (fault : Fault) → IsAllowed c.settings → StopsFeeding c p b0 b1 fault
    → StopsFeeding c (p ++ q) b0 b1 fault
stops_before c p q b0 b1 fault a (refused f refusal e) =
    let same = taken_of-refused c p q f a refusal in
    refused f (rw same refusal) (rw (e, same))
stops_before c p q b0 b1 fault a (no_memory k front behind cut whole left some e) = more (taken_of c p).refusal refl
  where
    more : (o : Option Fault) → (taken_of c p).refusal ≡ o → StopsFeeding c (p ++ q) b0 b1 Memory
    more None none =
        no_memory k front (behind ++ (taken_of (fed c p) q).samples) (rw (samples_with-append, cut, append_assoc)) whole
        (omega (arith, length-append behind (taken_of (fed c p) q).samples)) (omega (arith, length-taken c p q a none)) e
    more (Some f) refusal =
        no_memory k front behind (rw (taken_of-refused c p q f) cut) whole left (grind (arith, taken_of-refused c p q f a refusal)) e
