-- The loop over the blocks of all intervals, step by step.
use Rattle.std.proofs.Common.{◌≡◌, ℕ, suc, ◌+◌, ◌-◌, ◌*◌, ◌%◌, ◌<◌, ◌≤◌, Bool, true, false, Option, None, ℤ, List, [], ◌∷◌, ◌++◌, length, take, drop, refl, sym, ap, ◌∙◌, arith, if◌then◌else◌, append-nil}
use Rattle.std.specs.Prelude.{slice_get}
use Rattle.std.specs.List.{AllByRecursion, last_or, flat_map}
use Rattle.std.proofs.Math.Seq.{take-nil, drop-nil, take-append-add, drop-append-add}
use Rattle.std.proofs.lemmas.List.{append_assoc, length-append, length-take, take_all, drop_all, take-append-le, drop-append-le, take-append-drop}
use Rattle.std.proofs.lemmas.Nat.{mul-le}
use Rattle.std.proofs.lemmas.List.Concat.{flat_map-append}
use Rattle.aec_params.specs.declared.settings.Settings.{Settings}
use Rattle.aec_params.specs.Params.{IsAllowed, IsHeld, interval_len}
use Rattle.aec_params.specs.Blocks.{Block}
use Rattle.aec_params.specs.Codewords.{padded_to_byte}
use Rattle.aec_params.specs.CodedDataSets.{cds_bits}
use Rattle.aec_params.specs.Intervals.{block_sets}
use Rattle.aec_params.specs.Streams.{stream_of}
use Rattle.aec_params.proofs.SettingLaws.{block_size-positive, interval-positive}
use Rattle.aec_interval.specs.declared.interval.pending_run.Run.{Run}
use Rattle.aec_interval.specs.Chunks.{block_after, blocks_after, HoldsPrevious}
use Rattle.aec_interval.specs.Pending.{pending_bits, segment_bits, bits_of_run, IsKept}
use Rattle.aec_interval.proofs.CuttingLemmas.{IsPieceBefore, first_piece, pieces_of-cons}
use Rattle.aec_interval.proofs.BlockLemmas.{all_left, all_right}
use Rattle.aec_interval.proofs.PendingLemmas.{pending-end, kept-append}
use Rattle.aec_interval.proofs.ChunkLemmas.{blocks_after-nil, blocks_after-cons}
use Rattle.aec_interval.proofs.SegmentLemmas.{holds_last, last_taken, kept-trans}
use Rattle.aec_interval.proofs.WholeLemmas.{stream_of-nil}
use Rattle.aec_interval.proofs.StreamLemmas.{stream_of-cons}

-- ---- pieces

piece_cut : {X : Type 0} (n l : ℕ) (front later : List X) → IsPieceBefore n front later → IsPieceBefore n front (take l later)
piece_cut n l front later piece =
    record { some = piece.some; fits = piece.fits; full = λ more. piece.full (omega (arith, length-take l later)) }

-- a piece is taken or dropped, and k elements more
take_piece : {X : Type 0} (n k : ℕ) (front later : List X) → IsPieceBefore n front later → take (n + k) (front ++ later) ≡ front ++ take k later
take_piece n k front [] piece = simp (append-nil, take-nil) (take_all (n + k) front (omega arith))
take_piece n k front (y ∷ later) piece = let e : length front ≡ n = piece.full (omega arith) in rw (← e) (take-append-add front (y ∷ later) k)

drop_piece : {X : Type 0} (n k : ℕ) (front later : List X) → IsPieceBefore n front later → drop (n + k) (front ++ later) ≡ drop k later
drop_piece n k front [] piece = simp (append-nil, drop-nil) (drop_all (n + k) front (omega arith))
drop_piece n k front (y ∷ later) piece = let e : length front ≡ n = piece.full (omega arith) in rw (← e) (drop-append-add front (y ∷ later) k)

-- ---- bits

-- an interval's bits, padded if the settings ask for it
abbrev closed : Settings → List Bool → List Bool
closed s bits = if s.pad then padded_to_byte bits else bits

closed-nil : (s : Settings) → closed s [] ≡ []
closed-nil s = by_pad s.pad
  where
    by_pad : (t : Bool) → (if t then padded_to_byte [] else []) ≡ []
    by_pad true = refl
    by_pad false = refl

-- the bits of blocks from the start of a segment on
abbrev sets_bits : Settings → List Block → List Bool
sets_bits s blocks = flat_map (cds_bits s) (block_sets s blocks)

-- the bits of a run and of the blocks after it; the first m blocks belong to the run's segment
abbrev bits_left : Settings → ℕ → Run → List Block → List Bool
bits_left s m run blocks = pending_bits s run (take m blocks) ++ sets_bits s (drop m blocks)

abbrev no_run : Run
no_run = record { reference = None; blocks = 0 }

first_segment : (s : Settings) (front rest whole : List Block) → front ++ rest ≡ whole → IsPieceBefore 64 front rest
    → sets_bits s whole ≡ segment_bits s front ++ sets_bits s rest
first_segment s front rest whole e piece = rw (← e, pieces_of-cons, flat_map-append)

-- at the start of a segment there is no run, and the segment has up to 64 blocks
sets_bits-segment : (s : Settings) (blocks : List Block) → sets_bits s blocks ≡ bits_left s 64 no_run blocks
sets_bits-segment s [] = rw (drop-nil 64, take-nil 64)
sets_bits-segment s (b ∷ blocks) = segment_first s (b ∷ blocks) (omega arith)
  where
    segment_first : (s : Settings) (blocks : List Block) → 0 < length blocks → sets_bits s blocks ≡ bits_left s 64 no_run blocks
    segment_first s blocks some =
        first_segment s (take 64 blocks) (drop 64 blocks) blocks (take-append-drop 64 blocks) (first_piece 64 blocks (omega arith) some)

-- ---- the state of the loop

-- `new` is written, and the code of `rest` will complete it to `whole`: a run is still to be
-- written, its segment takes m blocks more, and the interval, whose bits begin at `start`, l
-- samples more
pub record StreamAt (s : Settings) (m l : ℕ) (o : Option ℤ) (run : Run) (start : ℕ) (old new whole : List Bool) (rest : List ℤ) : Type 0 where
  pub previous_held : HoldsPrevious s o
  pub held : AllByRecursion (IsHeld s) rest
  pub within : start ≤ length new
  pub kept : IsKept old new
  pub bits : take start new ++ (closed s (drop start new ++ bits_left s m run (blocks_after s o (take l rest))) ++ stream_of s (drop l rest)) ≡ whole

-- bits are written, after which u is left instead of t
replaced : (s : Settings) (start : ℕ) (new newer t u later whole : List Bool) → start ≤ length new → IsKept new newer → newer ++ u ≡ new ++ t
    → take start new ++ (closed s (drop start new ++ t) ++ later) ≡ whole → take start newer ++ (closed s (drop start newer ++ u) ++ later) ≡ whole
replaced s start new newer t u later whole within kept written before =
    let more = drop (length new) newer in
    let split : newer ≡ new ++ more = cc (take-append-drop (length new) newer) in
    let longer : start ≤ length newer = grind (arith, length-append) in
    let front : take start newer ≡ take start new = rw (split, take-append-le) in
    let behind : drop start newer ++ u ≡ drop start new ++ t = rw (← drop-append-le, written, drop-append-le) in
    rw (front, behind) before

within_newer : (start : ℕ) (new newer : List Bool) → start ≤ length new → IsKept new newer → start ≤ length newer
within_newer start new newer within kept = grind (arith, length-take)

-- a block is written, or joins the run
at-block : (s : Settings) (m l k n : ℕ) {o : Option ℤ} {run next : Run} {start : ℕ} {old new newer whole : List Bool} {rest chunk later : List ℤ}
    → 0 < s.block_size → k ≡ suc m → l ≡ s.block_size + n → StreamAt s k l o run start old new whole rest → rest ≡ chunk ++ later
    → IsPieceBefore s.block_size chunk later → IsKept new newer
    → ((blocks : List Block) → newer ++ pending_bits s next blocks ≡ new ++ pending_bits s run (block_after s o chunk ∷ blocks))
    → StreamAt s m n (last_or o chunk) next start old newer whole later
at-block s m l k n {o} {run} {next} {start} {old} {new} {newer} {whole} {rest} {chunk} {later} h is_k is_l at e piece kept written = record {
  previous_held = holds_last s o chunk at.previous_held (all_left (IsHeld s) chunk later held);
  held = all_right (IsHeld s) chunk later held;
  within = within_newer start new newer at.within kept;
  kept = kept-trans old new newer at.kept kept;
  bits = replaced s start new newer (bits_left s k run (b ∷ bs)) (bits_left s m next bs) (stream_of s (drop n later)) whole at.within kept moved before;
}
  where
    held : AllByRecursion (IsHeld s) (chunk ++ later)
    held = rw e at at.held

    b : Block
    b = block_after s o chunk

    bs : List Block
    bs = blocks_after s (last_or o chunk) (take n later)

    blocks : blocks_after s o (take l rest) ≡ b ∷ bs
    blocks = rw (e, is_l, take_piece) (blocks_after-cons s o chunk (take n later) h (piece_cut s.block_size n chunk later piece))

    behind : drop l rest ≡ drop n later
    behind = rw (e, is_l) (drop_piece s.block_size n chunk later piece)

    before : take start new ++ (closed s (drop start new ++ bits_left s k run (b ∷ bs)) ++ stream_of s (drop n later)) ≡ whole
    before = rw (← blocks, ← behind) at.bits

    moved : newer ++ bits_left s m next bs ≡ new ++ bits_left s k run (b ∷ bs)
    moved = rw (← append_assoc, written, append_assoc, is_k)

-- the segment has no blocks left
pub none_of_segment : (s : Settings) (m : ℕ) (run : Run) (blocks : List Block) → m ≡ 0
    → bits_left s m run blocks ≡ pending_bits s run [] ++ sets_bits s blocks
none_of_segment s m run blocks e = rw e

pub none_of_interval : (s : Settings) (m l : ℕ) (o : Option ℤ) (run : Run) (rest : List ℤ) → 0 < s.block_size → take l rest ≡ []
    → bits_left s m run (blocks_after s o (take l rest)) ≡ pending_bits s run [] ++ sets_bits s (blocks_after s o (take l rest))
none_of_interval s m l o run rest h e =
    let none : blocks_after s o (take l rest) ≡ [] = rw (e, blocks_after-nil) in
    rw (none, take-nil, drop-nil)

-- at the end of a segment, its run is written
pub at-segment_end : {s : Settings} {m l : ℕ} {o : Option ℤ} {run : Run} {start : ℕ} {old new newer whole : List Bool} {rest : List ℤ}
    → StreamAt s m l o run start old new whole rest
    → bits_left s m run (blocks_after s o (take l rest)) ≡ pending_bits s run [] ++ sets_bits s (blocks_after s o (take l rest))
    → newer ≡ new ++ bits_of_run s run.reference run.blocks true
    → StreamAt s 64 l o no_run start old newer whole rest
at-segment_end {s} {m} {l} {o} {run} {start} {old} {new} {newer} {whole} {rest} at ended written = record {
  previous_held = at.previous_held;
  held = at.held;
  within = within_newer start new newer at.within kept;
  kept = kept-trans old new newer at.kept kept;
  bits = replaced s start new newer (bits_left s m run bs) (bits_left s 64 no_run bs) (stream_of s (drop l rest)) whole at.within kept moved at.bits;
}
  where
    bs : List Block
    bs = blocks_after s o (take l rest)

    last : List Bool
    last = bits_of_run s run.reference run.blocks true

    kept : IsKept new newer
    kept = kept-append new last newer written

    moved : newer ++ bits_left s 64 no_run bs ≡ new ++ bits_left s m run bs
    moved = rw (← sets_bits-segment, written, append_assoc, ended, pending-end)

-- an interval is closed
pub at-interval_end : (s : Settings) (m l : ℕ) (o : Option ℤ) (start : ℕ) (old new newer whole : List Bool) (rest : List ℤ) → 0 < s.block_size
    → StreamAt s m l o no_run start old new whole rest → take l rest ≡ [] → drop l rest ≡ rest → newer ≡ take start new ++ closed s (drop start new)
    → newer ++ stream_of s rest ≡ whole
at-interval_end s m l o start old new newer whole rest h at none all written =
    let empty : blocks_after s o (take l rest) ≡ [] = rw (none, blocks_after-nil) in
    let spent : drop start new ++ bits_left s m no_run (blocks_after s o (take l rest)) ≡ drop start new =
    rw (empty, take-nil, drop-nil) (append-nil (drop start new)) in
    rw (written, append_assoc) (rw (spent, all) at at.bits)

-- the next interval begins
stream_opened : (s : Settings) (rest : List ℤ) → 0 < s.block_size → 0 < interval_len s
    → stream_of s rest
    ≡ closed s (bits_left s 64 no_run (blocks_after s None (take (interval_len s) rest))) ++ stream_of s (drop (interval_len s) rest)
stream_opened s [] h some =
    stream_of-nil s some ∙ sym (rw (← sets_bits-segment, take-nil, blocks_after-nil s None, drop-nil, stream_of-nil, closed-nil))
stream_opened s (x ∷ xs) h some =
    let n = interval_len s in
    let rest = x ∷ xs in
    ap (stream_of s) (sym (take-append-drop n rest)) ∙ stream_of-cons s (take n rest) (drop n rest) (first_piece n rest some (omega arith))
    ∙ ap (λ bits. closed s bits ++ stream_of s (drop n rest)) (sets_bits-segment s (blocks_after s None (take n rest)))

pub at-start : (s : Settings) (m l start : ℕ) (old new whole : List Bool) (rest : List ℤ) → 0 < s.block_size → 0 < interval_len s → m ≡ 64
    → l ≡ interval_len s → start ≡ length new → AllByRecursion (IsHeld s) rest → IsKept old new → new ++ stream_of s rest ≡ whole
    → StreamAt s m l None no_run start old new whole rest
at-start s m l start old new whole rest h some is_m is_l is_start held kept left =
    rw (is_m, is_l, is_start) (record {
      previous_held = tt;
      held = held;
      within = omega arith;
      kept = kept;
      bits = rw (take_all (length new) new (omega arith), drop_all (length new) new (omega arith), ← stream_opened) left;
    })

-- ---- the loop's own numbers

next_left : (j i p : ℕ) → p < i → j * (i - p) ≡ j + j * (i - (p + 1))
next_left j i p inside =
    let step : i - p ≡ (i - (p + 1)) + 1 = omega arith in
    omega (arith, ap (λ n. j * n) step)

pub at-next : (s : Settings) (place : ℕ) {o : Option ℤ} {run next : Run} {start : ℕ} {old new newer whole : List Bool} {rest chunk later : List ℤ}
    → 0 < s.block_size → place < s.interval → StreamAt s (64 - place % 64) (s.block_size * (s.interval - place)) o run start old new whole rest
    → rest ≡ chunk ++ later → IsPieceBefore s.block_size chunk later → IsKept new newer
    → ((blocks : List Block) → newer ++ pending_bits s next blocks ≡ new ++ pending_bits s run (block_after s o chunk ∷ blocks))
    → StreamAt s (63 - place % 64) (s.block_size * (s.interval - (place + 1))) (last_or o chunk) next start old newer whole later
at-next s place h inside at e piece kept written =
    at-block s (63 - place % 64) (s.block_size * (s.interval - place)) (64 - place % 64) (s.block_size * (s.interval - (place + 1)))
    h (omega arith) (next_left s.block_size s.interval place inside) at e piece kept written

-- the segment goes on, or the next one begins
pub at-inside : (s : Settings) (place : ℕ) (o : Option ℤ) (chunk : List ℤ) {m : ℕ} {p : Option ℤ} {run : Run} {start : ℕ} {old new whole : List Bool}
    {later : List ℤ} → 0 < length chunk → m ≡ 64 - (place + 1) % 64 → p ≡ slice_get chunk (length chunk - 1)
    → StreamAt s m (s.block_size * (s.interval - (place + 1))) (last_or o chunk) run start old new whole later
    → StreamAt s (64 - (place + 1) % 64) (s.block_size * (s.interval - (place + 1))) p run start old new whole later
at-inside s place o chunk some is_m last at = rw (last, last_taken o, ← is_m) at

-- the last run of an interval is written, and the interval is closed
pub at-closed : {s : Settings} {m l : ℕ} {o : Option ℤ} {run : Run} {start : ℕ} {old new middle newer whole : List Bool} {rest : List ℤ}
    → 0 < s.block_size → StreamAt s m l o run start old new whole rest → take l rest ≡ [] → drop l rest ≡ rest
    → middle ≡ new ++ bits_of_run s run.reference run.blocks true
    → newer ≡ take start middle ++ (if s.pad then padded_to_byte (drop start middle) else drop start middle)
    → newer ++ stream_of s rest ≡ whole
at-closed {s} {m} {l} {o} {run} {start} {old} {new} {middle} {newer} {whole} {rest} h at none all written padded =
    at-interval_end s 64 l o start old middle newer whole rest h (at-segment_end at (none_of_interval s m l o run rest h none) written) none all padded

pub none_left : (j i p : ℕ) (xs : List ℤ) → i ≤ p → (take (j * (i - p)) xs ≡ []) × (drop (j * (i - p)) xs ≡ xs)
none_left j i p xs past = grind arith

interval_some : (s : Settings) → 0 < s.block_size → 0 < s.interval → 0 < interval_len s
interval_some s h some = omega (arith, mul-le 1 1 s.block_size s.interval (omega arith) (omega arith))

-- the end of the samples
pub at-last : {s : Settings} {m l : ℕ} {o : Option ℤ} {run : Run} {start : ℕ} {old new middle newer whole : List Bool} {rest : List ℤ}
    → 0 < s.block_size → 0 < s.interval → StreamAt s m l o run start old new whole rest → rest ≡ []
    → middle ≡ new ++ bits_of_run s run.reference run.blocks true
    → newer ≡ take start middle ++ (if s.pad then padded_to_byte (drop start middle) else drop start middle)
    → newer ≡ whole
at-last {s} {l = l} {newer = newer} {rest = rest} h some at e written padded =
    let none : take l rest ≡ [] = rw e (take-nil l) in
    let all : drop l rest ≡ rest = rw e (drop-nil l) in
    let code : stream_of s rest ≡ [] = rw e (stream_of-nil s (interval_some s h some)) in
    sym (append-nil newer) ∙ (rw code at (at-closed h at none all written padded))

-- the beginning of an interval
pub at-first : (s : Settings) → IsAllowed s → {start : ℕ} {old new whole : List Bool} {rest : List ℤ} → start ≡ length new → IsKept old new
    → AllByRecursion (IsHeld s) rest → new ++ stream_of s rest ≡ whole
    → StreamAt s (64 - 0 % 64) (s.block_size * (s.interval - 0)) None no_run start old new whole rest
at-first s allowed {start} {old} {new} {whole} {rest} is kept held left =
    let positive = block_size-positive s allowed in
    at-start s (64 - 0 % 64) (s.block_size * (s.interval - 0)) start old new whole rest positive (interval_some s positive (interval-positive s allowed))
    (omega arith) (ap (λ n. s.block_size * n) (omega arith)) is held kept left
