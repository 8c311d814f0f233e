-- Skipped values: only their length counts if no value can be too large, and only the high parts of
-- split values are checked.
use Rattle.std.proofs.Common.{◌≡◌, ℕ, zero, suc, ◌+◌, ◌-◌, ◌*◌, ◌/◌, ◌^◌, ◌<◌, ◌≤◌, Bool, true, false, Option, Some, None, Result, Ok, Err, List, [], ◌∷◌, length, take, drop, refl, sym, ap, ◌∙◌, subst, inl, inr, arith}
use Rattle.std.specs.Option.{is_some}
use Rattle.std.specs.Prelude.{OnOk, IfOk, MatchResult}
use Rattle.std.proofs.lemmas.Bool.{cases_Bool, le-leb, lt-ltb}
use Rattle.std.proofs.lemmas.List.{length-append, length-drop, drop-drop}
use Rattle.std.specs.List.{flat_map}
use Rattle.std.proofs.lemmas.Nat.{pow_pos}
use Rattle.aec_params.specs.declared.settings.Settings.{Settings}
use Rattle.aec_params.specs.declared.fault.Fault.{Fault}
use Rattle.aec_params.specs.declared.fault.Fault.TheVariants.{Truncated}
use Rattle.aec_params.specs.Params.{id_len}
use Rattle.aec_params.specs.Codewords.{fs, binary, bits_number}
use Rattle.aec_params.specs.CodedDataSets.{written_count}
use Rattle.aec_bits.specs.BitReader.{Cursor, AreBelow, behind_ones}
use Rattle.aec_bits.proofs.OnesLemmas.{further-some, further-none}
use Rattle.aec_params.proofs.CodewordLaws.{length-fs}
use Rattle.aec_block.specs.declared.cds.RunLen.{RunLen}
use Rattle.aec_block.specs.declared.cds.RunLen.TheVariants.{Blocks}
use Rattle.aec_block.specs.declared.reading.Kind.{Kind}
use Rattle.aec_block.specs.declared.reading.Kind.TheVariants.{NoCompression, Split}
use Rattle.aec_block.specs.ReadAt.{Taken, nothing, taken, map_taken, fs_at, binary_at, values_at, joined_values, split_at, kind_at, reference_at, body_at, cds_at}
use Rattle.aec_block.specs.Gathering.{bits_at, as_taken, no_values, when, all_below}
use Rattle.aec_block.specs.SkipCds.{judged_len, judged_body_len}
use Rattle.aec_block.proofs.CodewordLemmas.{cases_taken, then_at-passed, map_taken-mapped, binary_reader, fs_reader, values_at-spelled}
use Rattle.aec_block.proofs.CursorLemmas.{values_at-missing}
use Rattle.aec_block.proofs.StandingLemmas.{unmapped}
use Rattle.aec_block.proofs.SingleLemmas.{set_told}
use Rattle.aec_block.proofs.JoiningLemmas.{below-from_test, test-from_below, highs_below, joined_below, high_fails}

-- ---- numbers that aren't checked

none_kept : (f : List ℕ → List ℕ) (t : Taken (List ℕ)) → map_taken no_values (map_taken f t) ≡ map_taken no_values t
none_kept f nothing = refl
none_kept f (taken values rest) = refl

values_gone_over : (w n : ℕ) (bits : List Bool) → w * n ≤ length bits → map_taken no_values (values_at (binary_at w) n bits) ≡ taken tt (drop (w * n) bits)
values_gone_over w zero bits enough = let none : 0 ≡ w * 0 = omega arith in ap (λ m. taken tt (drop m bits)) none
values_gone_over w (suc n) bits enough =
    let first : w ≤ length bits = omega arith in
    let left : w * n ≤ length (drop w bits) = omega (arith, length-drop w bits) in
    let all : w + w * n ≡ w * suc n = omega arith in
    rw (le-leb w (length bits) first) (
    none_kept (λ values. bits_number (take w bits) ∷ values) (values_at (binary_at w) n (drop w bits))
    ∙ (values_gone_over w n (drop w bits) left ∙ ap (taken tt) (drop-drop (w * n) w bits ∙ ap (λ m. drop m bits) all)))

pub numbers_gone_over : (w n m : ℕ) (old new : Cursor) (result : Result (Unit {0}) Fault) → m ≡ w * n → OnOk result (new.pos ≡ old.pos + m)
    → MatchResult result (λ _. old.pos + m ≤ length old.list) (λ e. (length old.list < old.pos + m) × (e ≡ Truncated old.pos))
    → old.pos ≤ length old.list → new.list ≡ old.list
    → map_taken no_values (values_at (binary_at w) n (bits_at old)) ≡ as_taken result (bits_at new)
numbers_gone_over w n m old new (Ok v) count moves refuses inside same =
    rw (same, moves) (values_gone_over w n (bits_at old) (omega (arith, length-drop old.pos old.list))
    ∙ ap (taken tt) (drop-drop (w * n) old.pos old.list ∙ ap (λ k. drop (old.pos + k) old.list) (sym count)))
numbers_gone_over w n m old new (Err e) count moves refuses inside same =
    ap (map_taken no_values) (values_at-missing w n (bits_at old) (omega (arith, length-drop old.pos old.list, refuses.0)))

-- ---- high parts found by their 1 bits

abbrev pub total : List ℕ → ℕ
total [] = 0
total (v ∷ values) = v + total values

pub record AreCounted (n gone : ℕ) (bits : List Bool) : Type 0 where
  pub numbers : List ℕ
  pub read : values_at fs_at n bits ≡ taken numbers (drop gone bits)
  pub sum : total numbers + n ≡ gone

read_behind_zero : (n v : ℕ) (values : List ℕ) (bits behind rest : List Bool) → fs_at bits ≡ taken v behind → values_at fs_at n behind ≡ taken values rest
    → values_at fs_at (suc n) (false ∷ bits) ≡ taken ((v + 1) ∷ values) rest
read_behind_zero n v values bits behind rest first later = rw (first, later) refl

one_zero_more : (n gone : ℕ) (bits : List Bool) → AreCounted (suc n) gone bits → AreCounted (suc n) (suc gone) (false ∷ bits)
one_zero_more n gone bits r =
    let p = then_at-passed (fs_at bits) (λ v rest. map_taken (λ values. v ∷ values) (values_at fs_at n rest)) r.numbers (drop gone bits) r.read in
    let q = map_taken-mapped (λ values. p.value ∷ values) (values_at fs_at n p.behind) r.numbers (drop gone bits) p.after in
    record {
      numbers = (p.value + 1) ∷ q.value;
      read = read_behind_zero n p.value q.value bits p.behind (drop gone bits) p.before q.before;
      sum = omega (arith, r.sum, ap total q.after);
    }

ones_counted : (n gone : ℕ) (bits : List Bool) → behind_ones n bits ≡ Some gone → AreCounted n gone bits
ones_counted zero gone bits e = let none : 0 ≡ gone = cc in rw (← none) (record { numbers = []; read = refl; sum = omega arith })
ones_counted (suc n) gone [] e = absurd (cc)
ones_counted (suc n) gone (true ∷ bits) e =
    let f = further-some 1 (behind_ones n bits) gone e in
    let r = ones_counted n f.before bits f.is in
    let next : gone ≡ suc f.before = omega (arith, f.sum) in
    rw next (record { numbers = 0 ∷ r.numbers; read = rw r.read refl; sum = omega (arith, r.sum) })
ones_counted (suc n) gone (false ∷ bits) e =
    let f = further-some 1 (behind_ones (suc n) bits) gone e in
    let next : gone ≡ suc f.before = omega (arith, f.sum) in
    rw next (one_zero_more n f.before bits (ones_counted (suc n) f.before bits f.is))

missing_behind_zero : (n : ℕ) (bits : List Bool) → values_at fs_at (suc n) bits ≡ nothing → values_at fs_at (suc n) (false ∷ bits) ≡ nothing
missing_behind_zero n bits none =
    elim (cases_taken (fs_at bits)) [
      | inl missing ↦ rw missing refl
      | inr read ↦
          let later : map_taken (λ values. read.0 ∷ values) (values_at fs_at n read.1.0) ≡ nothing = rw read.1.1 at none in
          rw (read.1.1, unmapped (λ values. read.0 ∷ values) (values_at fs_at n read.1.0) later) refl
    ]

pub ones_missing : (n : ℕ) (bits : List Bool) → behind_ones n bits ≡ None → values_at fs_at n bits ≡ nothing
ones_missing zero bits e = absurd (cc)
ones_missing (suc n) [] e = refl
ones_missing (suc n) (true ∷ bits) e = rw (ones_missing n bits (further-none 1 (behind_ones n bits) e)) refl
ones_missing (suc n) (false ∷ bits) e =
    missing_behind_zero n bits (ones_missing (suc n) bits (further-none 1 (behind_ones (suc n) bits) e))

-- if the sum of numbers is below a limit, each number is
below-total : (limit : ℕ) (numbers : List ℕ) → total numbers < limit → all_below limit numbers ≡ true
below-total limit [] small = refl
below-total limit (v ∷ numbers) small = rw (lt-ltb v limit (omega arith), below-total limit numbers (omega arith)) refl

-- the length of fundamental sequences: the sum of their numbers, plus one for each
length-sequences : (numbers : List ℕ) → length (flat_map fs numbers) ≡ total numbers + length numbers
length-sequences [] = refl
length-sequences (v ∷ numbers) =
    omega (arith, length-append (fs v) (flat_map fs numbers), length-fs v, length-sequences numbers)

pub short-below : (limit gone : ℕ) (numbers : List ℕ) → gone ≡ length (flat_map fs numbers) → gone < limit + length numbers → all_below limit numbers ≡ true
short-below limit gone numbers is short = below-total limit numbers (omega (arith, is, short, length-sequences numbers))

pub small_sum : (n gone limit : ℕ) (old new : Cursor) → behind_ones n (bits_at old) ≡ Some gone → new.pos ≡ old.pos + gone → new.list ≡ old.list
    → gone < limit + n → map_taken (all_below limit) (values_at fs_at n (bits_at old)) ≡ taken true (bits_at new)
small_sum n gone limit old new found moves same small =
    let r = ones_counted n gone (bits_at old) found in
    rw (same, moves, ← drop-drop gone old.pos old.list, r.read)
    (ap (λ b. taken b (drop gone (bits_at old))) (below-total limit r.numbers (omega (arith, r.sum))))

-- ---- split values

-- if k is at most n, the high parts alone decide whether the values are small
judged_by_highs : (bits k n : ℕ) (highs lows : List ℕ) → k ≤ bits → AreBelow (2 ^ k) lows → length highs ≡ length lows
    → all_below (2 ^ bits) (joined_values k highs lows) ≡ all_below ((2 ^ bits - 1) / 2 ^ k + 1) highs
judged_by_highs bits k n highs lows within below same =
    let limit : ℕ = (2 ^ bits - 1) / 2 ^ k + 1 in
    elim (cases_Bool (all_below limit highs)) [
      | inl small ↦
          let highs_small = highs_below bits k (2 ^ bits) highs within (pow_pos bits) (omega arith) (below-from_test limit highs small) in
          test-from_below (2 ^ bits) (joined_values k highs lows) (joined_below bits k highs lows within highs_small below) ∙ sym small
      | inr large ↦ high_fails (2 ^ bits) k highs lows (pow_pos bits) same large ∙ sym large
    ]

pub split_gone_over : (bits limit high_limit k n : ℕ) (start middle rest : List Bool) (fit : Bool) → limit ≡ 2 ^ bits → high_limit ≡ (limit - 1) / 2 ^ k + 1
    → k ≤ bits → map_taken (all_below high_limit) (values_at fs_at n start) ≡ taken fit middle
    → map_taken no_values (values_at (binary_at k) n middle) ≡ taken tt rest → map_taken (all_below (2 ^ bits)) (split_at k n start) ≡ taken fit rest
split_gone_over bits limit high_limit k n start middle rest fit is_limit is_high_limit within high_read low_read =
    let highs = map_taken-mapped (all_below high_limit) (values_at fs_at n start) fit middle high_read in
    let lows = map_taken-mapped no_values (values_at (binary_at k) n middle) tt rest low_read in
    let highs_spelled = values_at-spelled fs (λ v. Unit {0}) fs_at fs_reader n start highs.value middle highs.before in
    let lows_spelled = values_at-spelled (binary k) (λ v. v < 2 ^ k) (binary_at k) (binary_reader k) n middle lows.value rest lows.before in
    let judged = judged_by_highs bits k n highs.value lows.value within lows_spelled.all (highs_spelled.count ∙ sym lows_spelled.count) in
    let high_limit_is : high_limit ≡ (2 ^ bits - 1) / 2 ^ k + 1 = is_high_limit ∙ ap (λ l. (l - 1) / 2 ^ k + 1) is_limit in
    rw (highs.before, lows.before) (ap (λ b. taken b rest) (judged ∙ (ap (λ l. all_below l highs.value) (sym high_limit_is) ∙ highs.after)))

-- ---- what follows the reference sample

pub uncompressed_body : (s : Settings) (reference : Option ℕ) (is_reference : Bool) (kind : Kind) (start rest : List Bool)
    → is_reference ≡ is_some reference → kind ≡ NoCompression
    → map_taken no_values (values_at (binary_at s.bits) (written_count s is_reference) start) ≡ taken tt rest
    → map_taken (judged_body_len s reference) (body_at s (is_some reference) kind start) ≡ taken (Some (Blocks 1)) rest
uncompressed_body s reference is_reference kind start rest due is_kind read =
    let n = written_count s is_reference in
    let m = map_taken-mapped no_values (values_at (binary_at s.bits) n start) tt rest read in
    let spelled = values_at-spelled (binary s.bits) (λ v. v < 2 ^ s.bits) (binary_at s.bits) (binary_reader s.bits) n start m.value rest m.before in
    rw (← due, is_kind, m.before) (ap (λ b. taken (when b (Blocks 1)) rest) (test-from_below (2 ^ s.bits) m.value spelled.all))

pub split_body : (s : Settings) (reference : Option ℕ) (is_reference : Bool) (kind : Kind) (k : ℕ) (start rest : List Bool) (fit : Bool)
    (answer : Option RunLen)
    → is_reference ≡ is_some reference → kind ≡ Split k → answer ≡ when fit (Blocks 1)
    → map_taken (all_below (2 ^ s.bits)) (split_at k (written_count s is_reference) start) ≡ taken fit rest
    → map_taken (judged_body_len s reference) (body_at s (is_some reference) kind start) ≡ taken answer rest
split_body s reference is_reference kind k start rest fit answer due is_kind is_answer read =
    let m = map_taken-mapped (all_below (2 ^ s.bits)) (split_at k (written_count s is_reference) start) fit rest read in
    rw (← due, is_kind, is_answer, m.before) (ap (λ b. taken (when b (Blocks 1)) rest) m.after)

-- a coded data set is told to be one block if its body is
pub set_skipped : (s : Settings) (kind : Kind) (reference : Option ℕ) (is_reference : Bool) (start behind after rest : List Bool)
    → is_some reference ≡ is_reference → kind_at (id_len s) start ≡ taken kind behind → reference_at s is_reference behind ≡ taken reference after
    → map_taken (judged_body_len s reference) (body_at s (is_some reference) kind after) ≡ taken (Some (Blocks 1)) rest
    → map_taken (judged_len s) (cds_at s is_reference start) ≡ taken (Some (Blocks 1)) rest
set_skipped s kind reference is_reference start behind after rest due kind_read reference_read body_read =
    subst (λ b. map_taken (judged_len s) (cds_at s b start) ≡ taken (Some (Blocks 1)) rest) due
    (set_told (judged_len s) s kind reference start behind after (taken (Some (Blocks 1)) rest) kind_read
    (subst (λ b. reference_at s b behind ≡ taken reference after) (sym due) reference_read) body_read)

-- the values of a splitting option, if all of them are small
pub small_split : (s : Settings) (kind : Kind) (reference : Option ℕ) (is_reference : Bool) (k : ℕ) (start behind after rest : List Bool)
    (result : Result Bool Fault) → is_some reference ≡ is_reference → kind ≡ Split k → kind_at (id_len s) start ≡ taken kind behind
    → reference_at s is_reference behind ≡ taken reference after
    → map_taken (all_below (2 ^ s.bits)) (split_at k (written_count s is_reference) after) ≡ as_taken result rest
    → IfOk result (λ fit. fit ≡ true → map_taken (judged_len s) (cds_at s is_reference start) ≡ taken (Some (Blocks 1)) rest)
small_split s kind reference is_reference k start behind after rest (Ok fit) due is_kind kind_read reference_read read = λ fits.
    set_skipped s kind reference is_reference start behind after rest due kind_read reference_read
    (split_body s reference is_reference kind k after rest fit (Some (Blocks 1)) (sym due) is_kind
    (sym (ap (λ b. when b (Blocks 1)) fits)) read)
small_split s kind reference is_reference k start behind after rest (Err e) due is_kind kind_read reference_read read = tt
