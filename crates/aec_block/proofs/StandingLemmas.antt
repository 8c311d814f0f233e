-- From what is taken of the bits that are left, to the coded data set at the position.
use Rattle.std.proofs.Common.{◌≡◌, ℕ, zero, suc, zero-add, [], ◌∷◌, ◌+◌, ◌-◌, ◌≤◌, Bool, true, false, Option, Some, None, List, ◌++◌, length, drop, refl, sym, ap, ◌∙◌, arith}
use Rattle.std.proofs.lemmas.List.{length-append, length-drop}
use Rattle.std.proofs.Math.Seq.{drop-append_seam, drop-nil}
use Rattle.aec_params.specs.declared.settings.Settings.{Settings}
use Rattle.aec_params.specs.declared.fault.Fault.{Fault}
use Rattle.aec_params.specs.declared.fault.Fault.TheVariants.{Truncated, ValueTooLarge}
use Rattle.aec_params.specs.Params.{IsAllowed}
use Rattle.aec_params.specs.CodedDataSets.{CodedDataSet, cds_bits, has_small_values}
use Rattle.aec_params.specs.Reading.{StandsAt}
use Rattle.aec_bits.specs.BitReader.{Cursor}
use Rattle.aec_block.specs.declared.cds.Cds.{Cds}
use Rattle.aec_block.specs.declared.cds.RunLen.{RunLen}
use Rattle.aec_block.specs.ReadAt.{Taken, nothing, taken, map_taken, cds_at}
use Rattle.aec_block.specs.Gathering.{bits_at, when}
use Rattle.aec_params.specs.Faults.{IsSetAt, IsNotRead, cut_short, too_large}
use Rattle.aec_block.specs.ReadCds.{cds_of, checked, IsReadAs}
use Rattle.aec_block.specs.SkipCds.{set_len, judged_len, IsSkippedAs}
use Rattle.aec_block.specs.Laws.{OneSetStands}
use Rattle.aec_block.proofs.CodewordLemmas.{map_taken-mapped}
use Rattle.aec_block.proofs.SetLemmas.{what_is_read_is_spelled, none_begins, no_set_is_a_prefix}

drop-add : (bits : List Bool) (b n : ℕ) → drop (b + n) bits ≡ drop n (drop b bits)
drop-add bits zero n = ap (λ m. drop m bits) (zero-add n)
drop-add [] (suc b) n = drop-nil (suc b + n) ∙ sym (drop-nil n)
drop-add (bit ∷ bits) (suc b) n =
    let place : suc b + n ≡ suc (b + n) = omega arith in
    ap (λ m. drop m (bit ∷ bits)) place ∙ drop-add bits b n

-- the bits after `front`, which begins at place b, are the rest
drop-behind : (bits front rest : List Bool) (b : ℕ) → drop b bits ≡ front ++ rest → drop (b + length front) bits ≡ rest
drop-behind bits front rest b begins =
    drop-add bits b (length front) ∙ (ap (drop (length front)) begins ∙ drop-append_seam front rest)

pub stands_from : (bits : List Bool) (b : ℕ) (s : Settings) (c : CodedDataSet) (rest : List Bool) → drop b bits ≡ cds_bits s c ++ rest → StandsAt s bits b c
stands_from bits b s c rest begins = begins ∙ ap (λ l. cds_bits s c ++ l) (sym (drop-behind bits (cds_bits s c) rest b begins))

-- what `told` says about a coded data set, if its values are at most 2^n - 1
abbrev pub told_small : {Y : Type 0} → (CodedDataSet → Y) → Settings → CodedDataSet → Option Y
told_small told s c = when (has_small_values s c) (told c)

pub record IsTaken {Y : Type 0} (told : CodedDataSet → Y) (s : Settings) (is_reference : Bool) (old : Cursor) (c : CodedDataSet) (answer : Option Y)
    (rest : List Bool) : Type 0 where
  pub set : IsSetAt s is_reference old.list old.pos c
  pub begins : bits_at old ≡ cds_bits s c ++ rest
  pub answer_is : told_small told s c ≡ answer

pub set_taken : {Y : Type 0} (told : CodedDataSet → Y) (s : Settings) (is_reference : Bool) (old : Cursor) (answer : Option Y) (rest : List Bool) → IsAllowed s
    → map_taken (told_small told s) (cds_at s is_reference (bits_at old)) ≡ taken answer rest
    → (c : CodedDataSet) × IsTaken told s is_reference old c answer rest
set_taken told s is_reference old answer rest allowed read =
    let m = map_taken-mapped (told_small told s) (cds_at s is_reference (bits_at old)) answer rest read in
    let spelled = what_is_read_is_spelled s allowed is_reference (bits_at old) m.value rest m.before in (
      m.value,
      record {
        set = record { shape = spelled.0; stands = stands_from old.list old.pos s m.value rest spelled.1 };
        begins = spelled.1;
        answer_is = m.after;
      },
    )

record WhenSome {Y : Type 0} (b : Bool) (x y : Y) : Type 0 where
  test : b ≡ true
  value : y ≡ x

when-some : {Y : Type 0} (b : Bool) (x y : Y) → when b x ≡ Some y → WhenSome b x y
when-some true x y e = record { test = refl; value = cc }
when-some false x y e = absurd (cc)

pub when-none : {Y : Type 0} (b : Bool) (x : Y) → when b x ≡ None → b ≡ false
when-none true x e = absurd (cc)
when-none false x e = refl

cursor_is : (old new : Cursor) (pos : ℕ) → new.list ≡ old.list → new.pos ≡ pos → new ≡ record { list = old.list; pos = pos }
cursor_is old new pos same place = rw (← same, ← place) refl

same_cursor : (old new : Cursor) (front : List Bool) → old.pos ≤ length old.list → new.pos ≤ length new.list → new.list ≡ old.list
    → bits_at old ≡ front ++ bits_at new → new ≡ record { list = old.list; pos = old.pos + length front }
same_cursor old new front inside_old inside_new same begins =
    let lengths = ap (length {A = Bool}) begins in
    let left_new : length (bits_at new) ≡ length old.list - new.pos = length-drop new.pos new.list ∙ ap (λ l. length l - new.pos) same in
    let inside : new.pos ≤ length old.list = rw same at inside_new in
    let pos : new.pos ≡ old.pos + length front =
    omega (arith, length-drop old.pos old.list, length-append front (bits_at new)) in
    cursor_is old new (old.pos + length front) same pos

-- the coded data set c, whose values are at most 2^n - 1, is at the old cursor, the new cursor is
-- after it, and the answer is what `told` says about it
record IsToldBy {Y : Type 0} (told : CodedDataSet → Y) (s : Settings) (is_reference : Bool) (old new : Cursor) (c : CodedDataSet) (answer : Y) : Type 0 where
  set : IsSetAt s is_reference old.list old.pos c
  small : has_small_values s c ≡ true
  behind : new ≡ record { list = old.list; pos = old.pos + length (cds_bits s c) }
  answer_is : answer ≡ told c

told_by : {Y : Type 0} (told : CodedDataSet → Y) (s : Settings) (is_reference : Bool) (old new : Cursor) (answer : Y) → IsAllowed s
    → old.pos ≤ length old.list → new.pos ≤ length new.list → new.list ≡ old.list
    → map_taken (told_small told s) (cds_at s is_reference (bits_at old)) ≡ taken (Some answer) (bits_at new)
    → (c : CodedDataSet) × IsToldBy told s is_reference old new c answer
told_by told s is_reference old new answer allowed inside_old inside_new same read =
    let t = set_taken told s is_reference old (Some answer) (bits_at new) allowed read in
    let some = when-some (has_small_values s t.0) (told t.0) answer t.1.answer_is in (
      t.0,
      record {
        set = t.1.set;
        small = some.test;
        behind = same_cursor old new (cds_bits s t.0) inside_old inside_new same t.1.begins;
        answer_is = some.value;
      },
    )

pub read_as : (s : Settings) (is_reference : Bool) (old new : Cursor) (cds : Cds) → IsAllowed s → old.pos ≤ length old.list → new.pos ≤ length new.list
    → new.list ≡ old.list → map_taken (checked s) (cds_at s is_reference (bits_at old)) ≡ taken (Some cds) (bits_at new)
    → (c : CodedDataSet) × IsReadAs s is_reference old new c cds
read_as s is_reference old new cds allowed inside_old inside_new same read =
    let t = told_by cds_of s is_reference old new cds allowed inside_old inside_new same read in
    (t.0, record { set = t.1.set; small = t.1.small; behind = t.1.behind; answer = t.1.answer_is })

pub skipped_as : (s : Settings) (is_reference : Bool) (old new : Cursor) (len : RunLen) → IsAllowed s → old.pos ≤ length old.list → new.pos ≤ length new.list
    → new.list ≡ old.list → map_taken (judged_len s) (cds_at s is_reference (bits_at old)) ≡ taken (Some len) (bits_at new)
    → (c : CodedDataSet) × IsSkippedAs s is_reference old new c len
skipped_as s is_reference old new len allowed inside_old inside_new same read =
    let t = told_by set_len s is_reference old new len allowed inside_old inside_new same read in (
      t.0,
      record { read = record { set = t.1.set; small = t.1.small; behind = t.1.behind; answer = refl }; told = t.1.answer_is },
    )

pub refused_large : {Y : Type 0} (told : CodedDataSet → Y) (s : Settings) (is_reference : Bool) (old new : Cursor) (answer : Option Y) (pos : ℕ)
    (fault : Fault) → IsAllowed s → fault ≡ ValueTooLarge pos → pos ≡ old.pos → answer ≡ None
    → map_taken (told_small told s) (cds_at s is_reference (bits_at old)) ≡ taken answer (bits_at new) → IsNotRead s is_reference old.list old.pos fault
refused_large told s is_reference old new answer pos fault allowed is_fault at_start none read =
    let t = set_taken told s is_reference old answer (bits_at new) allowed read in
    let large = when-none (has_small_values s t.0) (told t.0) (t.1.answer_is ∙ none) in
    let large_here : fault ≡ ValueTooLarge old.pos = is_fault ∙ ap (λ b. ValueTooLarge b) at_start in
    rw large_here (too_large t.0 t.1.set large)

pub unmapped : {X Y : Type 0} (f : X → Y) (t : Taken X) → map_taken f t ≡ nothing → t ≡ nothing
unmapped f nothing e = refl
unmapped f (taken x rest) e = absurd (cc)

pub refused_cut : {Y : Type 0} (told : CodedDataSet → Y) (s : Settings) (is_reference : Bool) (old : Cursor) (pos : ℕ) (fault : Fault) → IsAllowed s
    → fault ≡ Truncated pos → pos ≡ old.pos → map_taken (told_small told s) (cds_at s is_reference (bits_at old)) ≡ nothing
    → IsNotRead s is_reference old.list old.pos fault
refused_cut told s is_reference old pos fault allowed is_fault at_start read =
    let none = unmapped (told_small told s) (cds_at s is_reference (bits_at old)) read in
    let cut_here : fault ≡ Truncated old.pos = is_fault ∙ ap (λ b. Truncated b) at_start in
    let none_stands : (c : CodedDataSet) → IsSetAt s is_reference old.list old.pos c → ⊥ = λ c set.
    none_begins s is_reference (bits_at old) allowed none c (drop (old.pos + length (cds_bits s c)) old.list) set.shape set.stands in
    rw cut_here (cut_short none_stands)

pub one_set_stands : OneSetStands
one_set_stands s allowed is_reference bits b c d set_c set_d =
    (no_set_is_a_prefix s allowed is_reference c d (drop (b + length (cds_bits s c)) bits) (drop (b + length (cds_bits s d)) bits)
    set_c.shape set_d.shape (sym set_c.stands ∙ set_d.stands)).0
