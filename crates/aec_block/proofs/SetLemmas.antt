-- Coded data sets: what was spelled is read back, and what is read was spelled; so none is a prefix
-- of another.
use Rattle.std.proofs.Common.{◌≡◌, ℕ, ◌/◌, ◌^◌, ◌<◌, ◌≤◌, Bool, true, false, Option, Some, None, List, ◌++◌, refl, sym, ap, ◌∙◌, append_assoc, inl, inr, if◌then◌else◌, nat_le, lit<, lit≤}
use Rattle.aec_params.specs.declared.settings.Settings.{Settings}
use Rattle.aec_params.specs.Params.{IsAllowed, id_len}
use Rattle.aec_params.specs.Codewords.{binary}
use Rattle.aec_params.specs.CodedDataSets.{Body, uncompressed_values, value_pairs, split_values, zero_blocks, CodedDataSet, identifier, reference_bits, body_bits, cds_bits, HasReference, written_count, HasBody, HasShape}
use Rattle.aec_params.proofs.SettingLaws.{block_size-even}
use Rattle.aec_block.specs.declared.reading.Kind.{Kind}
use Rattle.aec_block.specs.declared.reading.Kind.TheVariants.{ZeroBlocks, SecondExtension, Split, NoCompression}
use Rattle.aec_block.specs.ReadAt.{nothing, taken, then_at, map_taken, fs_at, binary_at, values_at, members_at, split_at, kind_at, reference_at, body_at, set_of, set_after_reference, set_after_kind, cds_at}
use Rattle.aec_block.specs.Laws.{WhatIsSpelledIsRead, WhatIsReadIsSpelled, NothingIsReadWhereNoneBegins, NoSetIsAPrefix}
use Rattle.aec_block.proofs.CodewordLemmas.{cases_taken, then_at-passed, map_taken-mapped, fs_at-fs, fs_at-spelled, binary_reader, values_at-reads, values_at-spelled, binary_at-binary, binary_at-spelled}
use Rattle.aec_block.proofs.PairLemmas.{members_at-pair_bits, members_at-spelled}
use Rattle.aec_block.proofs.SplitLemmas.{split_at-bits, split_at-spelled}
use Rattle.aec_block.proofs.KindLemmas.{kind_bits, IsKind, kind_at-bits, kind_at-spelled}

-- ---- settings

positive_choice : (b : Bool) (m n : ℕ) → 0 < m → 0 < n → 0 < (if b then m else n)
positive_choice true m n p q = p
positive_choice false m n p q = q

pub id_len-positive : (s : Settings) → 0 < id_len s
id_len-positive s =
    positive_choice s.restricted (if nat_le s.bits 2 then 1 else 2) (if nat_le s.bits 8 then 3 else (if nat_le s.bits 16 then 4 else 5))
    (positive_choice (nat_le s.bits 2) 1 2 (lit< tt) (lit< tt))
    (positive_choice (nat_le s.bits 8) 3 (if nat_le s.bits 16 then 4 else 5) (lit< tt) (positive_choice (nat_le s.bits 16) 4 5 (lit< tt) (lit< tt)))

few_choice : (b : Bool) (m n most : ℕ) → m ≤ most → n ≤ most → (if b then m else n) ≤ most
few_choice true m n most p q = p
few_choice false m n most p q = q

pub id_len-most : (s : Settings) → id_len s ≤ 5
id_len-most s =
    few_choice s.restricted (if nat_le s.bits 2 then 1 else 2) (if nat_le s.bits 8 then 3 else (if nat_le s.bits 16 then 4 else 5)) 5
    (few_choice (nat_le s.bits 2) 1 2 5 (lit≤ tt) (lit≤ tt))
    (few_choice (nat_le s.bits 8) 3 (if nat_le s.bits 16 then 4 else 5) 5 (lit≤ tt) (few_choice (nat_le s.bits 16) 4 5 5 (lit≤ tt) (lit≤ tt)))

-- ---- the kind of a body

abbrev pub kind_of : Body → Kind
kind_of (uncompressed_values values) = NoCompression
kind_of (value_pairs values) = SecondExtension
kind_of (split_values k values) = Split k
kind_of (zero_blocks m) = ZeroBlocks

pub identifier-kind_bits : (s : Settings) (body : Body) → identifier s body ≡ kind_bits (id_len s) (kind_of body)
identifier-kind_bits s (uncompressed_values values) = refl
identifier-kind_bits s (value_pairs values) = refl
identifier-kind_bits s (split_values k values) = refl
identifier-kind_bits s (zero_blocks m) = refl

has_kind : (s : Settings) (is_reference : Bool) (body : Body) → HasBody s is_reference body → IsKind (id_len s) (kind_of body)
has_kind s is_reference (uncompressed_values values) has = tt
has_kind s is_reference (value_pairs values) has = tt
has_kind s is_reference (split_values k values) has = has.0
has_kind s is_reference (zero_blocks m) has = tt

-- ---- the reference sample

reference_at-bits : (s : Settings) (is_reference : Bool) (reference : Option ℕ) (rest : List Bool) → HasReference s is_reference reference
    → reference_at s is_reference (reference_bits s reference ++ rest) ≡ taken reference rest
reference_at-bits s true (Some r) rest has = rw (binary_at-binary s.bits r rest has) refl
reference_at-bits s true None rest has = absurd has
reference_at-bits s false (Some r) rest has = absurd has
reference_at-bits s false None rest has = refl

record SpelledReference (s : Settings) (is_reference : Bool) (bits : List Bool) (reference : Option ℕ) (rest : List Bool) : Type 0 where
  has : HasReference s is_reference reference
  spelled : bits ≡ reference_bits s reference ++ rest

reference_at-spelled : (s : Settings) (is_reference : Bool) (bits : List Bool) (reference : Option ℕ) (rest : List Bool)
    → reference_at s is_reference bits ≡ taken reference rest → SpelledReference s is_reference bits reference rest
reference_at-spelled s true bits reference rest e =
    let m = map_taken-mapped (λ r. Some r) (binary_at s.bits bits) reference rest e in
    let number = binary_at-spelled s.bits bits m.value rest m.before in
    rw (← m.after) (record { has = number.0; spelled = number.1 })
reference_at-spelled s false bits reference rest e =
    let none : None ≡ reference = cc in
    let same : bits ≡ rest = cc in
    rw (← none) (record { has = tt; spelled = same })

-- ---- the body

body_at-bits : (s : Settings) (is_reference : Bool) (body : Body) (rest : List Bool) → IsAllowed s → HasBody s is_reference body
    → body_at s is_reference (kind_of body) (body_bits s body ++ rest) ≡ taken body rest
body_at-bits s is_reference (uncompressed_values values) rest allowed has =
    rw (← has.0, values_at-reads (binary s.bits) (λ v. v < 2 ^ s.bits) (binary_at s.bits) (binary_reader s.bits) values rest has.1) refl
body_at-bits s is_reference (value_pairs values) rest allowed has =
    rw (members_at-pair_bits (s.block_size / 2) values rest (has ∙ sym (block_size-even s allowed))) refl
body_at-bits s is_reference (split_values k values) rest allowed has =
    rw (← has.1, split_at-bits k values rest) refl
body_at-bits s is_reference (zero_blocks m) rest allowed has = rw (fs_at-fs m rest) refl

record SpelledBody (s : Settings) (is_reference : Bool) (kind : Kind) (bits : List Bool) (body : Body) (rest : List Bool) : Type 0 where
  kind_is : kind_of body ≡ kind
  has : HasBody s is_reference body
  spelled : bits ≡ body_bits s body ++ rest

body_at-spelled : (s : Settings) (is_reference : Bool) (kind : Kind) (bits : List Bool) (body : Body) (rest : List Bool) → IsAllowed s → IsKind (id_len s) kind
    → body_at s is_reference kind bits ≡ taken body rest → SpelledBody s is_reference kind bits body rest
body_at-spelled s is_reference NoCompression bits body rest allowed is_kind e =
    let n = written_count s is_reference in
    let m = map_taken-mapped uncompressed_values (values_at (binary_at s.bits) n bits) body rest e in
    let read = values_at-spelled (binary s.bits) (λ v. v < 2 ^ s.bits) (binary_at s.bits) (binary_reader s.bits) n bits m.value rest m.before in
    rw (← m.after) (record { kind_is = refl; has = (read.count, read.all); spelled = read.spelled })
body_at-spelled s is_reference SecondExtension bits body rest allowed is_kind e =
    let m = map_taken-mapped value_pairs (members_at (s.block_size / 2) bits) body rest e in
    let read = members_at-spelled (s.block_size / 2) bits m.value rest m.before in
    rw (← m.after) (record { kind_is = refl; has = read.count ∙ block_size-even s allowed; spelled = read.spelled })
body_at-spelled s is_reference (Split k) bits body rest allowed is_kind e =
    let n = written_count s is_reference in
    let m = map_taken-mapped (split_values k) (split_at k n bits) body rest e in
    let read = split_at-spelled k n bits m.value rest m.before in
    rw (← m.after) (record { kind_is = refl; has = (is_kind, read.count); spelled = read.spelled })
body_at-spelled s is_reference ZeroBlocks bits body rest allowed is_kind e =
    let m = map_taken-mapped zero_blocks (fs_at bits) body rest e in
    rw (← m.after) (record { kind_is = refl; has = tt; spelled = fs_at-spelled bits m.value rest m.before })

-- ---- the whole

pub what_is_spelled_is_read : WhatIsSpelledIsRead
what_is_spelled_is_read s allowed is_reference c rest shape =
    let kind = kind_of c.body in
    let reference = reference_bits s c.reference in
    let body = body_bits s c.body in
    let joined : cds_bits s c ++ rest ≡ kind_bits (id_len s) kind ++ (reference ++ (body ++ rest)) =
    append_assoc (identifier s c.body) (reference ++ body) rest
    ∙ (ap (λ l. identifier s c.body ++ l) (append_assoc reference body rest)
    ∙ ap (λ l. l ++ (reference ++ (body ++ rest))) (identifier-kind_bits s c.body)) in
    let kind_read = kind_at-bits (id_len s) kind (reference ++ (body ++ rest)) (id_len-positive s) (has_kind s is_reference c.body shape.body) in
    let reference_read = reference_at-bits s is_reference c.reference (body ++ rest) shape.reference in
    let body_read = body_at-bits s is_reference c.body rest allowed shape.body in
    ap (cds_at s is_reference) joined
    ∙ (ap (λ t. then_at t (set_after_kind s is_reference)) kind_read
    ∙ (ap (λ t. then_at t (set_after_reference s is_reference kind)) reference_read
    ∙ ap (map_taken (set_of c.reference)) body_read))

pub what_is_read_is_spelled : WhatIsReadIsSpelled
what_is_read_is_spelled s allowed is_reference bits c rest e =
    let p = then_at-passed (kind_at (id_len s) bits) (set_after_kind s is_reference) c rest e in
    let q = then_at-passed (reference_at s is_reference p.behind) (set_after_reference s is_reference p.value) c rest p.after in
    let m = map_taken-mapped (set_of q.value) (body_at s is_reference p.value q.behind) c rest q.after in
    let kind = kind_at-spelled (id_len s) bits p.value p.behind p.before in
    let reference = reference_at-spelled s is_reference p.behind q.value q.behind q.before in
    let body = body_at-spelled s is_reference p.value q.behind m.value rest allowed kind.is_kind m.before in
    let front : kind_bits (id_len s) p.value ≡ identifier s m.value =
    sym (identifier-kind_bits s m.value ∙ ap (kind_bits (id_len s)) body.kind_is) in
    let parts : bits ≡ identifier s m.value ++ (reference_bits s q.value ++ (body_bits s m.value ++ rest)) =
    kind.spelled ∙ (ap (λ l. l ++ p.behind) front
    ∙ ap (λ l. identifier s m.value ++ l) (reference.spelled ∙ ap (λ l. reference_bits s q.value ++ l) body.spelled)) in
    let joined : bits ≡ identifier s m.value ++ (reference_bits s q.value ++ body_bits s m.value) ++ rest =
    parts ∙ (ap (λ l. identifier s m.value ++ l) (sym (append_assoc (reference_bits s q.value) (body_bits s m.value) rest))
    ∙ sym (append_assoc (identifier s m.value) (reference_bits s q.value ++ body_bits s m.value) rest)) in
    rw (← m.after) (record { reference = reference.has; body = body.has }, joined)

pub none_begins : (s : Settings) (is_reference : Bool) (bits : List Bool) → IsAllowed s → cds_at s is_reference bits ≡ nothing
    → (c : CodedDataSet) (rest : List Bool) → HasShape s is_reference c → bits ≡ cds_bits s c ++ rest → ⊥
none_begins s is_reference bits allowed none c rest shape begins =
    let read = what_is_spelled_is_read s allowed is_reference c rest shape in
    let both : nothing ≡ taken c rest = sym none ∙ (ap (cds_at s is_reference) begins ∙ read) in
    cc

nothing_there : (s : Settings) (is_reference : Bool) (bits : List Bool) → IsAllowed s
    → ((c : CodedDataSet) (rest : List Bool) → HasShape s is_reference c → bits ≡ cds_bits s c ++ rest → ⊥) → cds_at s is_reference bits ≡ nothing
nothing_there s is_reference bits allowed none =
    elim (cases_taken (cds_at s is_reference bits)) [
      | inl nothing_read ↦ nothing_read
      | inr read ↦
          let spelled = what_is_read_is_spelled s allowed is_reference bits read.0 read.1.0 read.1.1 in
          absurd (none read.0 read.1.0 spelled.0 spelled.1)
    ]

pub nothing_is_read_where_none_begins : NothingIsReadWhereNoneBegins
nothing_is_read_where_none_begins s allowed is_reference bits =
    (none_begins s is_reference bits allowed, nothing_there s is_reference bits allowed)

pub no_set_is_a_prefix : NoSetIsAPrefix
no_set_is_a_prefix s allowed is_reference c d x y shape_c shape_d e =
    let read_c = what_is_spelled_is_read s allowed is_reference c x shape_c in
    let read_d = what_is_spelled_is_read s allowed is_reference d y shape_d in
    let both : taken c x ≡ taken d y = sym read_c ∙ (ap (cds_at s is_reference) e ∙ read_d) in
    (cc, cc)
