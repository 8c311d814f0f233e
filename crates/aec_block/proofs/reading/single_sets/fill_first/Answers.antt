use Rattle.std.proofs.Common.{◌∙◌, Some, Ok, true, refl, ap}
use Rattle.aec_block.specs.declared.cds.Cds.TheVariants.{Single}
use Rattle.aec_block.specs.ReadAt.{taken, map_taken}
use Rattle.aec_block.specs.Gathering.{bits_at, when}
use Rattle.aec_block.specs.BlockShape.{block_with}
use Rattle.aec_params.specs.Places.{block_of_values}
use Rattle.aec_block.proofs.NoSingleLemmas.{large_set}
use Rattle.aec_block.proofs.SeenLemmas.{seen_id, seen_behind_pattern}
use Rattle.aec_block.proofs.SingleLemmas.{set_read, first_read, numbers_body, split_body, pairs_body, written_after}
use Rattle.aec_block.proofs.reading.single_sets.fill_first.Goals as goal

pub returns-in_ok-read_usual_numbers-in-NoCompression-clause-taken :
    goal.returns-in_ok-read_usual_numbers-in-NoCompression-clause-taken
returns-in_ok-read_usual_numbers-in-NoCompression-clause-taken g c =
    let s = c.args.params.now in
    let end = bits_at c.read_usual_numbers.new.reader in
    first_read s c.in_ok-kind.kind c.in_ok-pattern.pattern (bits_at c.args.reader.now) (bits_at c.read_kind_from.new.reader)
    (bits_at c.read_pattern_behind.new.reader) end c.args.values.now c.read_usual_numbers.new.numbers true refl c.requires.placed
    c.in_ok-kind.ensures.taken.taken c.in_ok-pattern.ensures.taken.taken
    (numbers_body s (Some c.in_ok-pattern.pattern) c.in_ok-kind.kind c.bits.result _ (bits_at c.read_pattern_behind.new.reader) end
    c.read_usual_numbers.new.numbers (Ok tt) c.in-NoCompression.is c.bits.ensures.value (written_after s c.args.values.now c.requires.count)
    c.in_ok-read_usual_numbers-in-NoCompression.ensures.taken)

pub returns-else-not-branch-clause-taken : goal.returns-else-not-branch-clause-taken
returns-else-not-branch-clause-taken g c =
    let s = c.args.params.now in
    let fit = c.in_ok-read_usual_split-in-Split.field-0 in
    let end = bits_at c.read_usual_split.new.reader in
    first_read s c.in_ok-kind.kind c.in_ok-pattern.pattern (bits_at c.args.reader.now) (bits_at c.read_kind_from.new.reader)
    (bits_at c.read_pattern_behind.new.reader) end c.args.values.now c.read_usual_split.new.values fit c.if-not-branch.false c.requires.placed
    c.in_ok-kind.ensures.taken.taken c.in_ok-pattern.ensures.taken.taken
    (split_body s (Some c.in_ok-pattern.pattern) c.in_ok-kind.kind c.in-Split.k _ (bits_at c.read_pattern_behind.new.reader) end
    c.read_usual_split.new.values (Ok fit) c.in-Split.is (written_after s c.args.values.now c.requires.count)
    c.in_ok-read_usual_split-in-Split.ensures.taken)

pub returns-then-not-branch-clause-none : goal.returns-then-not-branch-clause-none
returns-then-not-branch-clause-none g c =
    let s = c.args.params.now in
    let fit = c.in_ok-read_usual_split-in-Split.field-0 in
    let after = bits_at c.read_pattern_behind.new.reader in
    let end = bits_at c.read_usual_split.new.reader in
    let written = c.read_usual_split.new.values in
    let block = Single (block_of_values (Some c.in_ok-pattern.pattern) written) in
    λ unread. large_set s true (bits_at c.args.reader.now) end (set_read s c.in_ok-kind.kind (Some c.in_ok-pattern.pattern) (bits_at c.args.reader.now)
    (bits_at c.read_kind_from.new.reader) after (taken (when fit block) end) c.in_ok-kind.ensures.taken.taken
    (ap (map_taken (λ r. Some r)) c.in_ok-pattern.ensures.taken.taken)
    (split_body s (Some c.in_ok-pattern.pattern) c.in_ok-kind.kind c.in-Split.k _ after end written (Ok fit) c.in-Split.is
    (written_after s c.args.values.now c.requires.count) c.in_ok-read_usual_split-in-Split.ensures.taken)
    ∙ ap (λ fit. taken (when fit block) end) c.if-not-branch.true)

pub returns-else-not-branch-2-clause-taken : goal.returns-else-not-branch-2-clause-taken
returns-else-not-branch-2-clause-taken g c =
    let s = c.args.params.now in
    let fit = c.in_ok-read_usual_pairs-in-SecondExtension.field-0 in
    let after = bits_at c.read_pattern_behind.new.reader in
    let end = bits_at c.read_usual_pairs.new.reader in
    let block = Single (block_with (Some c.in_ok-pattern.pattern) c.read_usual_pairs.new.values) in
    set_read s c.in_ok-kind.kind (Some c.in_ok-pattern.pattern) (bits_at c.args.reader.now) (bits_at c.read_kind_from.new.reader) after
    (taken (when fit block) end) c.in_ok-kind.ensures.taken.taken (ap (map_taken (λ r. Some r)) c.in_ok-pattern.ensures.taken.taken)
    (pairs_body s (Some c.in_ok-pattern.pattern) c.in_ok-kind.kind _ after end c.read_usual_pairs.new.values (Ok fit) c.in-SecondExtension.is
    c.requires.count c.in_ok-read_usual_pairs-in-SecondExtension.ensures.taken.taken)
    ∙ ap (λ fit. taken (when fit block) end) c.if-not-branch-2.false

pub returns-then-not-branch-2-clause-none : goal.returns-then-not-branch-2-clause-none
returns-then-not-branch-2-clause-none g c =
    let s = c.args.params.now in
    let fit = c.in_ok-read_usual_pairs-in-SecondExtension.field-0 in
    let after = bits_at c.read_pattern_behind.new.reader in
    let end = bits_at c.read_usual_pairs.new.reader in
    let block = Single (block_with (Some c.in_ok-pattern.pattern) c.read_usual_pairs.new.values) in
    λ unread. large_set s true (bits_at c.args.reader.now) end (set_read s c.in_ok-kind.kind (Some c.in_ok-pattern.pattern) (bits_at c.args.reader.now)
    (bits_at c.read_kind_from.new.reader) after (taken (when fit block) end) c.in_ok-kind.ensures.taken.taken
    (ap (map_taken (λ r. Some r)) c.in_ok-pattern.ensures.taken.taken)
    (pairs_body s (Some c.in_ok-pattern.pattern) c.in_ok-kind.kind _ after end c.read_usual_pairs.new.values (Ok fit) c.in-SecondExtension.is
    c.requires.count c.in_ok-read_usual_pairs-in-SecondExtension.ensures.taken.taken)
    ∙ ap (λ fit. taken (when fit block) end) c.if-not-branch-2.true)

pub read_pattern_behind-requires-clause-word : goal.read_pattern_behind-requires-clause-word
read_pattern_behind-requires-clause-word g c =
    λ k is. seen_id c.args.params.now c.args.reader.now c.read_kind_from.new.reader c.next_word-word.result c.next_word-word.ensures
    c.in_ok-kind.ensures.taken.list (c.in_ok-kind.ensures.place k is)

pub read_usual_split-requires-clause-seen : goal.read_usual_split-requires-clause-seen
read_usual_split-requires-clause-seen g c =
    seen_behind_pattern c.args.params.now c.args.reader.now c.read_kind_from.new.reader c.read_pattern_behind.new.reader c.next_word-word.result
    c.id_len.result c.bits-in-Split.result c.seen_in-seen.result.word c.seen_in-seen.result.gone c.in_ok-kind.ensures.allowed c.next_word-word.ensures
    c.in_ok-kind.ensures.taken.list (c.in_ok-kind.ensures.place c.in-Split.k c.in-Split.is) c.in_ok-pattern.ensures.taken.list
    c.in_ok-pattern.ensures.place c.id_len.ensures.value c.bits-in-Split.ensures.value c.seen_in-seen.ensures
