use Rattle.std.proofs.Common.{false, None, rules, ◌∙◌}
use Rattle.aec_block.specs.Gathering.{bits_at}
use Rattle.aec_block.proofs.NoSingleLemmas.{IsJudged, none_stands, not_begun, other_numbers, other_split, other_pairs, none_judged, judged_to}
use Rattle.aec_block.proofs.SingleLemmas.{single_read, single-below}
use Rattle.aec_block.proofs.SeenLemmas.{seen_behind_id}
use Rattle.aec_block.proofs.reading.single_sets.read_single.Goals as goal
use Rattle.aec_block.proofs.reading.single_sets.read_single.Goals.{in-Ok-NoCompression, in-Ok-Split, in-Ok-SecondExtension, in_default, in_default-2}

pub returns-then-not-read-clause-refuses : goal.returns-then-not-read-clause-refuses
returns-then-not-read-clause-refuses g c =
    let s = c.args.params.now in
    let bits = bits_at c.args.reader.now in
    λ same. none_stands s false c.args.reader.now c.read_kind_from.ensures.allowed
    (elim c.match-read_kind_from.branch [
      | in-Ok-NoCompression w ↦ (other_numbers s w.in-Ok-NoCompression.field-0 w.bits.result _ bits _ (bits_at w.read_usual_numbers.new.reader)
          w.read_usual_numbers.new.numbers w.read_usual_numbers.result c.match-read_kind_from.read (w.read-is ∙ w.is_ok-read.ensures.value)
          w.in-Ok-NoCompression.ensures.taken.taken w.in-Ok-NoCompression.field-0-is w.bits.ensures.value c.requires
          w.read_usual_numbers.ensures.taken).none c.if-not-read.true
      | in-Ok-Split w ↦ (other_split s w.in-Ok-Split.field-0 w.in-Ok-Split.k _ bits _ (bits_at w.read_usual_split.new.reader)
          w.read_usual_split.new.values w.read_usual_split.result c.match-read_kind_from.read (w.read-is ∙ w.unwrap_or-read.ensures)
          w.in-Ok-Split.ensures.taken.taken w.in-Ok-Split.field-0-is c.requires w.read_usual_split.ensures.taken).none c.if-not-read.true
      | in-Ok-SecondExtension w ↦ (other_pairs s w.in-Ok-SecondExtension.field-0 _ bits _ (bits_at w.read_usual_pairs.new.reader)
          w.read_usual_pairs.new.values w.read_usual_pairs.result c.match-read_kind_from.read
          (w.read-is ∙ w.unwrap_or-read-in-Ok-SecondExtension.ensures) w.in-Ok-SecondExtension.ensures.taken.taken
          w.in-Ok-SecondExtension.field-0-is c.requires w.read_usual_pairs.ensures.taken.taken).none c.if-not-read.true
      | in_default w ↦ not_begun s false bits (search rules)
      | in_default-2 w ↦ not_begun s false bits (search rules)
    ])

pub returns-clause-read : goal.returns-clause-read
returns-clause-read g c =
    let s = c.args.params.now in
    let old = c.args.reader.now in
    let new = c.match-read_kind_from.reader in
    let judged : IsJudged s None (bits_at old) (bits_at new) c.match-read_kind_from.values c.match-read_kind_from.read = elim c.match-read_kind_from.branch [
      | in-Ok-NoCompression w ↦ judged_to s None _ _ new _ _ _ w.reader-is w.values-is (other_numbers s w.in-Ok-NoCompression.field-0 w.bits.result _
          (bits_at old) _ _ _ w.read_usual_numbers.result _ (w.read-is ∙ w.is_ok-read.ensures.value) w.in-Ok-NoCompression.ensures.taken.taken
          w.in-Ok-NoCompression.field-0-is w.bits.ensures.value c.requires w.read_usual_numbers.ensures.taken)
      | in-Ok-Split w ↦ judged_to s None _ _ new _ _ _ w.reader-is w.values-is (other_split s w.in-Ok-Split.field-0 w.in-Ok-Split.k _
          (bits_at old) _ _ _ w.read_usual_split.result _ (w.read-is ∙ w.unwrap_or-read.ensures) w.in-Ok-Split.ensures.taken.taken
          w.in-Ok-Split.field-0-is c.requires w.read_usual_split.ensures.taken)
      | in-Ok-SecondExtension w ↦ judged_to s None _ _ new _ _ _ w.reader-is w.values-is (other_pairs s w.in-Ok-SecondExtension.field-0 _
          (bits_at old) _ _ _ w.read_usual_pairs.result _ (w.read-is ∙ w.unwrap_or-read-in-Ok-SecondExtension.ensures)
          w.in-Ok-SecondExtension.ensures.taken.taken w.in-Ok-SecondExtension.field-0-is c.requires w.read_usual_pairs.ensures.taken.taken)
      | in_default w ↦ none_judged s None _ _ _ _ w.read-is (search rules)
      | in_default-2 w ↦ none_judged s None _ _ _ _ w.read-is (search rules)
    ] in
    λ same. single_read s None old new _ c.read_kind_from.ensures.allowed c.pos-start.ensures.within (search rules) (search rules)
    (judged.there c.if-not-read.false)

pub returns-clause-below : goal.returns-clause-below
returns-clause-below g c =
    λ same. single-below c.args.params.now c.args.reader.now c.match-read_kind_from.reader None c.match-read_kind_from.values (returns-clause-read g c same)

pub read_usual_split-requires-clause-seen : goal.read_usual_split-requires-clause-seen
read_usual_split-requires-clause-seen g c =
    seen_behind_id c.args.params.now c.args.reader.now c.read_kind_from.new.reader c.next_word-word.result c.id_len.result c.seen_in-seen.result.word
    c.seen_in-seen.result.gone c.next_word-word.ensures c.in-Ok-Split.ensures.taken.list (c.in-Ok-Split.ensures.place c.in-Ok-Split.k c.in-Ok-Split.field-0-is)
    c.id_len.ensures.value c.seen_in-seen.ensures
