use Rattle.std.proofs.Common.{rules, ◌≤◌, List, Bool, length, refl, sym, ap, ◌∙◌, subst, arith}
use Rattle.aec_block.specs.ReadAt.{taken, map_taken}
use Rattle.aec_block.specs.Gathering.{bits_at, when, small_values}
use Rattle.aec_block.proofs.CursorLemmas.{sequences_taken, gone_over, highs_of_same}
use Rattle.aec_block.proofs.reading.values.read_seen_highs.Goals as goal

pub overflow_sub-pos : goal.overflow_sub-pos
overflow_sub-pos g c =
    let gone = gone_over _ _ c.args.reader.now.list _ c.requires.within
    (subst (λ (bits : List Bool). c.read_sequences_from.new.self.pos ≤ length bits) c.read_sequences_from.ensures.list c.read_sequences_from.ensures.within)
    (c.if-read_sequences_from.ensures.bits refl) in
    omega (arith, gone, c.pos.ensures.value, c.pos-start.ensures.value)

pub are_short-requires-clause-gone : goal.are_short-requires-clause-gone
are_short-requires-clause-gone g c =
    let gone = gone_over _ _ c.args.reader.now.list _ c.requires.within
    (subst (λ (bits : List Bool). c.read_sequences_from.new.self.pos ≤ length bits) c.read_sequences_from.ensures.list c.read_sequences_from.ensures.within)
    (c.if-read_sequences_from.ensures.bits refl) in
    omega (arith, gone, c.pos.ensures.value, c.pos-start.ensures.value)

pub returns-then-read_sequences_from : goal.returns-then-read_sequences_from
returns-then-read_sequences_from g c =
    let after = c.read_sequences_from.new.numbers in record {
      taken = ap (map_taken (small_values c.args.limit))
          (sequences_taken c.args.reader.now c.read_sequences_from.new.self c.args.highs.now after (c.if-read_sequences_from.ensures.bits refl)
          c.read_sequences_from.ensures.len c.read_sequences_from.ensures.list)
          ∙ ap (λ fit. taken (when fit after) (bits_at c.read_sequences_from.new.self)) (sym c.are_short.ensures);
      len = search rules;
      list = search rules;
      within = search rules;
    }

pub read_sequences_from-requires-clause-word : goal.read_sequences_from-requires-clause-word
read_sequences_from-requires-clause-word g c = (c.requires.seen (omega (arith, c.if-seen-eq0.false))).word

pub read_sequences_from-requires-clause-inside : goal.read_sequences_from-requires-clause-inside
read_sequences_from-requires-clause-inside g c = (c.requires.seen (omega (arith, c.if-seen-eq0.false))).inside

pub returns : goal.returns
returns g c =
    highs_of_same c.args.limit c.args.reader.now c.read_sequences_from.new.self c.read_highs-2.new.reader c.args.highs.now
    c.read_sequences_from.new.numbers c.read_highs-2.new.highs c.read_highs-2.result (c.if-read_sequences_from.ensures.stays refl)
    c.read_sequences_from.ensures.len c.read_highs-2.ensures
