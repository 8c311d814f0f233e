use Rattle.std.proofs.Common.{rules, ◌≤◌, List, Bool, length, refl, sym, ap, ◌∙◌, subst, arith}
use Rattle.aec_block.specs.ReadAt.{taken, map_taken}
use Rattle.aec_block.specs.Gathering.{bits_at, when, small_values}
use Rattle.aec_block.proofs.CursorLemmas.{sequences_taken, gone_over}
use Rattle.aec_block.proofs.reading.values.read_highs.Goals as goal

pub overflow_sub-pos : goal.overflow_sub-pos
overflow_sub-pos c =
    let gone = gone_over _ _ c.args.reader.now.list _ c.requires.within
    (subst (λ (bits : List Bool). c.read_sequences.new.self.pos ≤ length bits) c.read_sequences.ensures.list c.read_sequences.ensures.within)
    (c.if-read_sequences.ensures.bits refl) in
    omega (arith, gone, c.pos.ensures.value, c.pos-start.ensures.value)

pub are_short-requires-clause-gone : goal.are_short-requires-clause-gone
are_short-requires-clause-gone c =
    let gone = gone_over _ _ c.args.reader.now.list _ c.requires.within
    (subst (λ (bits : List Bool). c.read_sequences.new.self.pos ≤ length bits) c.read_sequences.ensures.list c.read_sequences.ensures.within)
    (c.if-read_sequences.ensures.bits refl) in
    omega (arith, gone, c.pos.ensures.value, c.pos-start.ensures.value)

pub returns-then-read_sequences : goal.returns-then-read_sequences
returns-then-read_sequences c =
    let after = c.read_sequences.new.numbers in record {
      taken = ap (map_taken (small_values c.args.limit))
          (sequences_taken c.args.reader.now c.read_sequences.new.self c.args.highs.now after (c.if-read_sequences.ensures.bits refl)
          c.read_sequences.ensures.len c.read_sequences.ensures.list)
          ∙ ap (λ fit. taken (when fit after) (bits_at c.read_sequences.new.self)) (sym c.are_short.ensures);
      len = search rules;
      list = search rules;
      within = search rules;
    }
