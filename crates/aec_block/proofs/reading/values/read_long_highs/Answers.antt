use Rattle.std.proofs.Common.{rules, ◌≡◌, ◌+◌, ◌++◌, [], ◌∷◌, true, nat_lt, refl, ap, ◌∙◌, length, take, arith}
use Rattle.std.proofs.lemmas.Bool.{ltb-true}
use Rattle.std.proofs.lemmas.Grind.{take-set_at}
use Rattle.aec_block.specs.Gathering.{bits_at}
use Rattle.aec_block.proofs.GatheringLemmas.{HighsGathered-next, HighsGathered-done}
use Rattle.aec_block.proofs.reading.values.read_long_highs.Goals as goal
use Rattle.aec_block.proofs.reading.values.read_long_highs.Goals.{then-fits, else-fits}

pub loop-high-preserved : goal.loop-high-preserved
loop-high-preserved c =
    let i = c.loop-high.high-index in
    let v = c.in_ok-number.number in
    let highs = c.loop-high.highs in
    let kept : nat_lt v c.args.limit ≡ true → take (i + 1) c.if-fits.highs ≡ take i highs ++ v ∷ [] =
    elim c.if-fits.branch [
      | then-fits w ↦ λ below. ap (take (i + 1)) w.highs-is ∙ take-set_at highs i (i + 1) v refl (omega arith)
      | else-fits w ↦ λ below. absurd (omega (arith, ltb-true v c.args.limit below))
    ] in
    record {
      moved = record { list = c.in_ok-number.ensures.list ∙ c.loop-high.invariant.moved.list; within = c.in_ok-number.ensures.within };
      taken = HighsGathered-next c.args.limit (bits_at c.args.reader.now) highs c.if-fits.highs i v c.loop-high.fit
          (bits_at c.loop-high.reader) (bits_at c.read_sequence.new.reader) (omega arith) c.if-fits.auto.highs c.in_ok-number.ensures.taken kept
          c.loop-high.invariant.taken;
    }

pub returns : goal.returns
returns c = record {
  taken = HighsGathered-done c.args.limit (length c.args.highs.now) (bits_at c.args.reader.now) c.loop-high.highs c.loop-high.high-index c.loop-high.fit
      (bits_at c.loop-high.reader) c.loop-high.auto.highs c.loop-high-test.false c.loop-high.invariant.taken;
  len = search rules;
  list = search rules;
  within = search rules;
}
