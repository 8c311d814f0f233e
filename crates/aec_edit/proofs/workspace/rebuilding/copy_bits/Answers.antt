use Rattle.std.proofs.Common.{◌≡◌, ◌+◌, ◌++◌, drop, ◌∙◌, arith, subst}
use Rattle.aec_params.specs.Codewords.{binary}
use Rattle.aec_params.proofs.CodewordLaws.{length-binary}
use Rattle.aec_edit.proofs.CopyLemmas.{copied_more}
use Rattle.aec_edit.proofs.workspace.rebuilding.copy_bits.Goals as goal

pub loop-left-preserved : goal.loop-left-preserved
loop-left-preserved c =
    let so_far = c.loop-left.invariant in
    let took = c.in_ok-value.ensures.takes in
    let width = c.min-width.result in
    let pos = c.loop-left.reader.pos in
    let v = c.in_ok-value.value in
    record {
      place = omega (arith, took.moves, so_far.place, c.from-left.ensures, c.min-width.ensures);
      least = omega (arith, took.moves, so_far.least);
      list = took.list ∙ so_far.list;
      copied = copied_more c.args.from.now.list c.loop-left.out.list c.push_bits.new.self.list c.args.out.now.list c.args.start pos width
          c.read.new.self.pos v so_far.least took.moves (length-binary width v) so_far.copied
          (subst (λ l. drop pos l ≡ binary width v ++ drop (pos + width) l) so_far.list c.in_ok-value.ensures.bits) c.in_ok-push_bits.ensures.ok;
    }
