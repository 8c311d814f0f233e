use Rattle.std.proofs.Common.{refl}
use Rattle.aec_bits.specs.Words.{bits_of_words}
use Rattle.aec_bits.proofs.ShiftLemmas.{overwritten_by_itself}
use Rattle.aec_bits.proofs.words.copying.move_bits.Goals as goal

pub returns-then-from-to : goal.returns-then-from-to
returns-then-from-to c =
    let same = c.if-from-to.true in
    record { bits = rw same (overwritten_by_itself (bits_of_words c.args.words.now) c.args.to c.args.count); len = refl }
