use Rattle.std.proofs.Common.{arith}
use Rattle.aec_block.specs.Gathering.{bits_at}
use Rattle.aec_block.proofs.KindLemmas.{one_in_first, one_after_first}
use Rattle.aec_block.proofs.reading.read_kind_from.Goals as goal

pub returns-then-number-len-clause-one : goal.returns-then-number-len-clause-one
returns-then-number-len-clause-one c =
    λ _. one_in_first c.id_len-len.result c.in_ok-number.number (bits_at c.args.reader.now) (bits_at c.read_number_from.new.reader)
    c.in_ok-number.ensures.taken.taken (omega (arith, c.if-number-gt0.true))

pub returns-else-number-len-clause-one : goal.returns-else-number-len-clause-one
returns-else-number-len-clause-one c =
    λ _. one_in_first c.id_len-len.result c.in_ok-number.number (bits_at c.args.reader.now) (bits_at c.read_number_from.new.reader)
    c.in_ok-number.ensures.taken.taken (omega (arith, c.if-number-gt0.true))

pub returns-else-last-eq0-clause-one : goal.returns-else-last-eq0-clause-one
returns-else-last-eq0-clause-one c =
    λ _. one_after_first c.id_len-len.result c.in_ok-number.number (bits_at c.args.reader.now) (bits_at c.read_number_from.new.reader)
    c.in_ok-number.ensures.taken.taken
    (one_in_first 1 c.in_ok-last.last (bits_at c.read_number_from.new.reader) (bits_at c.read_number.new.reader) c.in_ok-last.ensures.taken.taken
    (omega (arith, c.if-last-eq0.false)))
