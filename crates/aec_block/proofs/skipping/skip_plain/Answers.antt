use Rattle.std.proofs.Common.{sym}
use Rattle.aec_block.specs.Gathering.{bits_at}
use Rattle.aec_block.proofs.SkippingLemmas.{set_skipped, small_split, uncompressed_body}
use Rattle.aec_block.proofs.skipping.skip_plain.Goals as goal

pub returns-in_ok-skip_uncompressed-in-NoCompression-clause-taken :
    goal.returns-in_ok-skip_uncompressed-in-NoCompression-clause-taken
returns-in_ok-skip_uncompressed-in-NoCompression-clause-taken c =
    let s = c.args.params.now in
    let due = c.in_ok-reference.ensures.due in
    let reference = c.in_ok-reference.reference in
    let after = bits_at c.read_reference.new.reader in
    let rest = bits_at c.skip_uncompressed.new.reader in
    λ _. set_skipped s c.in_ok-kind.kind reference c.args.is_ref (bits_at c.args.reader.now) (bits_at c.read_kind.new.reader) after rest
    due c.in_ok-kind.ensures.taken.taken c.in_ok-reference.ensures.taken.taken
    (uncompressed_body s reference c.args.is_ref c.in_ok-kind.kind after rest (sym due) c.in-NoCompression.is
    c.in_ok-skip_uncompressed-in-NoCompression.ensures.taken)

pub returns-in-Split-clause-taken : goal.returns-in-Split-clause-taken
returns-in-Split-clause-taken c =
    small_split c.args.params.now c.in_ok-kind.kind c.in_ok-reference.reference c.args.is_ref c.in-Split.k (bits_at c.args.reader.now)
    (bits_at c.read_kind.new.reader) (bits_at c.read_reference.new.reader) (bits_at c.skip_split.new.reader) c.skip_split.result
    c.in_ok-reference.ensures.due c.in-Split.is c.in_ok-kind.ensures.taken.taken c.in_ok-reference.ensures.taken.taken c.skip_split.ensures.taken
