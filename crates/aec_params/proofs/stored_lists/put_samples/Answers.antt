use Rattle.std.proofs.Common.{sym, ◌∙◌}
use Rattle.byteorder.specs.Endian.{big_bytes, little_bytes}
use Rattle.aec_params.proofs.StoredListLemmas.{bytes-stored, bytes-big, bytes-little}
use Rattle.aec_params.proofs.stored_lists.put_samples.Goals as goal

pub returns-then-msb_first : goal.returns-then-msb_first
returns-then-msb_first c =
    c.put_numbers.ensures
    ∙ bytes-stored c.args.params.now c.args.samples.now big_bytes c.storage-width.result c.storage-width.ensures.allowed c.storage-width.ensures.value
    (bytes-big c.args.params.now (sym c.msb_first.ensures ∙ c.if-msb_first.true)) c.requires.held

pub returns-else-msb_first : goal.returns-else-msb_first
returns-else-msb_first c =
    c.put_numbers-else-msb_first.ensures
    ∙ bytes-stored c.args.params.now c.args.samples.now little_bytes c.storage-width.result c.storage-width.ensures.allowed c.storage-width.ensures.value
    (bytes-little c.args.params.now (sym c.msb_first.ensures ∙ c.if-msb_first.false)) c.requires.held
