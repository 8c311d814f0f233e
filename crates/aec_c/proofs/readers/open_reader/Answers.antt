use Rattle.std.proofs.Common.{◌*◌, sym, refl, inl, inr, ap, ap₂, ◌∙◌, subst}
use Rattle.aec_params.specs.Params.{IsAllowed, interval_len, storage_len}
use Rattle.aec_params.specs.Codewords.{bits_of_bytes}
use Rattle.aec_c.specs.Kinds.{reader_in}
use Rattle.aec_c.specs.Replies.{done}
use Rattle.aec_c.specs.Standing.{standing_at}
use Rattle.aec_c.specs.Readers.{opened, not_opened}
use Rattle.aec_c.proofs.readers.open_reader.Goals as goal

pub returns-in-Err : goal.returns-in-Err
returns-in-Err c = not_opened c.in-Err.fault (inl (sym c.in-Err.ensures.refuses)) refl c.refused.ensures

pub returns-in-Ok-hold : goal.returns-in-Ok-hold
returns-in-Ok-hold c =
    let same = c.in-Ok.ensures.ok in
    opened c.in-Ok-fresh_reader.made (subst IsAllowed same c.in-Ok.ensures.allowed) (ap reader_in c.in-Ok-hold.ensures.ok)
    (c.in-Ok-fresh_reader.ensures.ok ∙ ap₂ (λ s n. standing_at s n (bits_of_bytes c.args.coded.now) 0 0 0) same c.count_of.ensures)
    (c.answered.ensures ∙ ap done (c.interval_bytes.ensures ∙ ap (λ s. interval_len s * storage_len s) same))

pub returns-in-Err-hold : goal.returns-in-Err-hold
returns-in-Err-hold c =
    let says = c.in-Err-hold.ensures in
    not_opened c.in-Err-hold.fault (inr (subst IsAllowed c.in-Ok.ensures.ok c.in-Ok.ensures.allowed, inl says.fault)) says.err c.refused-in-Err-hold.ensures

pub returns-in-Err-fresh_reader : goal.returns-in-Err-fresh_reader
returns-in-Err-fresh_reader c =
    let why = rw c.count_of.ensures at c.in-Err-fresh_reader.ensures.refuses in
    not_opened c.in-Err-fresh_reader.fault (inr (subst IsAllowed c.in-Ok.ensures.ok c.in-Ok.ensures.allowed, why)) refl
    c.refused-in-Err-fresh_reader.ensures
