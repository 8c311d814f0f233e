use Rattle.std.proofs.Common.{◌≡◌, ℕ, ◌+◌, ◌-◌, List, length, arith, ap, ◌∙◌}
use Rattle.std.proofs.lemmas.List.{take_at, with_items_is}
use Rattle.aec_edit.proofs.IndexLemmas.{replaced}
use Rattle.aec_edit.proofs.index.replace_starts.Goals as goal

pub returns : goal.returns
returns c =
    let moved : List ℕ = c.move_later.new.starts.items in
    let first : List ℕ = c.write_starts.new.starts in
    let last : List ℕ = c.shift_starts.new.starts in
    let count : ℕ = c.move_later.new.starts.len in
    let first_len : length first ≡ count = omega arith in
    let written = rw c.as_mut_slice.ensures.value at c.write_starts.ensures in
    let given : c.as_mut_slice-2.result.now ≡ first = c.as_mut_slice-2.ensures.value ∙ with_items_is c.move_later.new.starts first first_len in
    let last_len : length last ≡ count = omega (arith, ap length given) in
    let shifted = rw given at c.shift_starts.ensures in
    take_at last _ count last_len
    ∙ replaced (λ x. c.args.from.bit + x) (λ x. x - c.args.to.bit + c.args.new_end) c.args.starts.now.items c.args.with.now moved first last
    c.args.from.interval c.args.to.interval c.requires.order (omega (arith, c.args.starts.now.ok.0)) c.move_later.ensures.items written shifted
