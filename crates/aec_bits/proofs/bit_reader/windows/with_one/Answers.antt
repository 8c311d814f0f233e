use Rattle.std.proofs.Common.{◌-◌, ◌∙◌, ap, ◌+◌}
use Rattle.aec_bits.proofs.WindowLemmas.{none_there}
use Rattle.aec_bits.proofs.bit_reader.windows.with_one.Goals as goal

pub returns-clause-none : goal.returns-clause-none
returns-clause-none c =
    let next = c.window_from.result in
    λ none. none_there c.args.buf.now.list next.word next.left next.end (c.args.window.end - c.args.window.left) c.window_from.ensures.whole.window
    c.window_from.ensures.whole.size (c.window_from.ensures.whole.place ∙ ap (λ n. n + 64) c.place_of.ensures) none
