use Rattle.std.proofs.Common.{◌≡◌, ◌+◌, ◌-◌, ◌*◌, take, ◌∙◌, arith}
use Rattle.std.proofs.lemmas.Bool.{eqb-true}
use Rattle.std.proofs.lemmas.List.{take_all}
use Rattle.aec_interval.proofs.ShortLemmas.{rest_len}
use Rattle.aec_interval.proofs.reading.short_interval.fill_rest.Goals as goal

pub fill_blocks-requires-clause-room : goal.fill_blocks-requires-clause-room
fill_blocks-requires-clause-room g c =
    let s = c.args.params.now in
    let len = rest_len c.args.first g.row.N s.block_size s.interval _ c.requires.within c.requires.size c.requires.len in
    grind arith

pub returns-clause-ok : goal.returns-clause-ok
returns-clause-ok g c =
    let s = c.args.params.now in
    let fill = c.fill_blocks in
    let front = take (c.args.first * g.row.N) c.args.samples.now in
    λ same.
    let rest : fill.result ≡ s.interval - c.args.first =
    rw (eqb-true fill.result (c.interval.result - c.args.first) same, c.interval.ensures.value) in
    let len = rest_len c.args.first g.row.N s.block_size s.interval _ c.requires.within c.requires.size (fill.ensures.fills.len ∙ c.requires.len) in
    rw (take_all (c.args.first * g.row.N + fill.result * s.block_size) fill.new.samples (grind arith), rest) at fill.ensures.fills.reads
