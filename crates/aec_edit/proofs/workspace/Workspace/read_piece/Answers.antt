use Rattle.std.proofs.Common.{◌+◌, ◌%◌, ◌-◌, ◌++◌, refl, take, drop, sym, ap, ◌∙◌, arith}
use Rattle.aec_bits.specs.Codec.{Format}
use Rattle.aec_edit.proofs.RebuildLemmas.{read_values, read_opened}
use Rattle.aec_edit.proofs.workspace.Workspace.read_piece.Goals as goal

pub returns-then-piece-count-clause-ok : goal.returns-then-piece-count-clause-ok
returns-then-piece-count-clause-ok g c =
    let piece = c.args.piece in
    c.in_ok-extend_from_slice.ensures.items
    ∙ ap (λ l. c.args.reader.now.front.items ++ l)
    (read_values c.args.self.now.samples c.args.values.now piece.first piece.stop c.count-count.result c.count-count.ensures.value
    (omega (arith, c.if-piece-count.true))
    ∙ ap (λ n. take n (drop piece.first (c.args.self.now.samples ++ c.args.values.now))) (sym c.len.ensures))

pub returns-clause-ok : goal.returns-clause-ok
returns-clause-ok g c =
    let seen = c.args.self.now in
    let f : Format = g.C.Codec.format seen.codec in
    let p = c.args.piece.first in
    let len = c.min-len.result in
    let first = p % c.interval_len-interval_len.result in
    let part = read_opened f.most c.interval_len-interval_len.result p len first seen.samples c.args.values.now c.open.new.reader.opened.items
    c.deref.result.now (g.C.Codec.lawful seen.codec).some c.interval_len-interval_len.ensures.value refl
    (omega (arith, c.if-piece-count.false, c.count-count.ensures.value)) c.in_ok-open.ensures.ok c.deref.ensures.value
    (omega (arith, c.min-len.ensures, c.len-3.ensures, c.open.new.reader.opened.ok.0)) in
    c.in_ok-extend_from_slice-2.ensures.items
    ∙ ap (λ v. v.items ++ take (first + len - first) (drop first c.deref.result.now)) c.in_ok-open.ensures.front
    ∙ ap (λ l. c.args.reader.now.front.items ++ l) part
