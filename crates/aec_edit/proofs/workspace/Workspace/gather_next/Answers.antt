use Rattle.std.proofs.Common.{◌≡◌, ◌-◌, ◌++◌, List, ℤ, length, take, drop, refl, ap, arith, subst}
use Rattle.std.proofs.lemmas.List.{length-drop}
use Rattle.aec_bits.specs.Codec.{Format}
use Rattle.aec_edit.specs.Pieces.{places_after}
use Rattle.aec_edit.specs.Drafts.{AreAt, IsReader}
use Rattle.aec_edit.proofs.DraftLemmas.{AreAt-length}
use Rattle.aec_edit.proofs.RebuildLemmas.{piece_within, gathered_more, keeps_then}
use Rattle.aec_edit.proofs.workspace.Workspace.gather_next.Goals as goal

pub read_piece-requires-clause-some : goal.read_piece-requires-clause-some
read_piece-requires-clause-some g c =
    let so_far = c.loop-left.invariant in
    let needs = c.requires.rest in
    let here = so_far.rest needs.0 needs.1 needs.2 in
    let done = c.args.len - c.loop-left.left in
    c.in_ok-piece.ensures.some (omega (arith, c.loop-left-test.true))
    (omega (
      arith,
      AreAt-length _ (places_after c.loop-left.after.items) (drop done needs.0) here.1,
      length-drop done needs.0,
      needs.2,
      so_far.few,
      c.loop-left-test.true,
    ))

pub read_piece-requires-clause-within : goal.read_piece-requires-clause-within
read_piece-requires-clause-within g c =
    let so_far = c.loop-left.invariant in
    let needs = c.requires.rest in
    let here = so_far.rest needs.0 needs.1 needs.2 in
    let done = c.args.len - c.loop-left.left in
    let some = read_piece-requires-clause-some g c in
    omega (
      arith,
      piece_within c.args.self.now.samples c.args.values.now (drop done needs.0) c.in_ok-piece.piece c.loop-left.after.items c.take_next.new.after.items
          here.1 c.in_ok-piece.ensures.ok some,
      ap length so_far.same.samples,
    )

pub read_piece-requires-clause-reader : goal.read_piece-requires-clause-reader
read_piece-requires-clause-reader g c =
    let so_far = c.loop-left.invariant in
    rw (so_far.same.format, so_far.same.samples) so_far.reader

pub loop-left-preserved : goal.loop-left-preserved
loop-left-preserved g c =
    let so_far = c.loop-left.invariant in
    let seen = c.args.self.now in
    let f : Format = g.C.Codec.format seen.codec in
    let got = c.in_ok-got.ensures in
    let reader : IsReader f.most seen.samples c.read_piece.new.reader = rw (so_far.same.format, so_far.same.samples) at got.reader in
    let read : c.read_piece.new.reader.front.items
    ≡ c.loop-left.reader.front.items ++ take c.in_ok-got.got (drop c.in_ok-piece.piece.first (seen.samples ++ c.args.values.now)) =
    rw so_far.same.samples at got.ok in
    record {
      few = omega (arith, so_far.few);
      reader = reader;
      same = keeps_then so_far.same got.same refl;
      rest = λ rest at within.
          let here = so_far.rest rest at within in
          gathered_more (seen.samples ++ c.args.values.now) rest c.loop-left.reader.front.items c.read_piece.new.reader.front.items c.args.len
          c.loop-left.left _ c.in_ok-got.got c.in_ok-piece.piece c.loop-left.after.items c.take_next.new.after.items c.push.new.self.items so_far.few
          (omega (arith, got.few, c.in_ok-piece.ensures.few)) refl got.few here.1 here.0 c.in_ok-piece.ensures.ok c.in_ok-push.ensures.items read;
    }

pub returns-clause-ok : goal.returns-clause-ok
returns-clause-ok g c = λ rest at within.
    let so_far = c.loop-left.invariant in
    let all : List ℤ = c.args.self.now.samples ++ c.args.values.now in
    let whole : c.args.len - c.loop-left.left ≡ c.args.len = omega (arith, c.loop-left-test.false) in
    subst (λ n. (c.loop-left.reader.front.items ≡ take n rest) × AreAt all (places_after c.loop-left.after.items) (drop n rest)) whole
    (so_far.rest rest at within)
