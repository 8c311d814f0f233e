use Rattle.std.proofs.Common.{length, arith, ap}
use Rattle.aec_bits.specs.Codec.{Format}
use Rattle.aec_edit.specs.Changes.{recoded}
use Rattle.aec_edit.proofs.StartLemmas.{length-starts_of, start_of-mono, start_of-le}
use Rattle.aec_edit.proofs.KeptLemmas.{at_view, no_other}
use Rattle.aec_edit.proofs.RecodingLemmas.{recoded_kept, some_kept, on_ok_then, on_err_then, same_kept, in_format, starts_short, starts_later, new_count}
use Rattle.aec_edit.proofs.workspace.Workspace.put.Goals as goal

pub replace-requires : goal.replace-requires
replace-requires g c =
    let seen = c.args.self.now in
    let f : Format = g.C.Codec.format seen.codec in
    let some = (g.C.Codec.lawful seen.codec).some in
    let kept = at_view g.C.Codec.format c.self.inside.written seen c.self.view_is in
    let from = c.cut_at-from.ensures in
    let to = c.cut_at-to.ensures in
    record {
      intervals = omega (arith, from.interval, to.interval, c.requires.1.recoding.order);
      intervals_within =
          omega (arith, c.requires.1.recoding.within, to.interval, ap length kept.starts_are, length-starts_of f 0 seen.samples some);
      bits = omega (arith, from.bit, to.bit, start_of-mono f c.args.from c.args.to seen.samples some c.requires.1.recoding.order);
      bits_within = omega (arith, to.bit, ap length kept.bits_are, start_of-le f c.args.to seen.samples some);
      short = starts_short f c.requires.0 (g.C.Codec.lawful seen.codec) c.requires.1.bits_are c.requires.1.starts_are;
      later = starts_later f c.args.to _ _ (g.C.Codec.lawful seen.codec) kept to.interval to.bit;
    }

pub invariant_of-self-inside : goal.invariant_of-self-inside
invariant_of-self-inside g c =
    let seen = c.args.self.now in
    let f : Format = g.C.Codec.format seen.codec in
    let kept = at_view g.C.Codec.format c.self.inside.written seen c.self.view_is in
    let same = ap (λ w. g.C.Codec.format w.codec) c.self.view_is in (
      some_kept c.replace.result seen.samples (recoded f c.args.from c.args.to c.requires.0 seen.samples)
          (on_ok_then c.replace.result c.replace.ensures.ok (λ is.
          in_format same (recoded_kept f seen.limit c.args.from c.args.to seen.samples c.requires.0 (g.C.Codec.lawful seen.codec) c.requires.1.recoding
          _ 0 _ _ _ _ _ _ _ _ kept c.requires.1.bits_are c.requires.1.starts_are
          c.cut_at-from.ensures.interval c.cut_at-to.ensures.interval c.cut_at-from.ensures.bit c.cut_at-to.ensures.bit is.bits is.starts
          (new_count _ _ _ _ _ _ _ _ _ _ _ _ c.cut_at-from.ensures.interval c.cut_at-to.ensures.interval c.interval_len-interval_len.ensures.value
          c.requires.1.count_is c.count.ensures.value c.saturating_sub-later.ensures is.count_is))))
          (on_err_then c.replace.result c.replace.ensures.err (λ is. in_format same (same_kept kept is.bits is.starts is.count))),
      tt,
    )

pub returns-clause-ok : goal.returns-clause-ok
returns-clause-ok g c fresh is =
    let seen = c.args.self.now in
    let f : Format = g.C.Codec.format seen.codec in
    let kept = at_view g.C.Codec.format c.self.inside.written seen c.self.view_is in
    let same = ap (λ w. g.C.Codec.format w.codec) c.self.view_is in
    on_ok_then c.replace.result c.replace.ensures.ok (λ put.
    no_other _ (g.C.Codec.lawful c.self.inside.codec)
    (in_format same (recoded_kept f seen.limit c.args.from c.args.to seen.samples fresh (g.C.Codec.lawful seen.codec) is.recoding
    _ 0 _ _ _ _ _ _ _ _ kept is.bits_are is.starts_are
    c.cut_at-from.ensures.interval c.cut_at-to.ensures.interval c.cut_at-from.ensures.bit c.cut_at-to.ensures.bit put.bits put.starts
    (new_count _ _ _ _ _ _ _ _ _ _ _ _ c.cut_at-from.ensures.interval c.cut_at-to.ensures.interval c.interval_len-interval_len.ensures.value is.count_is
    c.count.ensures.value c.saturating_sub-later.ensures put.count_is))))

pub returns-clause-err : goal.returns-clause-err
returns-clause-err g c =
    let kept = at_view g.C.Codec.format c.self.inside.written c.args.self.now c.self.view_is in
    let same = ap (λ w. g.C.Codec.format w.codec) c.self.view_is in
    on_err_then c.replace.result c.replace.ensures.err (λ is.
    no_other _ (g.C.Codec.lawful c.self.inside.codec) (in_format same (same_kept kept is.bits is.starts is.count)))
