use Rattle.std.proofs.Common.{◌≡◌, ◌*◌, List, ℤ, length, take, drop, ap, ◌∙◌, arith}
use Rattle.aec_bits.specs.Codec.{Format}
use Rattle.aec_params.proofs.CountLaws.{before_end}
use Rattle.aec_edit.proofs.CallLemmas.{one_more_read}
use Rattle.aec_edit.proofs.KeptLemmas.{at_view, no_other, kept_again, begins_for}
use Rattle.aec_edit.proofs.workspace.Workspace.decode_interval.Goals as goal

pub overflow_mul-i : goal.overflow_mul-i
overflow_mul-i g c =
    let s : List ℤ = c.args.self.now.samples in
    let f : Format = g.C.Codec.format c.args.self.now.codec in
    let kept = at_view g.C.Codec.format c.self.inside.written c.args.self.now c.self.view_is in
    let inside = before_end c.args.i (length s) f.most (g.C.Codec.lawful c.args.self.now.codec).some c.requires in
    let product : c.args.i * c.interval_len-interval_len.result ≡ c.args.i * f.most = ap (λ n. c.args.i * n) c.interval_len-interval_len.ensures.value in
    omega (arith, c.self.invariant.0, c.self.invariant.1)

pub overflow_sub-self-inside : goal.overflow_sub-self-inside
overflow_sub-self-inside g c =
    let s : List ℤ = c.args.self.now.samples in
    let f : Format = g.C.Codec.format c.args.self.now.codec in
    let kept = at_view g.C.Codec.format c.self.inside.written c.args.self.now c.self.view_is in
    let inside = before_end c.args.i (length s) f.most (g.C.Codec.lawful c.args.self.now.codec).some c.requires in
    let product : c.args.i * c.interval_len-interval_len.result ≡ c.args.i * f.most = ap (λ n. c.args.i * n) c.interval_len-interval_len.ensures.value in
    omega arith

pub decode-requires : goal.decode-requires
decode-requires g c =
    let s : List ℤ = c.args.self.now.samples in
    let f : Format = g.C.Codec.format c.args.self.now.codec in
    let kept = at_view g.C.Codec.format c.self.inside.written c.args.self.now c.self.view_is in
    let product : c.args.i * c.interval_len-interval_len.result ≡ c.args.i * f.most = ap (λ n. c.args.i * n) c.interval_len-interval_len.ensures.value in (
      take f.most (drop (c.args.i * f.most) s),
      begins_for f _ c.args.i _ _ (ap (λ w. g.C.Codec.format w.codec) c.self.view_is) (g.C.Codec.lawful c.args.self.now.codec) kept c.requires
          c.start_at-start.ensures (omega arith),
    )

pub returns-clause-ok : goal.returns-clause-ok
returns-clause-ok g c =
    let f : Format = g.C.Codec.format c.args.self.now.codec in
    let kept = at_view g.C.Codec.format c.self.inside.written c.args.self.now c.self.view_is in
    let product : c.args.i * c.interval_len-interval_len.result ≡ c.args.i * f.most = ap (λ n. c.args.i * n) c.interval_len-interval_len.ensures.value in
    c.decode.ensures.ok _
    (begins_for f _ c.args.i _ _ (ap (λ w. g.C.Codec.format w.codec) c.self.view_is) (g.C.Codec.lawful c.args.self.now.codec) kept c.requires
    c.start_at-start.ensures (omega arith))

pub returns-clause-read : goal.returns-clause-read
returns-clause-read g c = record {
  samples = no_other _ (g.C.Codec.lawful c.decode.new.self)
      (kept_again c.self.inside.written c.decode.ensures.same_format (ap (λ w. w.samples) c.self.view_is));
  limit = ap (λ w. w.limit) c.self.view_is;
  format = c.decode.ensures.same_format ∙ ap (λ w. g.C.Codec.format w.codec) c.self.view_is;
  room = ap (λ w. w.room) c.self.view_is;
  calls = c.decode.ensures.same_calls ∙ ap (λ w. g.C.Codec.called w.codec) c.self.view_is;
  reads = one_more_read _ _ _ c.decode.ensures.counts (ap (λ w. g.C.Codec.read w.codec) c.self.view_is) c.self.invariant.2;
}
