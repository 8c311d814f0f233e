use Rattle.std.proofs.Common.{◌≡◌, ◌*◌, ap, arith}
use Rattle.std.proofs.Math.Nat.{mul-le-mul_right}
use Rattle.std.specs.Int.{div_ceil}
use Rattle.aec_bits.specs.Codec.{Format}
use Rattle.aec_params.proofs.CountLaws.{ceil_bounds}
use Rattle.aec_edit.proofs.workspace.Workspace.exchange_for.Goals as goal

pub overflow_mul-to : goal.overflow_mul-to
overflow_mul-to g c =
    let f : Format = g.C.Codec.format c.args.self.now.codec in
    let sound = c.interval_len-interval_len.ensures.sound in
    let product : c.args.to * c.interval_len-interval_len.result ≡ c.args.to * f.most = ap (λ n. c.args.to * n) c.interval_len-interval_len.ensures.value in
    let up = mul-le-mul_right {m = c.args.to} {n = div_ceil c.args.count f.most} f.most c.requires.inside in
    omega (arith, product, up, (ceil_bounds c.args.count f.most sound.some).1, c.requires.there, sound.few, sound.bound)
