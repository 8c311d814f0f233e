use Rattle.std.proofs.Common.{◌+◌, ◌-◌, ◌*◌, ◌++◌, length, take, drop, arith, ap, subst, sym, refl}
use Rattle.aec_params.specs.Params.{IsAllowed}
use Rattle.aec_engine.proofs.KeptBufferLemmas.{kept_not, kept_front}
use Rattle.aec_engine.proofs.engine.into_buffers.put_kept.Goals as goal

pub returns-then-size-out : goal.returns-then-size-out
returns-then-size-out c xs told =
    kept_not c.args.reader.now c.args.params.now c.args.rest.first c.args.rest.len _ c.args.bytes.now c.args.out.now xs
    (subst IsAllowed (sym c.requires.settings) c.storage.ensures.allowed) c.requires.read told
    (omega (arith, ap (λ n. c.args.rest.len * n) c.storage.ensures.value))
    (omega (arith, c.if-size-out.true))

pub returns : goal.returns
returns c xs told =
    let n = length c.args.bytes.now in
    let size = n + c.args.rest.len * c.storage.result in
    let mid = c.copy_from_slice.new.self ++ drop n c.args.out.now in
    kept_front c.args.reader.now c.args.params.now c.args.rest.first c.args.rest.len size c.args.bytes.now c.args.out.now xs
    (subst IsAllowed (sym c.requires.settings) c.storage.ensures.allowed) c.requires.read told
    (omega (arith, ap (λ w. c.args.rest.len * w) c.storage.ensures.value)) mid _ (size - n) (omega (arith, c.if-size-out.false))
    (ap (λ l. l ++ drop n c.args.out.now) c.copy_from_slice.ensures.after) refl
    (ap (λ l. take n mid ++ (l ++ drop (size - n) (drop n mid))) (c.fill_range.ensures.filled xs told))
