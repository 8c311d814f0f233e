use Rattle.std.proofs.Common.{arith, rules}
use Rattle.aec_edit.proofs.InsertLemmas.{inserted, insert_can}
use Rattle.aec_edit.proofs.workspace.Workspace.insert.Goals as goal

pub exchange-requires : goal.exchange-requires
exchange-requires g c =
    let seen = c.args.self.now in
    rw c.recoded_end-to.ensures
    (insert_can (g.C.Codec.format seen.codec) seen.limit c.args.first seen.samples c.args.values.now (g.C.Codec.lawful seen.codec).some
    c.in_ok-check_growth.ensures.ok.held (omega (arith, c.in_ok-check_places.ensures.ok)) c.in_ok-check_growth.ensures.ok.few)

pub returns : goal.returns
returns g c =
    let seen = c.args.self.now in
    let applies = inserted (g.C.Codec.format seen.codec) seen.limit (g.C.Codec.called seen.codec)
    (g.C.Codec.read seen.codec) c.args.first _ seen.samples c.args.values.now c.exchange.result
    c.exchange.new.self.samples (g.C.Codec.called c.exchange.new.self.codec) (g.C.Codec.read c.exchange.new.self.codec)
    (g.C.Codec.lawful seen.codec).some
    (search rules) c.in_ok-check_growth.ensures.ok.held (omega (arith, c.in_ok-check_places.ensures.ok)) c.in_ok-check_growth.ensures.ok.few
    c.recoded_end-to.ensures c.exchange.ensures.answer c.exchange.ensures.ok c.exchange.ensures.err c.exchange.ensures.reads in
    record {
      applies = applies;
      rules = record { limit = c.exchange.ensures.limit; format = c.exchange.ensures.format };
      refused = c.exchange.ensures.refused;
    }
