use Rattle.std.proofs.Common.{◌≡◌, ◌∙◌, take, drop, arith}
use Rattle.std.proofs.lemmas.List.{take_all}
use Rattle.std.proofs.lemmas.Result.{IfOk-weaker}
use Rattle.aec_params.specs.Codewords.{bytes_of}
use Rattle.aec_bits.specs.Codec.{code_of}
use Rattle.aec_edit.specs.Workspace.{HasOneReading}
use Rattle.aec_edit.proofs.OneReadingLemmas.{HasOneReading-code}
use Rattle.aec_edit.proofs.edited.read_back.Goals as goal

pub returns-clause-reading : goal.returns-clause-reading
returns-clause-reading g c =
    let format = g.C.Codec.format c.args.workspace.now.codec in
    let samples = c.args.workspace.now.samples in
    IfOk-weaker c.range.result (λ v. v.items ≡ take c.count-count.result (drop 0 samples))
    (λ v. HasOneReading format (bytes_of (code_of format samples)) v.items)
    (λ v is. HasOneReading-code format samples v.items (g.C.Codec.lawful c.args.workspace.now.codec) c.count-count.ensures.held
    (is ∙ take_all c.count-count.result samples (omega (arith, c.count-count.ensures.value)))) c.range.ensures.ok
