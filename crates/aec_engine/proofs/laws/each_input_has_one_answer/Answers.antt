use Rattle.aec_engine.proofs.AnswerLemmas.{coding_has_one_answer, decoding_has_one_answer}
use Rattle.aec_engine.proofs.RangeAnswerLemmas.{ranging_has_one_answer}
use Rattle.aec_engine.proofs.laws.each_input_has_one_answer.Goals as goal

pub returns : goal.returns
returns c = record { coding = coding_has_one_answer; decoding = decoding_has_one_answer; ranging = ranging_has_one_answer }
