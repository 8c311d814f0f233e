use Rattle.std.proofs.Common.{◌<◌, ◌∷◌, length, take, drop, sym, ap, ap₂, rules, ◌∙◌}
use Rattle.aec_engine.specs.Scripts.{words_of}
use Rattle.aec_engine.proofs.ScriptWordLemmas.{words_of-first}
use Rattle.aec_engine.proofs.script_words.next_word.Goals as goal

pub returns-clause-words : goal.returns-clause-words
returns-clause-words c =
    let some : 0 < length c.from_first_word-rest.result.now = search rules in
    sym c.from_first_word-rest.ensures.words
    ∙ (words_of-first c.from_first_word-rest.result.now some (c.from_first_word-rest.ensures.starts some)
    ∙ ap₂ (λ word rest. word ∷ words_of rest)
    (sym (c.split_at.ensures.front ∙ ap (λ n. take n c.from_first_word-rest.result.now) c.word_len.ensures.value))
    (sym (c.split_at.ensures.back ∙ ap (λ n. drop n c.from_first_word-rest.result.now) c.word_len.ensures.value)))
