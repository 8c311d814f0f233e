use Rattle.std.proofs.Common.{◌≡◌, ◌+◌, arith, ap, sym, ◌∙◌, option_map}
use Rattle.aec_engine.specs.Scripts.{listed, listing_from, meaning_of}
use Rattle.aec_engine.specs.ScriptLines.{lines_left, text_left}
use Rattle.aec_engine.specs.EditsAhead.{behind, text_ahead}
use Rattle.aec_engine.proofs.ScriptLineLemmas.{listed_sound}
use Rattle.aec_engine.proofs.PlanLemmas.{next-planned, none-planned}
use Rattle.aec_engine.proofs.script_edits.EditsAhead.next_line.Goals as goal

pub returns-in-Some-clause-known : goal.returns-in-Some-clause-known
returns-in-Some-clause-known c =
    let ahead = c.args.self.now in
    let p = c.in-Some.planned.now in
    let found = c.in-Some.ensures.lookup in
    let cut = next-planned ahead.window.now ahead.taken p (listing_from (ahead.lines_read + 1) (lines_left (text_ahead ahead))) found.3.0 found.1 in
    record { sound = listed_sound p.line (meaning_of p.text.now) _ (sym (ap (λ l. l.bad) cut) ∙ c.requires.sound); few = c.requires.few }

pub returns-clause-known : goal.returns-clause-known
returns-clause-known c =
    let ahead = c.args.self.now in
    let n = ahead.lines_read + 1 in
    let after = listing_from (n + 1) (lines_left (option_map (λ text. text.now) c.cut_line.result.1)) in
    let past = c.in_default.ensures.lookup.3 in
    let cut : behind ahead ≡ listed n (meaning_of c.cut_line.result.0.now) after =
    none-planned ahead.window.now ahead.taken (listing_from n (lines_left (text_ahead ahead))) past
    ∙ (ap (λ rest. listing_from n (lines_left (option_map (λ text. text.now) rest))) c.in_ok-text.was
    ∙ ap (listing_from n) c.cut_line.ensures.lines) in
    record {
      sound = ap (λ l. l.bad) (none-planned ahead.window.now ahead.taken after past)
          ∙ listed_sound n (meaning_of c.cut_line.result.0.now) after (sym (ap (λ l. l.bad) cut) ∙ c.requires.sound);
      few = omega (
        arith,
        c.requires.few,
        c.cut_line.ensures.shorter,
        ap (λ rest. text_left (option_map (λ text. text.now) rest)) c.in_ok-text.was,
      );
    }
