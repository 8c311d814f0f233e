-- For proofs alone: no public contract cites this file.
-- What is left of a script whose lines are read again when their edits are applied.
use Rattle.std.specs.Prelude.{◌≡◌, ℕ, ◌+◌, ◌-◌, ◌^◌, ◌<◌, ◌≤◌, ◌⊎◌, Bool, true, false, Option, Some, None, option_map, MatchOption, ⊤, [], length, drop}
use Rattle.aec_edit.specs.Early.{IsInside}
use Rattle.aec_engine.specs.declared.script_edits.NextEdit.{NextEdit}
use Rattle.aec_engine.specs.declared.script_edits.EditsAhead.{EditsAhead}
use Rattle.aec_engine.specs.declared.scripts.Script.{Script}
use Rattle.aec_engine.specs.Numerals.{Text}
use Rattle.aec_engine.specs.Scripts.{change, Listing, listed, listing_from}
use Rattle.aec_engine.specs.ScriptLines.{after_listed, lines_left, text_left}
use Rattle.aec_engine.specs.Planning.{planned_in}

-- the text that is not read again yet
abbrev pub text_ahead : EditsAhead → Option Text
text_ahead ahead = option_map (λ text. text.now) ahead.rest

-- the listing of what comes after the next edit: planned overwrites, then the lines of the text
abbrev pub behind : EditsAhead → Listing
behind ahead = planned_in (drop ahead.taken ahead.window.now)
    (listing_from (ahead.lines_read + 1) (lines_left (text_ahead ahead)))

-- a listing, with an edit before it
abbrev pub with_next : Option NextEdit → Listing → Listing
with_next (Some next) rest = listed next.line (change next.edit) rest
with_next None rest = rest

-- the listing of what is left of a script
abbrev pub left_in : EditsAhead → Listing
left_in ahead = with_next ahead.next (behind ahead)

-- the lines that are not read again yet have been judged, and can be counted
pub record AreKnown (ahead : EditsAhead) : Type 0 where
  pub sound : (behind ahead).bad ≡ None
  pub few : ahead.lines_read + text_left (text_ahead ahead) ≤ 2 ^ 63

-- a listing of nothing
abbrev pub no_edits : Listing
no_edits = record { edits = []; lines = []; bad = None }

-- if no edit is ready, none is left
abbrev pub IsReady : EditsAhead → Type 0
IsReady ahead = MatchOption ahead.next (behind ahead ≡ no_edits) (λ next. ⊤)

-- the edits that are left can be applied: their lines are known, and the next one is ready
pub record AreAhead (ahead : EditsAhead) : Type 0 where
  pub known : AreKnown ahead
  pub ready : IsReady ahead

-- how many planned overwrites and bytes are not read again yet
abbrev pub unread : EditsAhead → ℕ
unread ahead = (length ahead.window.now - ahead.taken) + text_left (text_ahead ahead)

-- no edit is left, or the next one is no overwrite inside `count` samples, or the coder was called
-- 2^62 times or more
abbrev pub StopsAt : EditsAhead → ℕ → ℕ → Type 0
StopsAt ahead count calls = MatchOption ahead.next ⊤ (λ next. (2 ^ 62 ≤ calls) ⊎ (IsInside count next.edit → ⊥))

-- The edit that is next was moved to the end of a list of edits with their lines, and the edits
-- after it are left. If none was left, nothing was moved.
pub record TakesNext (old : EditsAhead) (from : Script) (new : EditsAhead) (to : Script) (more : Bool) : Type 0 where
  pub same : after_listed from.edits.items from.lines.items (left_in old)
      ≡ after_listed to.edits.items to.lines.items (left_in new)
  pub counted : length from.edits.items ≡ length from.lines.items → length to.edits.items ≡ length to.lines.items
  pub fewer : more ≡ true → length (left_in new).edits < length (left_in old).edits
  pub none : more ≡ false → left_in new ≡ no_edits

-- The next edits were taken out, each with its line: at least one if any was left. The edits after
-- them are left.
pub record TakesSome (old new : EditsAhead) (some : Script) : Type 0 where
  pub same : left_in old ≡ after_listed some.edits.items some.lines.items (left_in new)
  pub counted : length some.edits.items ≡ length some.lines.items
  pub fewer : 0 < length (left_in old).edits → length (left_in new).edits < length (left_in old).edits
