-- What lines print, one after another.
use Rattle.std.specs.Prelude.{ℕ, List, [], ◌∷◌, ◌++◌, Option}
use Rattle.driver.specs.Turns.{sheet_after, turn_of}
use Rattle.script_answer.specs.Answers.{line_text}
use Rattle.rules.specs.Sheets.{to_last_line_feed, wrote_of}
use Rattle.script_call.specs.Calls.{call}
use Rattle.head_driver.specs.declared.Driver.{Driver}
use Rattle.script_call.specs.declared.LineCall.{LineCall}

-- a line, and what it prints
pub record Line : Type 0 where
  pub line : List ℕ
  pub prints : List ℕ

-- the answer's line; of `(sheet)`, what it writes into the sheet buffer, up to its last line feed
unfoldable pub printed : List ℕ → Driver → Option LineCall → List ℕ
printed buffer d q = line_text (turn_of d q buffer).answer ++ to_last_line_feed (wrote_of (turn_of d q buffer).answer (sheet_after d q buffer))

-- what the lines of a run print, each line given the driver that the one before it left
unfoldable pub printed_by : List ℕ → Driver → List Line → List (List ℕ)
printed_by buffer d [] = []
printed_by buffer d (l ∷ ls) = printed buffer d (call l.line) ∷ printed_by buffer (turn_of d (call l.line) buffer).driver ls

-- what is written beside them
unfoldable pub expected : List Line → List (List ℕ)
expected [] = []
expected (l ∷ ls) = l.prints ∷ expected ls
