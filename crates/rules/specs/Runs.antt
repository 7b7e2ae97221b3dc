-- Document 01, "What contracts say, what cases show": lists of lines, where each line gets the state that the one before it left, and nothing else writes that state.
use Rattle.std.specs.Prelude.{ℕ, ◌<◌, List, [], ◌∷◌, ◌≡◌}
use Rattle.driver.specs.Turns.{turn_of}
use Rattle.script_answer.specs.Answers.{line_text}
use Rattle.script_call.specs.Calls.{call}
use Rattle.text.specs.Ascii.{ascii}
use Rattle.driver.specs.declared.Turn.{Turn}
use Rattle.head_driver.specs.declared.Driver.{Driver}

-- an element of a list: a line without its line feed, and the sheet buffer that stands beside it, of any length
pub record Entry : Type 0 where
  pub line : List ℕ
  pub buffer : List ℕ

-- what the line gets, as the contract of `take_line` has it
abbrev pub turn_at : Driver → Entry → Turn
turn_at d e = turn_of d (call e.line) e.buffer

-- the driver after them
unfoldable pub after : Driver → List Entry → Driver
after d [] = d
after d (e ∷ es) = after (turn_at d e).driver es

-- their answers, one by one, as whole lines
unfoldable pub answers : Driver → List Entry → List (List ℕ)
answers d [] = []
answers d (e ∷ es) = line_text (turn_at d e).answer ∷ answers (turn_at d e).driver es

-- ---- the further lists

unfoldable pub Bytes : List ℕ → Type 0
Bytes [] = Unit {0}
Bytes (b ∷ s) = (b < 256) × Bytes s

-- no byte is a line feed, which is 10
unfoldable pub OneLine : List ℕ → Type 0
OneLine [] = Unit {0}
OneLine (b ∷ s) = (¬ (b ≡ 10)) × OneLine s

-- lines of bytes, each with a buffer of bytes, and only the sheet call left out: no line is `(sheet)`. Lines that are refused, 1 and 3 too, stand in the list as well.
abbrev pub Further : List Entry → Type 0
Further [] = Unit {0}
Further (e ∷ es) = Bytes e.line × OneLine e.line × Bytes e.buffer × (¬ (e.line ≡ ascii "(sheet)")) × Further es
