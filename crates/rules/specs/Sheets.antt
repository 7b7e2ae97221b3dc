-- Document 01, "What contracts say, what cases show": a sheet is what `(sheet)` writes into 4,096 bytes or more, up to its last line feed.
use Rattle.std.specs.Prelude.{ℕ, List, [], ◌∷◌, eqb, take, cond}
use Rattle.driver.specs.Turns.{sheet_after, turn_of}
use Rattle.script_call.specs.Calls.{call}
use Rattle.text.specs.Ascii.{ascii}
use Rattle.script_answer.specs.declared.LineAnswer.{LineAnswer}
use Rattle.head_driver.specs.declared.Driver.{Driver}

-- a byte in front of a text that was cut so: a line feed, which is 10, stays, and so does whatever stands before one
unfoldable pub onto : ℕ → List ℕ → List ℕ
onto b [] = cond (eqb b 10) (b ∷ []) []
onto b (c ∷ s) = b ∷ (c ∷ s)

-- a text up to its last line feed
unfoldable pub to_last_line_feed : List ℕ → List ℕ
to_last_line_feed [] = []
to_last_line_feed (b ∷ s) = onto b (to_last_line_feed s)

-- the bytes that a sheet's answer counts
unfoldable pub wrote_of : LineAnswer → List ℕ → List ℕ
wrote_of (LineAnswer.Said a) bytes = []
wrote_of LineAnswer.NoCall bytes = []
wrote_of LineAnswer.SheetTooShort bytes = []
wrote_of LineAnswer.SheetNotTaken bytes = []
wrote_of (LineAnswer.Sheet n) bytes = take n bytes

-- what `(sheet)` writes into a buffer, up to its last line feed
unfoldable pub sheet_into : List ℕ → Driver → List ℕ
sheet_into buffer d = to_last_line_feed (wrote_of (turn_of d (call (ascii "(sheet)")) buffer).answer (sheet_after d (call (ascii "(sheet)")) buffer))
