-- Document 01, "Lines (added)": what a line prints, and the driver that it leaves.
use Rattle.std.specs.Prelude.{ℕ, List, [], Option, Some, None}
use Rattle.driver.specs.Turns.{turn_of}
use Rattle.script_answer.specs.Answers.{line_text}
use Rattle.script_sheet.specs.Sheets.{sheet_text}
use Rattle.head_driver.specs.declared.Driver.{Driver}
use Rattle.script_call.specs.declared.LineCall.{LineCall}

-- what a line prints: `(sheet)` the sheet, every other line its answer's line
unfoldable pub prints : Driver → Option LineCall → List ℕ
prints d None = line_text (turn_of d None []).answer
prints d (Some LineCall.Sheet) = sheet_text d
prints d (Some (LineCall.Make c)) = line_text (turn_of d (Some (LineCall.Make c)) []).answer

-- the driver that a line leaves
unfoldable pub leaves : Driver → Option LineCall → Driver
leaves d c = (turn_of d c []).driver
