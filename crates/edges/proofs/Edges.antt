-- Every run of the table prints what is written beside it, by computation.
use Prim.Native.Nat.{ℕ, ◌≤◌}
use mathlib.Core.List.{List, [], ◌∷◌, append-nil}
use mathlib.Core.Path.{◌≡◌, refl, ap, ap₂, ◌∙◌}
use lib.ListN.{length}
use borrow.Author.Tests.{le-ltb}
use Rattle.std.specs.Prelude.{Option, Some, None}
use Rattle.driver.specs.Turns.{made, sheet_answer, turn_of}
use Rattle.head_driver.specs.New.{new}
use Rattle.head_step.specs.Steps.{step}
use Rattle.rules.proofs.LineFeeds.{sheet_wrote}
use Rattle.rules.specs.Sheets.{to_last_line_feed, wrote_of}
use Rattle.script_answer.specs.Answers.{answer_line, line_text}
use Rattle.script_call.specs.Calls.{call}
use Rattle.script_sheet.specs.Sheets.{sheet_text}
use Rattle.script_value.specs.Buffers.{written}
use Rattle.text.specs.Ascii.{ascii}
use Rattle.head_driver.specs.declared.Driver.{Driver}
use Rattle.script_call.specs.declared.LineCall.{LineCall}
use Rattle.edges.specs.Runs.{Line, expected, printed, printed_by}
use Rattle.edges.specs.Statements.{EveryEdge, Holds}
use Rattle.edges.specs.Table.{table}
use Rattle.edges.proofs.Opened.{opened}

-- ---- without the buffer

-- what a line prints
unfoldable plain : Driver → Option LineCall → List ℕ
plain d None = ascii "(refused 1)\n"
plain d (Some LineCall.Sheet) = sheet_text d
plain d (Some (LineCall.Make c)) = answer_line (step d c).answer

unfoldable next : Driver → Option LineCall → Driver
next d None = d
next d (Some LineCall.Sheet) = d
next d (Some (LineCall.Make c)) = (step d c).driver

unfoldable plainly : Driver → List Line → List (List ℕ)
plainly d [] = []
plainly d (l ∷ ls) = plain d (call l.line) ∷ plainly (next d (call l.line)) ls

module _ (buffer : List ℕ) (room : 4096 ≤ length buffer) where
  -- a sheet has no answer line
  no_line : (d : Driver) → line_text (turn_of d (Some LineCall.Sheet) buffer).answer ≡ []
  unfolding turn_of sheet_answer written line_text
  no_line d = rw (le-ltb (length buffer) 4096 room)

  sheet_plain : (d : Driver) → printed buffer d (Some LineCall.Sheet) ≡ sheet_text d
  unfolding printed
  sheet_plain d = rw (no_line d) (sheet_wrote d buffer room)

  printed_plain : (d : Driver) (q : Option LineCall) → printed buffer d q ≡ plain d q
  unfolding printed plain turn_of made line_text wrote_of to_last_line_feed
  printed_plain d None = refl
  printed_plain d (Some LineCall.Sheet) = sheet_plain d
  printed_plain d (Some (LineCall.Make c)) = append-nil (answer_line (step d c).answer)

  next_driver : (d : Driver) (q : Option LineCall) → (turn_of d q buffer).driver ≡ next d q
  unfolding turn_of made next
  next_driver d None = refl
  next_driver d (Some LineCall.Sheet) = refl
  next_driver d (Some (LineCall.Make c)) = refl

  run_plain : (d : Driver) (ls : List Line) → printed_by buffer d ls ≡ plainly d ls
  unfolding printed_by plainly
  run_plain d [] = refl
  run_plain d (l ∷ ls) = ap₂ ◌∷◌ (printed_plain d (call l.line)) (ap (λ (e : Driver). printed_by buffer e ls) (next_driver d (call l.line)) ∙ run_plain (next d (call l.line)) ls)

-- ---- by computation

-- each run of some, without the buffer
abbrev Plain : List (List Line) → Type 0
Plain [] = Unit {0}
Plain (run ∷ runs) = (plainly new run ≡ expected run) × Plain runs

computed : Plain table
unfolding opened table plainly plain next expected
computed = (refl, (refl, (refl, (refl, (refl, (refl, (refl, (refl, (refl, (refl, (refl, (refl, tt))))))))))))

-- ---- the table

all_hold : (buffer : List ℕ) → 4096 ≤ length buffer → (runs : List (List Line)) → Plain runs → Holds buffer runs
all_hold buffer room [] f = tt
all_hold buffer room (run ∷ runs) f = (run_plain buffer room new run ∙ f.0, all_hold buffer room runs f.1)

pub every_edge : EveryEdge
every_edge buffer room = all_hold buffer room table computed
