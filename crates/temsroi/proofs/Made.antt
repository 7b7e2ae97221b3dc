-- What a call leaves in the buffers.
use Prim.Native.Nat.{ℕ, ◌≤◌}
use mathlib.Core.List.{List}
use mathlib.Core.Path.{◌≡◌, refl}
use lib.ListN.{length}
use Rattle.std.specs.Prelude.{Option}
use Rattle.driver.proofs.Turned.{turned}
use Rattle.driver.specs.Turns.{Takes, turn_of}
use Rattle.driver.specs.declared.Turn.{Turn}
use Rattle.head_driver.specs.New.{new}
use Rattle.head_driver.specs.declared.Driver.{Driver}
use Rattle.rebuild.specs.Rebuilds.{Rebuilds, done, not_taken}
use Rattle.script_answer.specs.Answers.{line_text}
use Rattle.script_answer.specs.declared.LineAnswer.{LineAnswer}
use Rattle.script_call.specs.Calls.{call}
use Rattle.script_sheet.specs.Sheets.{sheet_text}
use Rattle.script_value.specs.Buffers.{AtFront}
use Rattle.temsroi.specs.Calls.{Calls, answer_here, answer_left, left, sheet_in, sheet_left, turn_left}
use Rattle.temsroi.specs.Calls as C
use Rattle.temsroi.proofs.LentBuffers.{fronted}

-- what a line's turn leaves
module _ (d : Driver) (line old mid : List ℕ) (t : Turn) (takes : Takes d line old mid t) where
  pub sheet_made : (new_sheet : List ℕ) → length mid ≡ length old → new_sheet ≡ sheet_left (sheet_text t.driver) mid
      → new_sheet ≡ sheet_left (sheet_text (turn_of d (call line) old).driver) old
  sheet_made new_sheet same e = rw (← turned takes, ← same) e

  pub answer_made : (answer new_answer : List ℕ) (a : LineAnswer) (w : Option ℕ) → 512 ≤ length answer → a ≡ answer_here t.answer
      → AtFront 512 answer new_answer (line_text a) w
      → new_answer ≡ answer_left (line_text (answer_here (turn_of d (call line) old).answer)) answer
  answer_made answer new_answer a w room e f = rw (← turned takes, ← e) ((fronted 512 f room).bytes)

-- the sheet that was read is taken, or not
module _ (line sheet answer : List ℕ) (long : 4096 ≤ length sheet) (room : 512 ≤ length answer) where
  pub turned_away : (t : Turn) → Rebuilds new (sheet_in sheet) t → t.answer ≡ LineAnswer.SheetNotTaken
      → Calls line sheet answer (left 5 sheet answer)
  turned_away _ (done x t) e = cc
  turned_away _ (not_taken f) e = C.not_taken long room f

  pub makes : (t : Turn) → Rebuilds new (sheet_in sheet) t → (t.answer ≡ LineAnswer.SheetNotTaken → ⊥) → (new_sheet new_answer : List ℕ)
      → new_sheet ≡ sheet_left (sheet_text (turn_of t.driver (call line) sheet).driver) sheet
      → new_answer ≡ answer_left (line_text (answer_here (turn_of t.driver (call line) sheet).answer)) answer
      → Calls line sheet answer (left 0 new_sheet new_answer)
  makes _ (done x t) n s a e f = rw (e, f) (C.made long room x t)
  makes _ (not_taken f) n s a e g = absurd (n refl)
