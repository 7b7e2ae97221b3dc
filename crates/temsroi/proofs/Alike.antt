-- A driver and the one that its sheet shows leave the same, whatever the line: the same sheet and the same answer.
use Prim.Native.Nat.{ℕ}
use mathlib.Core.List.{List, [], ◌∷◌}
use mathlib.Core.Path.{◌≡◌, refl, ap, ap₂, sym}
use Rattle.std.specs.Prelude.{Option, Some, None}
use Rattle.alike.proofs.Shown.{shows_enough}
use Rattle.alike.specs.Canon.{canon}
use Rattle.alike.specs.Invariant.{Invariant}
use Rattle.alike.specs.Runs.{answers}
use Rattle.driver.specs.Turns.{made, turn_of}
use Rattle.head_driver.specs.declared.Answer.{Answer}
use Rattle.head_driver.specs.declared.Driver.{Driver}
use Rattle.rebuild.specs.Rebuilds.{Taken}
use Rattle.rules.proofs.Brought.{brought_keep, rebuilt_sheets_alike, taken_keeps, writes_same_sheet}
use Rattle.rules.specs.Brought.{Brought}
use Rattle.rules.specs.Runs.{after}
use Rattle.script_answer.specs.Answers.{line_text}
use Rattle.script_answer.specs.declared.LineAnswer.{LineAnswer}
use Rattle.script_call.specs.Calls.{call}
use Rattle.script_call.specs.declared.LineCall.{LineCall}
use Rattle.script_sheet.specs.Sheets.{lines_of, sheet_text}
use Rattle.sheet_back.proofs.Sheets.{equal_sheets}
use Rattle.temsroi.specs.Calls.{answer_here, answer_left, left, sheet_left, turn_left}

first_same : {A : Type 0} {x y : A} {xs ys : List A} → x ∷ xs ≡ y ∷ ys → x ≡ y
first_same e = cc

module _ (d x : Driver) (v : Invariant d) (w : Invariant x) (shows : canon d ≡ canon x) (buffer : List ℕ) where
  same_sheet : sheet_text d ≡ sheet_text x
  unfolding sheet_text
  same_sheet = ap lines_of shows

  same_answer : (q : Option LineCall) → answer_here (turn_of d q buffer).answer ≡ answer_here (turn_of x q buffer).answer
  unfolding turn_of made answers
  same_answer None = refl
  same_answer (Some LineCall.Sheet) = rw same_sheet refl
  same_answer (Some (LineCall.Make c)) =
      ap (λ (a : Answer). answer_here (LineAnswer.Said a)) (first_same (shows_enough d x v w shows (c ∷ [])))

module _ (d x : Driver) (b : Brought d) (t : Taken (sheet_text d) x) where
  pub same_left : (line buffer answer : List ℕ)
      → turn_left (turn_of x (call line) buffer) buffer answer ≡ turn_left (turn_of d (call line) buffer) buffer answer
  unfolding after
  same_left line buffer answer =
      let v = brought_keep d b in
      let w = taken_keeps (sheet_text d) x t in
      let shows = (equal_sheets d x v w).0 (sym (writes_same_sheet (sheet_text d) x t)) in
      ap₂ (λ (s a : List ℕ). left 0 (sheet_left s buffer) (answer_left a answer))
      (sym (rebuilt_sheets_alike d x b t (record { line = line; buffer = buffer } ∷ [])))
      (ap line_text (sym (same_answer d x v w shows buffer (call line))))
