-- One line's answer at the front of a buffer.
use Prim.Native.Nat.{ℕ, ◌≤◌}
use mathlib.Core.List.{List}
use mathlib.Core.Path.{◌≡◌, refl, ap, sym, ◌∙◌}
use lib.ListN.{length}
use borrow.Author.Tests.{le-ltb}
use Rattle.std.specs.Prelude.{Option, Some, None, unwrap_or}
use Rattle.driver.proofs.Turned.{turned}
use Rattle.driver.specs.Turns.{Takes, made, sheet_after, sheet_answer, turn_of}
use Rattle.script_answer.specs.Answers.{line_text}
use Rattle.script_call.specs.Calls.{call}
use Rattle.script_sheet.specs.Sheets.{sheet_text}
use Rattle.script_value.specs.Buffers.{AtFront, buffer_after, written}
use Rattle.script_answer.specs.declared.LineAnswer.{LineAnswer}
use Rattle.driver.specs.declared.Turn.{Turn}
use Rattle.head_driver.specs.declared.Driver.{Driver}
use Rattle.script_call.specs.declared.LineCall.{LineCall}
use Rattle.script.specs.Prints.{leaves, prints}
use Rattle.script.specs.Parts.{Prints, PutsAnswer, answer_length, at_front}

-- an answer's line is put, and counted
puts : (a : LineAnswer) (old new : List ℕ) (w : Option ℕ) (n : ℕ) → answer_length a ≡ length (line_text a) → 512 ≤ length old
    → AtFront 512 old new (line_text a) w → n ≡ unwrap_or w 0 → PutsAnswer a old new n
unfolding written buffer_after at_front
puts a old new w n e room front told = record {
  bytes = front.bytes ∙ rw (le-ltb (length old) 512 room);
  count = told ∙ ap (λ (v : Option ℕ). unwrap_or v 0) front.result ∙ rw (le-ltb (length old) 512 room) (sym e);
}

module _ (answer : LineAnswer) (old : List ℕ) where
  -- every answer but a sheet
  pub puts_line : (a : LineAnswer) (new : List ℕ) (w : Option ℕ) (n : ℕ) → answer_length a ≡ length (line_text a) → answer ≡ a → 512 ≤ length old
      → AtFront 512 old new (line_text a) w → n ≡ unwrap_or w 0 → PutsAnswer answer old new n
  puts_line a new w n e is room front told = rw is (puts a old new w n e room front told)

  pub puts_sheet : (n : ℕ) → answer ≡ LineAnswer.Sheet n → PutsAnswer answer old old n
  unfolding line_text answer_length at_front
  puts_sheet n is = rw is (record { bytes = refl; count = refl })

-- what a line prints stands at the front, whether the sheet was put or the answer's line
module _ (d : Driver) (old : List ℕ) (room : 4096 ≤ length old) where
  sheet_put : (new : List ℕ) (n : ℕ) → PutsAnswer (sheet_answer (written 4096 old (sheet_text d))) (buffer_after 4096 old (sheet_text d)) new n
      → Prints (sheet_text d) d old new (record { driver = d; written = n })
  unfolding written buffer_after sheet_answer answer_length line_text at_front
  sheet_put new n p =
      let q = rw (le-ltb (length old) 4096 room) at p in
      record { driver = refl; bytes = q.bytes; count = q.count }

  by_call : (c : Option LineCall) (new : List ℕ) (n : ℕ) → PutsAnswer (turn_of d c old).answer (sheet_after d c old) new n
      → Prints (prints d c) (leaves d c) old new (record { driver = (turn_of d c old).driver; written = n })
  unfolding prints leaves turn_of sheet_after made answer_length
  by_call None new n p = record { driver = refl; bytes = p.bytes; count = p.count }
  by_call (Some LineCall.Sheet) new n p = sheet_put new n p
  by_call (Some (LineCall.Make c)) new n p = record { driver = refl; bytes = p.bytes; count = p.count }

  pub prints_line : (line mid new : List ℕ) (t : Turn) (n : ℕ) → Takes d line old mid t → PutsAnswer t.answer mid new n
      → Prints (prints d (call line)) (leaves d (call line)) old new (record { driver = t.driver; written = n })
  prints_line line mid new t n takes p =
      rw (turned takes) (by_call (call line) new n (rw (turned takes, takes.sheet) at p))
