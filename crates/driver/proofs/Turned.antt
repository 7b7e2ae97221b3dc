-- What is said of a line's answer is said of it alone, and is what its line says. A turn that equals the definition's keeps the whole promise, and one that
-- keeps it equals the definition's.
use Prim.Native.Nat.{ℕ}
use mathlib.Core.List.{List}
use mathlib.Core.Path.{◌≡◌, refl, ap, ap₂, sym, ◌∙◌}
use Rattle.head_driver.proofs.Replied.{answer_case}
use Rattle.head_driver.specs.declared.Answer.{Answer}
use Rattle.head_driver.specs.declared.Driver.{Driver}
use Rattle.script_answer.specs.declared.LineAnswer.{LineAnswer}
use Rattle.text.specs.Decimals.{decimal, decimal_on}
use Rattle.value_text.specs.Values.{values_on}
use Rattle.value_text.specs.Words.{word_text}
use Rattle.script_value.specs.Lines.{answer_text, refusal_on, said_text}
use Rattle.script_answer.specs.Answers.{answer_line, line_text}
use Rattle.script_call.specs.Calls.{call}
use Rattle.driver.specs.Turns.{LineSaid, LineSays, Takes, line_said, said_line, sheet_after, turn_of}
use Rattle.driver.specs.declared.Turn.{Turn}

-- the case that is said
case_of : LineSaid → LineAnswer
case_of (LineSaid.answer s) = s.case
case_of (LineSaid.sheet n) = LineAnswer.Sheet n

-- is the answer itself
said_back : (a : LineAnswer) → case_of (line_said a) ≡ a
unfolding case_of line_said
said_back (LineAnswer.Said a) = ap (λ (x : Answer). LineAnswer.Said x) (answer_case a)
said_back LineAnswer.NoCall = refl
said_back LineAnswer.SheetTooShort = refl
said_back LineAnswer.SheetNotTaken = refl
said_back (LineAnswer.Sheet n) = refl

pub line_exact : {a b : LineAnswer} → line_said a ≡ line_said b → a ≡ b
line_exact e = sym (said_back _) ∙ ap case_of e ∙ said_back _

-- and its line says so
pub line_says : LineSays
unfolding line_text line_said said_line answer_line answer_text said_text word_text refusal_on values_on decimal decimal_on
line_says (LineAnswer.Said a) = refl
line_says LineAnswer.NoCall = refl
line_says LineAnswer.SheetTooShort = refl
line_says LineAnswer.SheetNotTaken = refl
line_says (LineAnswer.Sheet n) = refl

module _ {d : Driver} {line old new : List ℕ} {r : Turn} where
  pub takes : r ≡ turn_of d (call line) old → new ≡ sheet_after d (call line) old → Takes d line old new r
  takes e s = record { driver = ap (λ (t : Turn). t.driver) e; answer = ap (λ (t : Turn). line_said t.answer) e; sheet = s }

  pub turned : Takes d line old new r → r ≡ turn_of d (call line) old
  turned t = ap₂ (λ (e : Driver) (a : LineAnswer). record { driver = e; answer = a }) t.driver (line_exact t.answer)
