-- The line of every refusal is as document 01 writes it, and no other answer's line begins so.
use Prim.Native.Nat.{ℕ}
use native.Mathlib.Omega.{arith}
use mathlib.Core.List.{List, ◌++◌}
use mathlib.Core.Path.{◌≡◌, refl, ap}
use lib.ListN.{get_or}
use Rattle.answer_back.proofs.Forms.{line_form}
use Rattle.script_answer.specs.Answers.{line_text}
use Rattle.head_driver.specs.Answers.{said}
use Rattle.head_ready.specs.Said.{outcome_said}
use Rattle.script_value.specs.Lines.{refusal_on}
use Rattle.value_text.specs.Texts.{anchor_text}
use Rattle.value_text.specs.Values.{values_on}
use Rattle.value_text.specs.Words.{word_text}
use Rattle.text.specs.Ascii.{ascii}
use Rattle.text.specs.Decimals.{decimal, decimal_on}
use Rattle.script_answer.specs.declared.LineAnswer.{LineAnswer}
use Rattle.head_driver.specs.declared.Answer.{Answer}
use Rattle.head_ready.specs.declared.HeadOutcome.{HeadOutcome}
use Rattle.rules.specs.Said.{Says, answer_refusal, line_refusal, names_on, outcome_refusal, refusal_line}

-- two texts that differ at a place are not one
differ : (k : ℕ) (s t : List ℕ) → ¬ (get_or s k 0 ≡ get_or t k 0) → ¬ (s ≡ t)
differ k s t n e = n (ap (λ (u : List ℕ). get_or u k 0) e)

-- the line of what is said
abbrev line_of : Answer → List ℕ
line_of a = ascii "(" ++ (word_text (said a).word ++ refusal_on (said a).number (values_on (said a).values (ascii ")\n")))

outcome_says : (o : HeadOutcome) → Says (line_of (Answer.Outcome o)) (outcome_refusal o)
unfolding said outcome_said word_text refusal_on values_on refusal_line names_on anchor_text
outcome_says (HeadOutcome.Settled o) = λ rest. differ 1 _ _ (λ e. omega (arith, e))
outcome_says HeadOutcome.AlreadySettled = refl
outcome_says HeadOutcome.InFlight = refl
outcome_says (HeadOutcome.Superseded a) = refl
outcome_says (HeadOutcome.Foreign list held) = refl

said_says : (a : Answer) → Says (line_of a) (answer_refusal a)
unfolding said word_text refusal_on values_on refusal_line names_on
said_says (Answer.Ticket n) = λ rest. differ 1 _ _ (λ e. omega (arith, e))
said_says (Answer.Claimed n) = λ rest. differ 1 _ _ (λ e. omega (arith, e))
said_says Answer.Done = λ rest. differ 1 _ _ (λ e. omega (arith, e))
said_says (Answer.Outcome o) = outcome_says o
said_says (Answer.View v) = λ rest. differ 1 _ _ (λ e. omega (arith, e))
said_says Answer.Parked = λ rest. differ 1 _ _ (λ e. omega (arith, e))
said_says (Answer.Completion end) = λ rest. differ 1 _ _ (λ e. omega (arith, e))
said_says (Answer.Link link) = λ rest. differ 1 _ _ (λ e. omega (arith, e))
said_says (Answer.Report r) = λ rest. differ 3 _ _ (λ e. omega (arith, e))
said_says (Answer.Stats s) = λ rest. differ 1 _ _ (λ e. omega (arith, e))
said_says (Answer.Heads current installed previous) = λ rest. differ 1 _ _ (λ e. omega (arith, e))
said_says Answer.ListDisagrees = refl
said_says Answer.WaiterAbove15 = refl
said_says Answer.WaiterNotFree = refl
said_says Answer.WaiterFree = refl

pub line_says : (a : LineAnswer) → Says (line_text a) (line_refusal a)
unfolding line_text refusal_line names_on decimal decimal_on
line_says (LineAnswer.Said a) = rw (line_form a) (said_says a)
line_says LineAnswer.NoCall = refl
line_says LineAnswer.SheetTooShort = refl
line_says LineAnswer.SheetNotTaken = refl
line_says (LineAnswer.Sheet n) = λ rest. differ 0 _ _ (λ e. omega (arith, e))
