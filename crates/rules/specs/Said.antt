-- Document 01, "Lines": which answers are refusals, and a refusal's line.
use Rattle.std.specs.Prelude.{ℕ, List, [], ◌∷◌, ◌++◌, ◌≡◌}
use Rattle.value_text.specs.Texts.{anchor_text}
use Rattle.text.specs.Ascii.{ascii}
use Rattle.text.specs.Decimals.{decimal}
use Rattle.script_answer.specs.declared.LineAnswer.{LineAnswer}
use Rattle.head_values.specs.declared.ReadAnchor.{ReadAnchor}
use Rattle.head_driver.specs.declared.Answer.{Answer}
use Rattle.head_ready.specs.declared.HeadOutcome.{HeadOutcome}
use Rattle.rules.specs.Refusals.{Refusal}

-- ---- the refusals among the answers

abbrev pub outcome_refusal : HeadOutcome → Refusal
outcome_refusal (HeadOutcome.Settled o) = Refusal.accepted
outcome_refusal HeadOutcome.AlreadySettled = Refusal.refused 13 []
outcome_refusal HeadOutcome.InFlight = Refusal.refused 14 []
outcome_refusal (HeadOutcome.Superseded a) = Refusal.refused 11 (a ∷ [])
outcome_refusal (HeadOutcome.Foreign list held) = Refusal.refused 12 (list ∷ (held ∷ []))

abbrev pub answer_refusal : Answer → Refusal
answer_refusal (Answer.Ticket n) = Refusal.accepted
answer_refusal (Answer.Claimed e) = Refusal.accepted
answer_refusal Answer.Done = Refusal.accepted
answer_refusal (Answer.Outcome o) = outcome_refusal o
answer_refusal (Answer.View v) = Refusal.accepted
answer_refusal Answer.Parked = Refusal.accepted
answer_refusal (Answer.Completion end) = Refusal.accepted
answer_refusal (Answer.Link link) = Refusal.accepted
answer_refusal (Answer.Report r) = Refusal.accepted
answer_refusal (Answer.Stats s) = Refusal.accepted
answer_refusal (Answer.Heads current installed previous) = Refusal.accepted
answer_refusal Answer.ListDisagrees = Refusal.refused 2 []
answer_refusal Answer.WaiterAbove15 = Refusal.refused 3 []
answer_refusal Answer.WaiterNotFree = Refusal.refused 15 []
answer_refusal Answer.WaiterFree = Refusal.refused 16 []

abbrev pub line_refusal : LineAnswer → Refusal
line_refusal (LineAnswer.Said a) = answer_refusal a
line_refusal LineAnswer.NoCall = Refusal.refused 1 []
line_refusal LineAnswer.SheetTooShort = Refusal.refused 4 []
line_refusal LineAnswer.SheetNotTaken = Refusal.refused 5 []
line_refusal (LineAnswer.Sheet n) = Refusal.accepted

-- ---- their lines

-- anchors, each after a space, and the line's end
unfoldable pub names_on : List ReadAnchor → List ℕ
names_on [] = ascii ")\n"
names_on (a ∷ more) = ascii " " ++ (anchor_text a ++ names_on more)

-- `(refused 11 A)`, `(refused 12 LIST HELD)`, others `(refused N)`
unfoldable pub refusal_line : ℕ → List ReadAnchor → List ℕ
refusal_line n names = ascii "(refused " ++ (decimal n ++ names_on names)

-- a refusal is written so, and the line of an accepted call does not begin so
abbrev pub Says : List ℕ → Refusal → Type 0
Says line Refusal.accepted = (rest : List ℕ) → ¬ (line ≡ ascii "(refused" ++ rest)
Says line (Refusal.refused n names) = line ≡ refusal_line n names
