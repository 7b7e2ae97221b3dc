-- Document 01, "Calls and answers": what an answer says, `(WORD VALUES..)`, or `(refused N VALUES..)`. "If an answer is an enum, the promises
-- use a definition that states this paper's number and values for each of its cases": a promise equates what is said of two answers, so it
-- holds the case itself too. What is said of the link test and of an apply's outcome stands here; of an end, a report, a view and a refusal in
-- the `Said` of `head_attempt`, `head_current`, `head_ready` and `head_life`, and of a call's input in `head_call/specs/Inputs`, where these are made;
-- of every call's answer in `head_driver/specs/Answers`.
use Rattle.std.specs.Prelude.{ℕ, List, [], ◌∷◌}
use Rattle.head_values.specs.Values.{Value, link_value, outcome_value}
use Rattle.head_values.specs.Words.{Word}
use Rattle.head_values.specs.declared.CarryOutcome.{CarryOutcome}
use Rattle.head_values.specs.declared.Link.{Link}

-- an answer of that enum: its case, its number (0 where the call is accepted), its word and its values in order
pub record Said (A : Type 0) : Type 0 where
  pub case : A
  pub number : ℕ
  pub word : Word
  pub values : List Value

-- an answer of a call that is accepted
abbrev pub accepted : {A : Type 0} → A → Word → List Value → Said A
accepted a w vs = record { case = a; number = 0; word = w; values = vs }

-- a refusal with that number
abbrev pub turned_away : {A : Type 0} → A → ℕ → List Value → Said A
turned_away a n vs = record { case = a; number = n; word = Word.refused; values = vs }

-- the same, said of an enum that has it as a case
abbrev pub within : {A B : Type 0} → (A → B) → Said A → Said B
within case s = record { case = case s.case; number = s.number; word = s.word; values = s.values }

-- `(link WORD)`
abbrev pub link_said : Link → Said Link
link_said link = accepted link Word.link (link_value link ∷ [])

-- the apply settled: `(settled OUTCOME)`
abbrev pub settled_said : CarryOutcome → Said CarryOutcome
settled_said o = accepted o Word.settled (outcome_value o ∷ [])
