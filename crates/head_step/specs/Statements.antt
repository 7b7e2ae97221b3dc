-- What is proved of a call's input: that it can be asked before the call is made.
use Rattle.std.specs.Prelude.{◌≡◌, ◌⊎◌, Option, None, Some}
use Rattle.head_call.specs.Inputs.{input_number, input_refusal}
use Rattle.head_call.specs.declared.Call.{Call}
use Rattle.head_call.specs.declared.InputRefusal.{InputRefusal}
use Rattle.head_driver.specs.Answers.{said}
use Rattle.head_driver.specs.declared.Answer.{Answer}
use Rattle.head_driver.specs.declared.Driver.{Driver}
use Rattle.head_step.specs.Steps.{step}

-- the input's refusal that an answer is: 2 or 3
unfoldable pub input_said : Answer → Option InputRefusal
input_said (Answer.Ticket n) = None
input_said (Answer.Claimed e) = None
input_said Answer.Done = None
input_said (Answer.Outcome o) = None
input_said (Answer.View v) = None
input_said Answer.Parked = None
input_said (Answer.Completion end) = None
input_said (Answer.Link link) = None
input_said (Answer.Report r) = None
input_said (Answer.Stats s) = None
input_said (Answer.Heads current installed previous) = None
input_said Answer.ListDisagrees = Some InputRefusal.ListDisagrees
input_said Answer.WaiterAbove15 = Some InputRefusal.WaiterAbove15
input_said Answer.WaiterNotFree = None
input_said Answer.WaiterFree = None

-- an answer that is the input's refusal says its number
abbrev pub SaysInput : Type 0
SaysInput = (a : Answer) → (input_said a ≡ None) ⊎ ((said a).number ≡ input_number (input_said a))

-- What the call's input alone says is what `step` answers: 2 or 3 exactly where it says so,
abbrev pub AnswersInput : Type 0
AnswersInput = (d : Driver) (call : Call) → input_said (step d call).answer ≡ input_refusal call

-- and then the driver is as it was.
abbrev pub KeepsTurnedAway : Type 0
KeepsTurnedAway = (d : Driver) (call : Call) → (input_refusal call ≡ None) ⊎ ((step d call).driver ≡ d)
