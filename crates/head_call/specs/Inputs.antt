-- Document 01, "Turned away by the input", as a function of the call alone: "Apply tests 2, ..", "Wait tests 3, ..; resume 3, ..". (1 and 4
-- are of lines and of the sheet's buffer.) That this is what `step` answers is a law: `head_step/specs/Statements`.
use Rattle.std.specs.Prelude.{ℕ, [], ltb, cond, not, Option, None, Some}
use Rattle.head_values.specs.Lists.{as_prepared}
use Rattle.head_values.specs.Said.{Said, turned_away}
use Rattle.head_values.specs.declared.PreparedBal.{PreparedBal}
use Rattle.head_call.specs.declared.Call.{Call}
use Rattle.head_call.specs.declared.InputRefusal.{InputRefusal}

-- "2 list and anchor disagree on `no-hash`; 3 waiter number above 15"
unfoldable pub refusal_said : InputRefusal → Said InputRefusal
refusal_said InputRefusal.ListDisagrees = turned_away InputRefusal.ListDisagrees 2 []
refusal_said InputRefusal.WaiterAbove15 = turned_away InputRefusal.WaiterAbove15 3 []

-- the refusal's number, or 0 where the input is taken
unfoldable pub input_number : Option InputRefusal → ℕ
input_number None = 0
input_number (Some refusal) = (refusal_said refusal).number

-- "2 list and anchor disagree on `no-hash`"
unfoldable pub list_refusal : PreparedBal → Option InputRefusal
list_refusal list = cond (not (as_prepared list)) (Some InputRefusal.ListDisagrees) None

-- "3 waiter number above 15"
unfoldable pub waiter_refusal : ℕ → Option InputRefusal
waiter_refusal n = cond (ltb 15 n) (Some InputRefusal.WaiterAbove15) None

-- the calls in demand 3's order
unfoldable pub input_refusal : Call → Option InputRefusal
input_refusal (Call.Deliver a p cold) = None
input_refusal (Call.Claim ticket) = None
input_refusal (Call.Release owner) = None
input_refusal (Call.Apply ticket list handle carried report) = list_refusal list
input_refusal (Call.Snapshot a spare) = None
input_refusal (Call.Wait n a spare) = waiter_refusal n
input_refusal (Call.Resume n spare) = waiter_refusal n
input_refusal (Call.Completion a) = None
input_refusal (Call.Link parent child parent_hash) = None
input_refusal Call.Report = None
input_refusal Call.Stats = None
input_refusal Call.Heads = None
