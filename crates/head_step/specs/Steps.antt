-- Demand 2's step definition: the choice of the call, in demand 3's order, and nothing else.
use Rattle.head_call.specs.declared.Call.{Call}
use Rattle.head_driver.specs.declared.Driver.{Driver}
use Rattle.head_driver.specs.declared.Reply.{Reply}
use Rattle.head_calls.specs.Apply.{apply}
use Rattle.head_calls.specs.Claim.{claim}
use Rattle.head_calls.specs.Deliver.{deliver}
use Rattle.head_calls.specs.Release.{release}
use Rattle.head_waits.specs.Snapshot.{snapshot}
use Rattle.head_waits.specs.Waits.{resume, wait}
use Rattle.head_asks.specs.Asks.{completion, heads, link, last_report, stats}

-- each call by its definition; most are methods of `BalHeadDriver`
unfoldable pub step : Driver → Call → Reply
step d (Call.Deliver a p cold) = deliver d a p cold
step d (Call.Claim ticket) = claim d ticket
step d (Call.Release owner) = release d owner
step d (Call.Apply ticket list handle carried report) = apply d ticket list handle carried report
step d (Call.Snapshot a spare) = snapshot d a spare
step d (Call.Wait n a spare) = wait d n a spare
step d (Call.Resume n spare) = resume d n spare
step d (Call.Completion a) = completion d a
step d (Call.Link parent child parent_hash) = link d parent child parent_hash
step d Call.Report = last_report d
step d Call.Stats = stats d
step d Call.Heads = heads d
