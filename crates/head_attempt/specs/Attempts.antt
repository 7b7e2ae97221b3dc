-- Document 01, "Lifecycle": "An attempt has an epoch and at most one end: settled, superseded
-- or abandoned. The first end stays." The Rust: `ClaimAttempt`, of head_lifecycle.rs.
use Rattle.head_attempt.specs.declared.ClaimAttempt.{ClaimAttempt}
use Rattle.head_attempt.specs.declared.HeadCompletion.{HeadCompletion}
use Rattle.head_count.specs.declared.Epoch.{Epoch}

-- a new open attempt: `ClaimAttempt::minted`, and at epoch 0 `ClaimAttempt::delivered`
unfoldable pub minted : Epoch → ClaimAttempt
minted e = record { epoch = e; end = HeadCompletion.Open }

-- a new attempt, ended settled: `ClaimAttempt::settled`
unfoldable pub settled : Epoch → ClaimAttempt
settled e = record { epoch = e; end = HeadCompletion.Settled }

-- "The first end stays."
unfoldable pub first_end : HeadCompletion → HeadCompletion → HeadCompletion
first_end HeadCompletion.Open later = later
first_end HeadCompletion.Settled later = HeadCompletion.Settled
first_end HeadCompletion.Superseded later = HeadCompletion.Superseded
first_end HeadCompletion.Abandoned later = HeadCompletion.Abandoned

-- the attempt ends so, if it has not ended: `ClaimAttempt::publish`
unfoldable pub publish : ClaimAttempt → HeadCompletion → ClaimAttempt
publish t end = record { epoch = t.epoch; end = first_end t.end end }
