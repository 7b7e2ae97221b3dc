-- What is proved of refusals: demand 1 over lines, and over bytes to rebuild a driver from.
use Rattle.std.specs.Prelude.{ℕ, List, [], ◌↔◌, ◌≡◌, Option, Some}
use Rattle.alike.specs.Invariant.{Invariant}
use Rattle.driver.specs.Turns.{sheet_after, turn_of}
use Rattle.script_answer.specs.Answers.{line_text}
use Rattle.head_current.specs.Heads.{delivery}
use Rattle.script_call.specs.Calls.{call}
use Rattle.driver.specs.declared.Turn.{Turn}
use Rattle.head_call.specs.declared.Call.{Call}
use Rattle.head_current.specs.declared.HeadTicket.{HeadTicket}
use Rattle.head_driver.specs.declared.Driver.{Driver}
use Rattle.script_call.specs.declared.LineCall.{LineCall}
use Rattle.rebuild.specs.Rebuilds.{Rebuilds}
use Rattle.head_values.specs.declared.ReadAnchor.{ReadAnchor}
use Rattle.rules.specs.Refusals.{FirstThatApplies, HeadInstalled, IsSettled, Refusal, after_refusal, rebuild_tests, superseded, tests}
use Rattle.rules.specs.Brought.{Brought}
use Rattle.rules.specs.Runs.{Entry, turn_at}
use Rattle.rules.specs.Said.{Says, line_refusal}

-- after a refusal the driver is as it was but for discarded, and the sheet buffer keeps every byte
abbrev pub Unchanged : Driver → Option LineCall → List ℕ → Refusal → Driver → List ℕ → Type 0
Unchanged d q buffer Refusal.accepted d' buffer' = Unit {0}
Unchanged d q buffer (Refusal.refused n names) d' buffer' = (d' ≡ after_refusal d q n) × (buffer' ≡ buffer)

-- what a line gets, and the buffer after it
pub record TurnedAs (d : Driver) (line buffer : List ℕ) (got : Turn) (buffer' : List ℕ) : Type 0 where
  -- the answer is refusal N, naming those anchors, exactly where N's is the first condition that applies, and it is no refusal exactly where none applies
  pub exactly : (r : Refusal) → (line_refusal got.answer ≡ r) ↔ FirstThatApplies (tests d line buffer) r
  -- the answer's line says so
  pub says : Says (line_text got.answer) (line_refusal got.answer)
  pub unchanged : Unchanged d (call line) buffer (line_refusal got.answer) got.driver buffer'

-- Every driver, line and buffer.
abbrev pub TurnedAway : Type 0
TurnedAway = (d : Driver) (line buffer : List ℕ) → TurnedAs d line buffer (turn_of d (call line) buffer) (sheet_after d (call line) buffer)

-- what bytes to rebuild a driver from get
pub record RebuildTurnedAs (d : Driver) (bytes : List ℕ) (got : Turn) : Type 0 where
  -- the answer is refusal 5 exactly where the bytes are not taken, and it is no refusal exactly where they are
  pub exactly : (r : Refusal) → (line_refusal got.answer ≡ r) ↔ FirstThatApplies (rebuild_tests bytes) r
  -- the answer's line says so
  pub says : Says (line_text got.answer) (line_refusal got.answer)
  -- after a refusal the driver is as it was
  pub unchanged : (n : ℕ) (names : List ReadAnchor) → line_refusal got.answer ≡ Refusal.refused n names → got.driver ≡ d

-- Every driver and all bytes, of what a rebuild promises.
abbrev pub RebuildTurnedAway : Type 0
RebuildTurnedAway = (d : Driver) (bytes : List ℕ) (got : Turn) → Rebuilds d bytes got → RebuildTurnedAs d bytes got

-- In every driver that lines and rebuilds bring about, a claim's 13 is exactly "the head is installed": a line that claims is refused so
-- exactly where 11, which a claim tests first, does not apply and the head is installed.
abbrev pub ClaimsInstalled : Type 0
ClaimsInstalled = (d : Driver) → Brought d → (e : Entry) (ticket : HeadTicket) → call e.line ≡ Some (LineCall.Make (Call.Claim ticket))
    → (line_refusal (turn_at d e).answer ≡ Refusal.refused 13 [])
    ↔ ((¬ (superseded (delivery d.life.current) ticket).applies) × HeadInstalled d.life.installed (delivery d.life.current))

-- In a driver that keeps the invariant a settled head is installed.
abbrev pub SettledInstalled : Type 0
SettledInstalled = (d : Driver) → Invariant d → IsSettled d.life.current → HeadInstalled d.life.installed (delivery d.life.current)
