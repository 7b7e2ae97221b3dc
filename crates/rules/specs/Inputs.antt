-- The sheet rule over whole inputs of `headscript`: what two inputs print for a last `(sheet)`.
use Rattle.std.specs.Prelude.{ℕ, List, [], ◌∷◌, ◌++◌, map, ◌↔◌, ◌≡◌, length, drop}
use Rattle.head_driver.specs.New.{new}
use Rattle.script.specs.Scripts.{lines, script}
use Rattle.text.specs.Ascii.{ascii}
use Rattle.head_driver.specs.declared.Driver.{Driver}
use Rattle.rules.specs.Runs.{Entry, after}
use Rattle.rules.specs.Statements.{CountersBelow, SameAnswers}

-- every line of the input has its line feed
pub data EndsInFeed : List ℕ → Type 0 where
  empty : EndsInFeed []
  ended : (input : List ℕ) → EndsInFeed (input ++ (10 ∷ []))

-- what an input prints for a `(sheet)` after its last line
abbrev pub last_sheet : List ℕ → List ℕ
last_sheet input = drop (length (script input)) (script (input ++ ascii "(sheet)\n"))

-- a line with no sheet buffer beside it: the driver that a line leaves is the same whatever the buffer
abbrev pub alone : List ℕ → Entry
alone line = record { line = line; buffer = [] }

-- the driver that an input leaves
abbrev pub driver_left_by : List ℕ → Driver
driver_left_by input = after new (map alone (lines input))

-- Two inputs print the same for a last `(sheet)` exactly when every list of further lines gets the same answers after both.
abbrev pub InputsRule : Type 0
InputsRule = (first second : List ℕ) → EndsInFeed first → EndsInFeed second
    → CountersBelow (driver_left_by first) → CountersBelow (driver_left_by second)
    → (last_sheet first ≡ last_sheet second) ↔ SameAnswers (driver_left_by first) (driver_left_by second)
