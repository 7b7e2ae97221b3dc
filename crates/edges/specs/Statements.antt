-- What is proved of the table.
use Rattle.std.specs.Prelude.{ℕ, ◌≤◌, List, [], ◌∷◌, ◌≡◌, length}
use Rattle.head_driver.specs.New.{new}
use Rattle.edges.specs.Runs.{Line, expected, printed_by}
use Rattle.edges.specs.Table.{table}

-- each run, from a new driver, prints what is written beside its lines
abbrev pub Holds : List ℕ → List (List Line) → Type 0
Holds buffer [] = Unit {0}
Holds buffer (run ∷ runs) = (printed_by buffer new run ≡ expected run) × Holds buffer runs

-- E1 to E12, the whole table, with any sheet buffer of 4,096 bytes or more.
abbrev pub EveryEdge : Type 0
EveryEdge = (buffer : List ℕ) → 4096 ≤ length buffer → Holds buffer table
