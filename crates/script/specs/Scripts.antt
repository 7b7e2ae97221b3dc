-- Document 01, "Lines (added)": the program `headscript`, from all bytes of its input to all bytes of its output.
use Rattle.std.specs.Prelude.{ℕ, List, [], ◌∷◌, ◌++◌, eqb, cond}
use Rattle.head_driver.specs.New.{new}
use Rattle.script_call.specs.Calls.{call}
use Rattle.script.specs.Prints.{leaves, prints}
use Rattle.head_driver.specs.declared.Driver.{Driver}

-- Lines end at line feeds; the last may lack one. Input that ends in a line feed has no further line.
abbrev pub last_line_of : List ℕ → List (List ℕ)
last_line_of [] = []
last_line_of (b ∷ line) = (b ∷ line) ∷ []

unfoldable pub lines_after : List ℕ → List ℕ → List (List ℕ)
lines_after line [] = last_line_of line
lines_after line (b ∷ input) = cond (eqb b 10) (line ∷ lines_after [] input) (lines_after (line ++ (b ∷ [])) input)

unfoldable pub lines : List ℕ → List (List ℕ)
lines input = lines_after [] input

-- each line is answered in turn, from the state that the line before it left
unfoldable pub answered : Driver → List (List ℕ) → List ℕ
answered d [] = []
answered d (line ∷ more) = prints d (call line) ++ answered (leaves d (call line)) more

-- what an input prints, from a new driver
unfoldable pub script : List ℕ → List ℕ
script input = answered new (lines input)
