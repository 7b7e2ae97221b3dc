-- Document 02, Job 2: "Read a sheet and rebuild a driver that writes that same sheet. .. Any other bytes are taken exactly when they are in
-- sheet form and meet these rules." "5 for bytes not taken, tested before anything changes."
use Rattle.std.specs.Prelude.{ℕ, List, ◌≡◌}
use Rattle.driver.specs.Turns.{turn}
use Rattle.driver.specs.declared.Turn.{Turn}
use Rattle.head_driver.specs.declared.Answer.{Answer}
use Rattle.head_driver.specs.declared.Driver.{Driver}
use Rattle.script_answer.specs.declared.LineAnswer.{LineAnswer}
use Rattle.sheet_rules.specs.Form.{SheetForm}
use Rattle.sheet_rules.specs.Rules.{MeetsRules}

-- the bytes are in sheet form, the lines of that driver, and meet the rules
abbrev pub Taken : List ℕ → Driver → Type 0
Taken bytes x = SheetForm bytes x × MeetsRules x

-- What is promised of a rebuild: the driver that the bytes show, and `(done)`, where they are taken; else the driver at hand, and 5.
pub data Rebuilds (d : Driver) (bytes : List ℕ) : Turn → Type 0 where
  done : (x : Driver) → Taken bytes x → Rebuilds d bytes (turn x (LineAnswer.Said Answer.Done))
  not_taken : ((x : Driver) → ¬ Taken bytes x) → Rebuilds d bytes (turn d LineAnswer.SheetNotTaken)

-- A law: bytes show one driver at most.
abbrev pub OneDriver : Type 0
OneDriver = (bytes : List ℕ) (x y : Driver) → Taken bytes x → Taken bytes y → x ≡ y
