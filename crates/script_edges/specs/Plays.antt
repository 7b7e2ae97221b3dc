-- One byte of a script, the beginning of one, and a new driver's sheet.
use Rattle.std.specs.Prelude.{ℕ, ◌<◌, ◌≤◌, List, [], ◌∷◌, ◌≡◌}
use Rattle.driver.specs.Turns.{sheet_after, turn_of}
use Rattle.head_driver.specs.New.{new}
use Rattle.script.specs.Feeds.{Reading, all_taken}
use Rattle.script_call.specs.Calls.{call}
use Rattle.text.specs.Ascii.{ascii}
use Rattle.script.specs.declared.Fed.{Fed}
use Rattle.script_answer.specs.declared.LineAnswer.{LineAnswer}

abbrev pub afresh : Fed
afresh = record { driver = new; held = 0; taken = 0; written = 0 }

-- a byte that was taken was taken as `script` takes it
pub record TakesByte (s t : Reading) (b taken : ℕ) : Type 0 where
  pub within : taken ≤ 1
  pub stands : 0 < taken → t ≡ all_taken s (b ∷ [])

-- the mark `%` begins a script, and any other byte is one of the script
pub record Plays (s t : Reading) (b : ℕ) (r : Fed) : Type 0 where
  pub mark : b ≡ 37 → r ≡ afresh
  pub byte : (b ≡ 37 → ⊥) → TakesByte s t b r.taken

-- what `(sheet)` leaves in a lent buffer, and what a new driver answers to it
abbrev pub sheet_left : List ℕ → List ℕ
sheet_left buf = sheet_after new (call (ascii "(sheet)")) buf

pub record AsksSheet (old new' : List ℕ) (r : LineAnswer) : Type 0 where
  pub answer : r ≡ (turn_of new (call (ascii "(sheet)")) old).answer
  pub sheet : new' ≡ sheet_left old
