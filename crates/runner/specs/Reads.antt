-- What a run writes: document 01's program, over a reader that says what it brings and a writer that says what it holds.
use Rattle.std.specs.Prelude.{ℕ, ◌≤◌, ◌<◌, List, ◌≡◌, length, take, Option, None, Some}
use Rattle.std.specs.Io.KnownBytes.{Appends}
use Rattle.head_driver.specs.declared.Driver.{Driver}
use Rattle.script_answer.specs.Answers.{line_text}
use Rattle.script_answer.specs.declared.LineAnswer.{LineAnswer}
use Rattle.script.specs.Feeds.{Reading, all_prints, all_taken, last_prints}
use Rattle.script.specs.Scripts.{answered, lines}

-- ---- a run

-- the lines of the input are answered in turn, from the driver given, and the answers written; where the reader does not say what it
-- brings, nothing is said
abbrev pub AnswersInput : Driver → Option (List ℕ) → Option (List ℕ) → Option (List ℕ) → Type 0
AnswersInput d None old new = Unit {0}
AnswersInput d (Some input) old new = Appends old new (answered d (lines input))

-- where there is no driver to start from, 5 is all that is written
abbrev pub Runs : Option Driver → Option (List ℕ) → Option (List ℕ) → Option (List ℕ) → Type 0
Runs None input old new = Appends old new (line_text LineAnswer.SheetNotTaken)
Runs (Some d) input old new = AnswersInput d input old new

-- ---- part of an input: where the reading stands after what a read brought, and what is written for it

-- what counts as taken was taken as `script` takes it, and its answers written
pub record AnswersSome (s t : Reading) (input : List ℕ) (taken : ℕ) (old new : Option (List ℕ)) : Type 0 where
  pub within : taken ≤ length input
  pub stands : 0 < taken → t ≡ all_taken s (take taken input)
  pub writes : 0 < taken → Appends old new (all_prints s (take taken input))

-- unless a write failed, all of it was, and counts as taken
pub record AnswersAll (s t : Reading) (input : List ℕ) (taken : ℕ) (old new : Option (List ℕ)) : Type 0 where
  pub whole : 0 < taken → taken ≡ length input
  pub stands : taken ≡ length input → t ≡ all_taken s input
  pub writes : taken ≡ length input → Appends old new (all_prints s input)

-- what is held is answered as the last line
abbrev pub AnswersLast : Reading → Option (List ℕ) → Option (List ℕ) → Type 0
AnswersLast s old new = 513 ≤ length s.kept.buffer → s.kept.held ≤ 513 → Appends old new (last_prints s)
