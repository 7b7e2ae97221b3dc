-- Document 02, Job 1: "That number never exceeds the delivered count." Over lines and rebuilds; no counter is bounded, so at
-- 2^64 - 1 too.
use Rattle.std.specs.Prelude.{ℕ, ◌≤◌, Some, List, ◌≡◌, length}
use Rattle.head_ready.specs.Ranges.{WhenNumbered}
use Rattle.head_ready.specs.declared.HeadView.{HeadView}
use Rattle.head_driver.specs.declared.Answer.{Answer}
use Rattle.head_driver.specs.declared.Driver.{Driver}
use Rattle.alike.specs.Invariant.{NumberAtMost, WhenGeneration}
use Rattle.script_answer.specs.declared.LineAnswer.{LineAnswer}
use Rattle.sheet_read.specs.Reads.{read_sheet}
use Rattle.rules.specs.Brought.{Brought}
use Rattle.rules.specs.Runs.{Entry, turn_at}
use Rattle.rules.specs.Sheets.{sheet_into}

-- the numbers of installed and previous are at most the delivered count
pub record NumbersAtMost (d : Driver) : Type 0 where
  pub installed : WhenGeneration d.life.installed (NumberAtMost d.life.stats.delivered)
  pub previous : WhenGeneration d.life.previous (NumberAtMost d.life.stats.delivered)

-- In every driver that lines and rebuilds bring about, the numbers of installed and previous never exceed the delivered count;
abbrev pub NumbersNeverExceed : Type 0
NumbersNeverExceed = (d : Driver) → Brought d → NumbersAtMost d

-- so those that its sheet shows don't: what `(sheet)` writes into 4,096 bytes or more, up to its last line feed, reads as a
-- driver of which the same holds, the delivered count of the sheet's own count line being the bound;
abbrev pub SheetNeverExceeds : Type 0
SheetNeverExceeds = (d : Driver) → Brought d → (buffer : List ℕ) → 4096 ≤ length buffer
    → (shown : Driver) × (read_sheet (sheet_into buffer d) ≡ Some shown) × NumbersAtMost shown

-- nor does the number of a view, whatever line asks for it: a snapshot, a wait or a resume.
abbrev pub ViewsNeverExceed : Type 0
ViewsNeverExceed = (d : Driver) → Brought d → (asked : Entry) (v : HeadView)
    → (turn_at d asked).answer ≡ LineAnswer.Said (Answer.View v)
    → WhenNumbered v.source (λ seq. seq.0 ≤ d.life.stats.delivered)
