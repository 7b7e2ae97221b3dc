-- Document 01, "The sheet": its lines in order, and nothing after them.
use Rattle.std.specs.Prelude.{ℕ, List, ◌++◌}
use Rattle.alike.specs.Canon.{canon}
use Rattle.sheet_lines.specs.Lines.{count_line, current_line, installed_line, previous_line, superseded_line, waiter_lines}
use Rattle.head_driver.specs.declared.Driver.{Driver}
use Rattle.head_life.specs.declared.HeadLifecycle.{HeadLifecycle}

-- count; current; superseded; installed; previous
unfoldable pub life_lines : HeadLifecycle → List ℕ
life_lines l = count_line l.stats l.claim_epoch ++ (current_line l.current ++ (superseded_line l.superseded ++ (installed_line l.installed ++ previous_line l.previous)))

-- these, and each waiter not free, ascending
unfoldable pub lines_of : Driver → List ℕ
lines_of d = life_lines d.life ++ waiter_lines 0 d.waiters

-- the sheet is written from what is shown alone
unfoldable pub sheet_text : Driver → List ℕ
sheet_text d = lines_of (canon d)
