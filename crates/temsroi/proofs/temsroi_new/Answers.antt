-- The buffer is too short, or has a new driver's sheet.
use Rattle.temsroi.specs.Calls.{Begins}
use Rattle.temsroi.proofs.temsroi_new.Goals as goal

pub returns-then-sheet-lt4096 : goal.returns-then-sheet-lt4096
returns-then-sheet-lt4096 c = Begins.too_short c.if-sheet-lt4096.true

pub returns : goal.returns
returns c = search (Begins.written, c.if-sheet-lt4096.false, c.new.ensures, c.leave_sheet.ensures)
