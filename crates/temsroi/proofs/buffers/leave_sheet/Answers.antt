-- The zero bytes begin where the sheet ends.
use Rattle.std.proofs.Common.{rules}
use Rattle.temsroi.proofs.LentBuffers.{count_fits}
use Rattle.temsroi.proofs.buffers.leave_sheet.Goals as goal

pub slice_bounds-fill-count : goal.slice_bounds-fill-count
slice_bounds-fill-count c = search (count_fits, c.put_sheet.ensures)

pub slice_bounds-fill-start : goal.slice_bounds-fill-start
slice_bounds-fill-start c = search (rules, count_fits, c.put_sheet.ensures)
