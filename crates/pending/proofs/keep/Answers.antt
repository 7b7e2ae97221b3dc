-- The bytes up to the line feed are held, or all that are left.
use Rattle.pending.proofs.Keeping.{keep_end, keep_feed}
use Rattle.pending.proofs.keep.Goals as goal

pub returns-in-Some : goal.returns-in-Some
returns-in-Some c = search (keep_feed, c.in-Some.ensures)

pub returns-in-None : goal.returns-in-None
returns-in-None c = search (keep_end, c.in-None.ensures)
