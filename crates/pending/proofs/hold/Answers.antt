-- The bytes that are still kept are put as one text.
use Rattle.std.proofs.Common.{sym}
use Rattle.std.proofs.Math.Seq.{length-take-le}
use Rattle.pending.proofs.Keeping.{room_within, some_held}
use Rattle.pending.proofs.hold.Goals as goal

pub slice_bounds-put-end : goal.slice_bounds-put-end
slice_bounds-put-end c = sym (length-take-le _ _ (search room_within))

pub returns : goal.returns
returns c = search some_held
