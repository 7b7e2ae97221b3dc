-- A turn puts a line, which has a byte at least.
use Rattle.std.proofs.Common.{arith, ap, ◌∙◌}
use Rattle.pending.specs.Kept.{through_line_feed}
use Rattle.replay.proofs.Striking.{less_left, line_room, line_struck}
use Rattle.replay.proofs.numbers.strike.Goals as goal

pub strike_line-written-requires : goal.strike_line-written-requires
strike_line-written-requires c =
    line_room _ _ _ _ _ c.loop-at.invariant _ (c.first_line-line.ensures ∙ ap through_line_feed c.rest.ensures) _
    (omega (arith, c.requires, c.loop-at.auto.out))

pub loop-at-smaller : goal.loop-at-smaller
loop-at-smaller c =
    less_left _ _ _ _ _ c.loop-at.invariant _ (c.first_line-line.ensures ∙ ap through_line_feed c.rest.ensures) c.loop-at-test.true

pub loop-at-preserved : goal.loop-at-preserved
loop-at-preserved c =
    line_struck _ _ _ _ _ c.loop-at.invariant _ (c.first_line-line.ensures ∙ ap through_line_feed c.rest.ensures) c.loop-at-test.true _ _
    c.strike_line-written.ensures.wrote c.strike_line-written.ensures.upper_bound
