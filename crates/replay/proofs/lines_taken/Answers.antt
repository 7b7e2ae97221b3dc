-- Each turn takes a byte at least, and what is counted follows what was counted before.
use Rattle.replay.proofs.Replaying.{less_left, record_follows}
use Rattle.replay.proofs.lines_taken.Goals as goal

pub loop-at-smaller-then-kept : goal.loop-at-smaller-then-kept
loop-at-smaller-then-kept c = less_left _ _ _ _ _ _ c.keep-kept.ensures c.loop-at-test.true

pub loop-at-preserved-then-kept : goal.loop-at-preserved-then-kept
loop-at-preserved-then-kept c = record_follows _ _ _ _ _ _ _ _ c.loop-at.invariant c.record_taken-now.ensures

pub loop-at-smaller : goal.loop-at-smaller
loop-at-smaller c = less_left _ _ _ _ _ _ c.keep-kept.ensures c.loop-at-test.true
