-- The loop: line after line, until all is taken or the room for answers ends.
use borrow.Author.Tests.{not-true, not-false}
use Rattle.script.proofs.Feeding.{cut_off, going_first, line_going, line_held, line_less, not_usable}
use Rattle.script.proofs.feed.Goals as goal

pub returns-then-not-usable : goal.returns-then-not-usable
returns-then-not-usable c = not_usable _ _ _ _ _ _ c.usable.ensures c.if-not-usable.true

pub loop-fed-init : goal.loop-fed-init
loop-fed-init c = going_first _ _ _ _ _ _ c.usable.ensures c.if-not-usable.false

pub returns-then-not-kept : goal.returns-then-not-kept
returns-then-not-kept c = cut_off _ _ _ _ _ _ _ _ c.loop-fed.invariant c.loop-fed-test.true c.if-out-fed-lt4096.false _ c.keep-kept.auto.buffer _ c.keep-kept.ensures (not-true _ c.if-not-kept.true)

pub answer_held-fed-requires-clause-held_in_bounds : goal.answer_held-fed-requires-clause-held_in_bounds
answer_held-fed-requires-clause-held_in_bounds c =
    line_held _ _ _ _ _ _ _ _ c.loop-fed.invariant c.loop-fed-test.true c.if-out-fed-lt4096.false _ c.keep-kept.auto.buffer _ c.keep-kept.ensures

pub loop-fed-smaller : goal.loop-fed-smaller
loop-fed-smaller c =
    line_less _ _ _ _ _ _ _ _ c.loop-fed.invariant c.loop-fed-test.true c.if-out-fed-lt4096.false _ c.keep-kept.auto.buffer _ c.keep-kept.ensures
    (not-false _ c.if-not-kept.false) _ _ c.answer_held-fed.ensures

pub loop-fed-preserved : goal.loop-fed-preserved
loop-fed-preserved c =
    line_going _ _ _ _ _ _ _ _ c.loop-fed.invariant c.loop-fed-test.true c.if-out-fed-lt4096.false _ c.keep-kept.auto.buffer _ c.keep-kept.ensures
    (not-false _ c.if-not-kept.false) _ _ c.answer_held-fed.ensures c.answer_held-fed.auto.out
