-- A turn passes one word.
use Rattle.std.proofs.Common.{ap, ◌∙◌}
use Rattle.replay.specs.Numbers.{spaced_word}
use Rattle.replay.proofs.Striking.{more_words, word_within}
use Rattle.replay.proofs.numbers.after_words.Goals as goal

pub loop-preserved : goal.loop-preserved
loop-preserved c =
    let rest = c.rest.ensures in (
      more_words _ _ _ _ _ _ c.loop-test.true (c.spaced_word-at.ensures.count ∙ ap spaced_word rest) c.loop.invariant.0,
      word_within _ _ _ _ rest c.loop.invariant.1 c.spaced_word-at.ensures.upper_bound,
    )
