-- The bytes before are passed.
use Rattle.std.proofs.Common.{◌≡◌, drop}
use Rattle.line_reader.specs.Reads.{rest}
use Rattle.text.specs.Rests.{after}
use Rattle.value_read.proofs.given.past_text.Given as goal

abbrev pub invariant-loop-b : goal.invariant-loop-b
invariant-loop-b l =
    (l.r.line ≡ l.initial.r.line) × (after l.text (rest l.initial.r) ≡ after (drop l.b-index l.text) (rest l.r))
