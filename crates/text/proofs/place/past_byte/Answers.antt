-- The line ends before the byte.
use Rattle.text.proofs.Places.{byte_rest, byte_past_end}
use Rattle.text.proofs.place.past_byte.Goals as goal

pub returns-in_err-get-clause-place : goal.returns-in_err-get-clause-place
returns-in_err-get-clause-place c = search (byte_past_end, c.in_ok-at.was, c.from_residual-in_err-get.ensures, c.in_err-get.ensures.lookup)

pub returns-in_err-get-clause-rest : goal.returns-in_err-get-clause-rest
returns-in_err-get-clause-rest c = byte_rest _ _ _ _ (returns-in_err-get-clause-place c)
