-- What is handed back is the number at the place, so it is what the line's rest says.
use Rattle.text.proofs.Places.{number_reads, number_stopped, number_none, number_some}
use Rattle.text_decimal.proofs.number_from.Goals as goal

pub returns-in_err-at-clause-reads : goal.returns-in_err-at-clause-reads
returns-in_err-at-clause-reads c = number_reads _ _ _ (number_stopped _ _ _ c.from_residual.ensures c.in_err-at.was)

pub returns-in_err-read_decimal-clause-reads : goal.returns-in_err-read_decimal-clause-reads
returns-in_err-read_decimal-clause-reads c = number_reads _ _ _
    (number_none _ _ _ _ _ c.in_ok-at.was c.next_word-word.ensures c.read_decimal.ensures
    _ c.from_residual-in_err-read_decimal.ensures c.in_err-read_decimal.was)

pub returns-clause-reads : goal.returns-clause-reads
returns-clause-reads c = number_reads _ _ _
    (number_some _ _ _ _ _ c.in_ok-at.was c.next_word-word.ensures c.read_decimal.ensures _ c.in_ok-read_decimal.was)
