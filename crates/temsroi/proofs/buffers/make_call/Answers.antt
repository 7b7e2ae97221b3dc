-- The answer is the turn's.
use Rattle.temsroi.proofs.Made.{answer_made}
use Rattle.temsroi.proofs.buffers.make_call.Goals as goal

pub returns-clause-answer : goal.returns-clause-answer
returns-clause-answer c =
    answer_made _ _ _ _ _ c.take_line-turn.ensures _ _ _ _ c.requires.answer_long c.answer_here.ensures c.put_line.ensures
