-- Document 01, "Lines": "`(claim A SEQ)` `(claimed EPOCH)`", or the refusal 11, 13 or 14. What becomes of the lifecycle:
-- `head_life/specs/Claim`. The Rust: the claim of `advance_with_relevance`, of head_lifecycle.rs.
use Rattle.std.specs.Prelude.{Result, Ok, Err}
use Rattle.head_count.specs.declared.Epoch.{Epoch}
use Rattle.head_ready.specs.declared.HeadOutcome.{HeadOutcome}
use Rattle.head_current.specs.declared.HeadTicket.{HeadTicket}
use Rattle.head_life.specs.Claim.{claim_life}
use Rattle.head_driver.specs.declared.Answer.{Answer}
use Rattle.head_driver.specs.declared.Driver.{Driver}
use Rattle.head_driver.specs.declared.Reply.{Reply}

-- the epoch, or why none was claimed
unfoldable pub claim_answer : Result Epoch HeadOutcome → Answer
claim_answer (Ok e) = Answer.Claimed e
claim_answer (Err o) = Answer.Outcome o

-- no preparation ends
unfoldable pub claim : Driver → HeadTicket → Reply
claim d ticket = record {
  driver = record { life = (claim_life d.life ticket).0; waiters = d.waiters };
  answer = claim_answer (claim_life d.life ticket).1;
}
