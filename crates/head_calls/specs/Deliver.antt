-- Document 01, "Lines": "`(deliver A P H)` `(ticket SEQ)`"; "Lifecycle": "a replaced head's attempt ends superseded". What becomes of the
-- lifecycle: `head_life/specs/Deliver`. The Rust: `BalHeadDriver::deliver`, of head_lifecycle.rs.
use Rattle.std.specs.Prelude.{ℕ}
use Rattle.hash.specs.declared.Hash.{Hash}
use Rattle.head_values.specs.declared.ReadAnchor.{ReadAnchor}
use Rattle.head_attempt.specs.declared.HeadCompletion.{HeadCompletion}
use Rattle.head_life.specs.Deliver.{deliver_life}
use Rattle.head_driver.specs.Moved.{moved}
use Rattle.head_driver.specs.declared.Answer.{Answer}
use Rattle.head_driver.specs.declared.Driver.{Driver}
use Rattle.head_driver.specs.declared.Reply.{Reply}

-- the ticket; where a preparing head is replaced, its preparation ends superseded
unfoldable pub deliver : Driver → ReadAnchor → Hash → ℕ → Reply
deliver d a p cold = record {
  driver = moved d (deliver_life d.life a p cold).0 HeadCompletion.Superseded;
  answer = Answer.Ticket (deliver_life d.life a p cold).1;
}
