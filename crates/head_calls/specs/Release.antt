-- Document 01, "Lines": "`(release SEQ EPOCH)` `(done)`". What becomes of the lifecycle:
-- `head_life/specs/Release`. The Rust: the drop of a `PrepareClaim`, of head_lifecycle.rs.
use Rattle.head_attempt.specs.declared.HeadCompletion.{HeadCompletion}
use Rattle.head_current.specs.declared.PrepareClaim.{PrepareClaim}
use Rattle.head_life.specs.Release.{release_life}
use Rattle.head_driver.specs.Moved.{moved}
use Rattle.head_driver.specs.declared.Answer.{Answer}
use Rattle.head_driver.specs.declared.Driver.{Driver}
use Rattle.head_driver.specs.declared.Reply.{Reply}

-- done, whatever was released; a preparation that is given up ends abandoned
unfoldable pub release : Driver → PrepareClaim → Reply
release d owner = record {
  driver = moved d (release_life d.life owner) HeadCompletion.Abandoned;
  answer = Answer.Done;
}
