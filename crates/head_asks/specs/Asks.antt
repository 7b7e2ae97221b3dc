-- Document 01, "Lines": the five calls that only ask, so that the driver stays as it is. The Rust: `BalHeadDriver::completion`,
-- `last_report`, `stats`, `delivered`, `installed` and `previous`, of head_lifecycle.rs, and `classify_link`, of read_hub.rs.
use Rattle.std.specs.Prelude.{Option}
use Rattle.hash.specs.declared.Hash.{Hash}
use Rattle.head_values.specs.Links.{classify_link}
use Rattle.head_values.specs.declared.ReadAnchor.{ReadAnchor}
use Rattle.head_ready.specs.Generations.{slot_anchor}
use Rattle.head_current.specs.Heads.{anchor_of, current_report, delivery}
use Rattle.head_life.specs.Completion.{completion_at}
use Rattle.head_driver.specs.Parts.{reply_of}
use Rattle.head_driver.specs.declared.Answer.{Answer}
use Rattle.head_driver.specs.declared.Driver.{Driver}
use Rattle.head_driver.specs.declared.Reply.{Reply}

-- "`(completion A)` `(completion END)`, END being `none` or the current attempt's end if A is current"
unfoldable pub completion : Driver → ReadAnchor → Reply
completion d a = reply_of d (Answer.Completion (completion_at d.life a))

-- "`(link A P)` with first a parent anchor or none, .. `(link WORD)`"; "`link` touches no state"
unfoldable pub link : Driver → Option ReadAnchor → ReadAnchor → Hash → Reply
link d parent child parent_hash = reply_of d (Answer.Link (classify_link parent child parent_hash))

-- "`(report)` `(report R)`, R being `(OUTCOME REPORT)` as the current head's own apply gave it, else `none`"
unfoldable pub last_report : Driver → Reply
last_report d = reply_of d (Answer.Report (current_report d.life.current))

-- "`(stats)` `(stats` and eight counters`)`"
unfoldable pub stats : Driver → Reply
stats d = reply_of d (Answer.Stats d.life.stats)

-- "`(heads)` `(heads CURRENT INSTALLED PREVIOUS)`, anchors or none"
unfoldable pub heads : Driver → Reply
heads d = reply_of d (Answer.Heads (anchor_of (delivery d.life.current)) (slot_anchor d.life.installed) (slot_anchor d.life.previous))
