-- Document 01, "Lines": "`(completion END)`, END being `none` or the current attempt's
-- end if A is current". The Rust: `HeadLifecycle::completion`, of head_lifecycle.rs.
use Rattle.std.specs.Prelude.{cond}
use Rattle.head_values.specs.Anchors.{holds}
use Rattle.head_values.specs.declared.ReadAnchor.{ReadAnchor}
use Rattle.head_attempt.specs.declared.HeadCompletion.{HeadCompletion}
use Rattle.head_current.specs.Heads.{anchor_of, delivery, published}
use Rattle.head_life.specs.declared.HeadLifecycle.{HeadLifecycle}

-- the current attempt's end if the anchor is current, else none
unfoldable pub completion_at : HeadLifecycle → ReadAnchor → HeadCompletion
completion_at l a = cond (holds (anchor_of (delivery l.current)) a) (published l.current) HeadCompletion.Open
