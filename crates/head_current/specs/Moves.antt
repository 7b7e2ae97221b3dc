-- Document 01, "Lifecycle": what `claim`, `release` and `apply` make of the current head. The Rust: `CurrentHead::claimed`, `released`,
-- `published_abandonment`, `publish_settle` and `settled`, of head_lifecycle.rs.
use Rattle.std.specs.Prelude.{Bool, false, true, Some, cond, ◌&&◌}
use Rattle.head_count.specs.Counters.{same_epoch, same_seq}
use Rattle.head_count.specs.declared.Epoch.{Epoch}
use Rattle.head_attempt.specs.Attempts.{minted, publish, settled}
use Rattle.head_attempt.specs.declared.HeadCompletion.{HeadCompletion}
use Rattle.head_current.specs.declared.CurrentHead.{CurrentHead}
use Rattle.head_current.specs.declared.DeltaReport.{DeltaReport}
use Rattle.head_current.specs.declared.PrepareClaim.{PrepareClaim}
use Rattle.head_current.specs.declared.UnsettledHead.{UnsettledHead}

-- "unclaimed becomes preparing, with a new open attempt of that epoch": `CurrentHead::claimed`
unfoldable pub claimed_head : CurrentHead → Epoch → CurrentHead
claimed_head CurrentHead.Absent e = CurrentHead.Absent
claimed_head (CurrentHead.Unclaimed u) e =
    CurrentHead.Preparing (record { delivery = u.delivery; provisional = u.provisional; attempt = minted e })
claimed_head (CurrentHead.Preparing u) e = CurrentHead.Preparing u
claimed_head (CurrentHead.Settled s) e = CurrentHead.Settled s

-- "equal seq and epoch"
unfoldable pub owned_by : UnsettledHead → PrepareClaim → Bool
owned_by u owner = same_seq u.delivery.seq owner.seq && same_epoch u.attempt.epoch owner.epoch

-- "`release` acts only on preparing with equal seq and epoch: abandoned,
-- back to unclaimed. Otherwise nothing changes.": `CurrentHead::released`
unfoldable pub released_head : CurrentHead → PrepareClaim → CurrentHead
released_head CurrentHead.Absent owner = CurrentHead.Absent
released_head (CurrentHead.Unclaimed u) owner = CurrentHead.Unclaimed u
released_head (CurrentHead.Preparing u) owner =
    cond (owned_by u owner)
    (CurrentHead.Unclaimed (record {
      delivery = u.delivery;
      provisional = u.provisional;
      attempt = publish u.attempt HeadCompletion.Abandoned;
    }))
    (CurrentHead.Preparing u)
released_head (CurrentHead.Settled s) owner = CurrentHead.Settled s

-- "abandoned"
unfoldable pub is_abandoned : HeadCompletion → Bool
is_abandoned HeadCompletion.Open = false
is_abandoned HeadCompletion.Settled = false
is_abandoned HeadCompletion.Superseded = false
is_abandoned HeadCompletion.Abandoned = true

-- "An unclaimed head whose attempt was abandoned": `CurrentHead::published_abandonment`
unfoldable pub published_abandonment : CurrentHead → Bool
published_abandonment CurrentHead.Absent = false
published_abandonment (CurrentHead.Unclaimed u) = is_abandoned u.attempt.end
published_abandonment (CurrentHead.Preparing u) = false
published_abandonment (CurrentHead.Settled s) = false

-- "The head becomes settled, keeps this outcome and REPORT, and its open attempt ends settled." "An unclaimed head whose attempt was
-- abandoned gets a new attempt, ended settled": of the epoch given. `CurrentHead::publish_settle` and `settled`.
unfoldable pub settled_head : CurrentHead → Epoch → DeltaReport → CurrentHead
settled_head CurrentHead.Absent e r = CurrentHead.Absent
settled_head (CurrentHead.Unclaimed u) e r =
    CurrentHead.Settled (record {
      delivery = u.delivery;
      report = Some r;
      attempt = cond (is_abandoned u.attempt.end) (settled e) (publish u.attempt HeadCompletion.Settled);
    })
settled_head (CurrentHead.Preparing u) e r =
    CurrentHead.Settled (record { delivery = u.delivery; report = Some r; attempt = publish u.attempt HeadCompletion.Settled })
settled_head (CurrentHead.Settled s) e r =
    CurrentHead.Settled (record { delivery = s.delivery; report = Some r; attempt = publish s.attempt HeadCompletion.Settled })
