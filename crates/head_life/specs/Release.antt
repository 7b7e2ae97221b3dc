-- Document 01, "Lifecycle": "`release` acts only on preparing with equal seq and epoch: abandoned, back to unclaimed. Otherwise nothing
-- changes." The Rust: `HeadLifecycle::release`, of head_lifecycle.rs.
use Rattle.head_current.specs.Moves.{released_head}
use Rattle.head_current.specs.declared.PrepareClaim.{PrepareClaim}
use Rattle.head_life.specs.declared.HeadLifecycle.{HeadLifecycle}

-- the current head as that says, and nothing else: `HeadLifecycle::release`
unfoldable pub release_life : HeadLifecycle → PrepareClaim → HeadLifecycle
release_life l owner = record {
  current = released_head l.current owner;
  superseded = l.superseded;
  installed = l.installed;
  previous = l.previous;
  seq = l.seq;
  claim_epoch = l.claim_epoch;
  stats = l.stats;
}
