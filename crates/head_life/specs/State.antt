-- Document 01, "What contracts say": a new driver's lifecycle; a lifecycle
-- with one counter raised. The Rust: `HeadLifecycle`, of head_lifecycle.rs.
use Rattle.std.specs.Prelude.{Bool, None}
use Rattle.head_count.specs.Counters.{epoch_of, none_counted, raise, record_view, seq_of}
use Rattle.head_count.specs.declared.Counter.{Counter}
use Rattle.head_count.specs.declared.HeadStats.{HeadStats}
use Rattle.head_current.specs.declared.CurrentHead.{CurrentHead}
use Rattle.head_life.specs.declared.HeadLifecycle.{HeadLifecycle}

-- "no current head, no superseded anchor, nothing installed or previous, .. all counters 0"
unfoldable pub no_head : HeadLifecycle
no_head = record {
  current = CurrentHead.Absent;
  superseded = None;
  installed = None;
  previous = None;
  seq = seq_of 0;
  claim_epoch = epoch_of 0;
  stats = none_counted;
}

abbrev pub with_stats : HeadLifecycle → HeadStats → HeadLifecycle
with_stats l s = record {
  current = l.current;
  superseded = l.superseded;
  installed = l.installed;
  previous = l.previous;
  seq = l.seq;
  claim_epoch = l.claim_epoch;
  stats = s;
}

-- that counter plus 1, and nothing else
unfoldable pub counted : HeadLifecycle → Counter → HeadLifecycle
counted l counter = with_stats l (raise counter l.stats)

-- "One of ready-views and cold-views rises": `HeadLifecycle::record_view`
unfoldable pub view_counted : HeadLifecycle → Bool → HeadLifecycle
view_counted l ready = with_stats l (record_view ready l.stats)
