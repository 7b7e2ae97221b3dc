-- Document 01, "Lifecycle": all counters saturate. The Rust: `saturating_add(1)`
-- on `seq`, `claim_epoch` and the fields of `HeadStats`, of head_lifecycle.rs.
use Rattle.std.specs.Prelude.{◌+◌, ℕ, Bool, eqb, ltb, cond}
use Rattle.head_count.specs.declared.Counter.{Counter}
use Rattle.head_count.specs.declared.Epoch.{Epoch}
use Rattle.head_count.specs.declared.HeadStats.{HeadStats}
use Rattle.head_count.specs.declared.Seq.{Seq}

-- "All counters saturate": one more, and never above 2^64 - 1
unfoldable pub up : ℕ → ℕ
up n = cond (ltb n 0xffff_ffff_ffff_ffff) (n + 1) n

abbrev pub seq_of : ℕ → Seq
seq_of n = record { 0 = n }

abbrev pub epoch_of : ℕ → Epoch
epoch_of n = record { 0 = n }

-- "seq plus 1"
unfoldable pub next_seq : Seq → Seq
next_seq s = seq_of (up s.0)

-- "epoch plus 1"
unfoldable pub next_epoch : Epoch → Epoch
next_epoch e = epoch_of (up e.0)

-- equal delivery numbers
unfoldable pub same_seq : Seq → Seq → Bool
same_seq s t = eqb s.0 t.0

-- equal epochs
unfoldable pub same_epoch : Epoch → Epoch → Bool
same_epoch e f = eqb e.0 f.0

-- delivered, repeated, superseded, settled, already-current, discarded, ready-views, cold-views
abbrev pub stats_of : ℕ → ℕ → ℕ → ℕ → ℕ → ℕ → ℕ → ℕ → HeadStats
stats_of a b c d e f g h = record {
  delivered = a;
  repeated = b;
  superseded = c;
  settled = d;
  already_current = e;
  discarded = f;
  ready_views = g;
  cold_views = h;
}

-- "all counters 0"
unfoldable pub none_counted : HeadStats
none_counted = stats_of 0 0 0 0 0 0 0 0

-- the counter named, plus 1
unfoldable pub raise : Counter → HeadStats → HeadStats
raise Counter.Delivered s =
    stats_of (up s.delivered) s.repeated s.superseded s.settled s.already_current s.discarded s.ready_views s.cold_views
raise Counter.Repeated s =
    stats_of s.delivered (up s.repeated) s.superseded s.settled s.already_current s.discarded s.ready_views s.cold_views
raise Counter.Superseded s =
    stats_of s.delivered s.repeated (up s.superseded) s.settled s.already_current s.discarded s.ready_views s.cold_views
raise Counter.Settled s =
    stats_of s.delivered s.repeated s.superseded (up s.settled) s.already_current s.discarded s.ready_views s.cold_views
raise Counter.AlreadyCurrent s =
    stats_of s.delivered s.repeated s.superseded s.settled (up s.already_current) s.discarded s.ready_views s.cold_views
raise Counter.Discarded s =
    stats_of s.delivered s.repeated s.superseded s.settled s.already_current (up s.discarded) s.ready_views s.cold_views
raise Counter.ReadyViews s =
    stats_of s.delivered s.repeated s.superseded s.settled s.already_current s.discarded (up s.ready_views) s.cold_views
raise Counter.ColdViews s =
    stats_of s.delivered s.repeated s.superseded s.settled s.already_current s.discarded s.ready_views (up s.cold_views)

-- plus 1 if so
unfoldable pub raise_if : Bool → Counter → HeadStats → HeadStats
raise_if test counter s = cond test (raise counter s) s

-- "One of ready-views and cold-views rises by that readiness": `HeadLifecycle::record_view`
unfoldable pub record_view : Bool → HeadStats → HeadStats
record_view ready s = cond ready (raise Counter.ReadyViews s) (raise Counter.ColdViews s)
