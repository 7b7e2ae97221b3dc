-- Document 01, "Lifecycle": the installed and the previous generation, views, and whether a readiness
-- is ready. Document 02, Job 1: "The installed and previous generations shall keep the delivery number under which they
-- settled." The Rust: the cache's slot, of delta_snapshot.rs, and `InstalledGeneration`, `PreviousGeneration`,
-- `HeadReadiness::is_ready`, of head_lifecycle.rs.
use Rattle.std.specs.Prelude.{ℕ, Bool, false, true, Option}
use Rattle.std.specs.Option.{option_map}
use Rattle.head_values.specs.declared.ReadAnchor.{ReadAnchor}
use Rattle.head_ready.specs.declared.Generation.{Generation}
use Rattle.head_ready.specs.declared.HeadReadiness.{HeadReadiness}
use Rattle.head_ready.specs.declared.HeadView.{HeadView}
use Rattle.head_ready.specs.declared.Source.{Source}

-- the anchor of what is installed, or previous, or none: `DeltaSnapshotCache::anchor` and `HeadLifecycle::previous_anchor`
unfoldable pub slot_anchor : Option Generation → Option ReadAnchor
slot_anchor slot = option_map (λ g. g.anchor) slot

abbrev pub view_of : Source → ℕ → HeadReadiness → HeadView
view_of source handle readiness = record { source = source; handle = handle; readiness = readiness }

-- "Readiness is ready, or cold with a reason"
unfoldable pub is_ready : HeadReadiness → Bool
is_ready HeadReadiness.Ready = true
is_ready (HeadReadiness.Cold reason) = false
