-- Document 01, "Lifecycle": "`snapshot`, first that fits: installed (its readiness); current and not settled,
-- `unprepared`, the provisional handle; previous (its readiness); else the spare handle given, `superseded` for the
-- superseded anchor, otherwise `undelivered`." Document 02, Job 1: "Views from these two sources show" the delivery number
-- under which the generation settled: it is the source's.
-- The Rust: `BalHeadDriver::snapshot` and `HeadLifecycle::lookup`, of head_lifecycle.rs.
use Rattle.std.specs.Prelude.{ℕ, Option, None, Some, cond}
use Rattle.head_values.specs.Anchors.{holds, same_anchor}
use Rattle.head_values.specs.declared.ReadAnchor.{ReadAnchor}
use Rattle.head_count.specs.declared.Seq.{Seq}
use Rattle.head_ready.specs.Generations.{view_of}
use Rattle.head_ready.specs.declared.Generation.{Generation}
use Rattle.head_ready.specs.declared.HeadCold.{HeadCold}
use Rattle.head_ready.specs.declared.HeadReadiness.{HeadReadiness}
use Rattle.head_ready.specs.declared.HeadView.{HeadView}
use Rattle.head_ready.specs.declared.Source.{Source}
use Rattle.head_current.specs.declared.CurrentHead.{CurrentHead}
use Rattle.head_current.specs.declared.UnsettledHead.{UnsettledHead}
use Rattle.head_life.specs.declared.HeadLifecycle.{HeadLifecycle}

-- "installed (its readiness)", "previous (its readiness)": if the generation is at that anchor, with its number; else what
-- fits next
unfoldable pub generation_view : (Seq → Source) → Option Generation → ReadAnchor → HeadView → HeadView
generation_view source None a next = next
generation_view source (Some g) a next = cond (same_anchor g.anchor a) (view_of (source g.seq) g.handle g.readiness) next

-- "`unprepared`, the provisional handle": if the head is at that anchor, else what fits next
unfoldable pub provisional_view : UnsettledHead → ReadAnchor → HeadView → HeadView
provisional_view u a next =
    cond (same_anchor u.delivery.anchor a)
    (view_of Source.Provisional u.provisional (HeadReadiness.Cold HeadCold.Unprepared))
    next

-- "current and not settled"
unfoldable pub current_view : CurrentHead → ReadAnchor → HeadView → HeadView
current_view CurrentHead.Absent a next = next
current_view (CurrentHead.Unclaimed u) a next = provisional_view u a next
current_view (CurrentHead.Preparing u) a next = provisional_view u a next
current_view (CurrentHead.Settled s) a next = next

-- "else the spare handle given, `superseded` for the superseded anchor, otherwise `undelivered`"
unfoldable pub spare_view : Option ReadAnchor → ReadAnchor → ℕ → HeadView
spare_view superseded a spare =
    view_of Source.Spare spare (HeadReadiness.Cold (cond (holds superseded a) HeadCold.Superseded HeadCold.Undelivered))

-- first that fits
unfoldable pub view : HeadLifecycle → ReadAnchor → ℕ → HeadView
view l a spare =
    generation_view Source.Installed l.installed a
    (current_view l.current a
    (generation_view Source.Previous l.previous a
    (spare_view l.superseded a spare)))
