-- Document 01, "Lifecycle": "`snapshot`, first that fits: .." (`head_life/specs/Views`). "One of ready-views and cold-views rises by that
-- readiness." "Lines": "`(snapshot A H)` .. `(view SOURCE H READINESS)`", by document 02, Job 1, with the number after H from installed and
-- previous. The Rust: `BalHeadDriver::snapshot`, of head_lifecycle.rs.
use Rattle.std.specs.Prelude.{ℕ}
use Rattle.head_values.specs.declared.ReadAnchor.{ReadAnchor}
use Rattle.head_ready.specs.Generations.{is_ready}
use Rattle.head_ready.specs.declared.HeadView.{HeadView}
use Rattle.head_life.specs.State.{view_counted}
use Rattle.head_life.specs.Views.{view}
use Rattle.head_driver.specs.Parts.{reply_of, with_life}
use Rattle.head_driver.specs.declared.Answer.{Answer}
use Rattle.head_driver.specs.declared.Driver.{Driver}
use Rattle.head_driver.specs.declared.Reply.{Reply}

-- a view is counted by its readiness, and answered: by `snapshot` as it is, by `wait` and `resume` as they show it
unfoldable pub viewed : Driver → HeadView → HeadView → Reply
viewed d v shown = reply_of (with_life d (view_counted d.life (is_ready v.readiness))) (Answer.View shown)

-- the view that fits first, as it is
unfoldable pub snapshot : Driver → ReadAnchor → ℕ → Reply
snapshot d a spare = viewed d (view d.life a spare) (view d.life a spare)
