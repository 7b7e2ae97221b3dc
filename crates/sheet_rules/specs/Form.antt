-- Document 02, Job 2: "in sheet form", apart from how a sheet is read. A text is in sheet form where it is the lines, as document 01 and
-- Jobs 1 and 3 write them, of a driver that holds just what a sheet shows.
use Rattle.std.specs.Prelude.{ℕ, List, ◌≡◌}
use Rattle.head_count.specs.Counters.{seq_of}
use Rattle.head_ready.specs.declared.HeadCold.{HeadCold}
use Rattle.head_ready.specs.declared.HeadReadiness.{HeadReadiness}
use Rattle.head_driver.specs.declared.Driver.{Driver}
use Rattle.alike.specs.Canon.{shown_head}
use Rattle.alike.specs.Invariant.{OpenOrAbandoned, WhenGeneration, WhenUnclaimed}
use Rattle.alike.specs.Ranges.{DriverFits}
use Rattle.script_sheet.specs.Sheets.{lines_of}

-- "an installed or previous generation has only the first or the last": `ready` or `(cold LINK SKIP)`
abbrev pub KeptReadiness : HeadReadiness → Type 0
KeptReadiness HeadReadiness.Ready = Unit {0}
KeptReadiness (HeadReadiness.Cold HeadCold.Unprepared) = ⊥
KeptReadiness (HeadReadiness.Cold HeadCold.Superseded) = ⊥
KeptReadiness (HeadReadiness.Cold HeadCold.Undelivered) = ⊥
KeptReadiness (HeadReadiness.Cold HeadCold.Abandoned) = ⊥
KeptReadiness (HeadReadiness.Cold (HeadCold.Settled link skip)) = Unit {0}

-- just what a sheet shows
pub record InForm (d : Driver) : Type 0 where
  -- no number above 2^64 - 1, and sixteen waiters
  pub fits : DriverFits d
  -- "Attempt epochs are not written", nor is seq, which is delivered: so the head is the one that is shown
  pub seq : d.life.seq ≡ seq_of d.life.stats.delivered
  pub head : shown_head d.life.stats.delivered d.life.claim_epoch d.life.current ≡ d.life.current
  -- `(current unclaimed A P H open)` (or `abandoned`)
  pub end : WhenUnclaimed d.life.current (λ u. OpenOrAbandoned u.attempt.end)
  pub installed : WhenGeneration d.life.installed (λ g. KeptReadiness g.readiness)
  pub previous : WhenGeneration d.life.previous (λ g. KeptReadiness g.readiness)

-- its lines are the text, and nothing stands after them
abbrev pub SheetForm : List ℕ → Driver → Type 0
SheetForm text d = InForm d × (text ≡ lines_of d)
