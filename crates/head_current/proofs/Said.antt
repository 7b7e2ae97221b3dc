-- Reports of which the same is said are the same report.
use mathlib.Core.Path.{◌≡◌, ap}
use Rattle.std.specs.Prelude.{Option}
use Rattle.head_values.specs.Said.{Said}
use Rattle.head_current.specs.Said.{report_said}
use Rattle.head_current.specs.declared.DeltaReport.{DeltaReport}

pub report_exact : {a b : Option DeltaReport} → report_said a ≡ report_said b → a ≡ b
report_exact e = ap (λ (s : Said (Option DeltaReport)). s.case) e
