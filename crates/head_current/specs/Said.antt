-- Document 01, "Lines": "`(report R)`, R being `(OUTCOME REPORT)` as the current head's own apply gave it, else `none`".
use Rattle.std.specs.Prelude.{[], ◌∷◌, Option, None, Some}
use Rattle.head_values.specs.Said.{Said, accepted}
use Rattle.head_values.specs.Values.{Value, outcome_value}
use Rattle.head_values.specs.Words.{Word}
use Rattle.head_current.specs.declared.DeltaReport.{DeltaReport}

-- R: `(OUTCOME REPORT)`, else `none`
unfoldable pub report_value : Option DeltaReport → Value
report_value None = Value.word Word.none
report_value (Some r) = Value.two (outcome_value r.outcome) (Value.number r.number)

-- `(report R)`
abbrev pub report_said : Option DeltaReport → Said (Option DeltaReport)
report_said r = accepted r Word.report (report_value r ∷ [])
