-- A name for the text of each value that holds no hash, and of the settle number that a source has: it is the same on a line
-- and on a sheet.
use Rattle.head_current.specs.declared.DeltaReport.{DeltaReport}
use Rattle.std.specs.Prelude.{ℕ, List, [], ◌++◌, Option}
use Rattle.head_values.specs.Values.{Value, fault_value, outcome_value, skip_value}
use Rattle.head_values.specs.Words.{Word}
use Rattle.head_attempt.specs.Said.{end_value}
use Rattle.head_ready.specs.Said.{readiness_value, source_value}
use Rattle.head_current.specs.Said.{report_value}
use Rattle.text.specs.Ascii.{ascii}
use Rattle.text.specs.Decimals.{decimal}
use Rattle.value_text.specs.Values.{value_text}
use Rattle.head_values.specs.declared.BalSkip.{BalSkip}
use Rattle.head_values.specs.declared.CarryOutcome.{CarryOutcome}
use Rattle.head_values.specs.declared.Link.{Link}
use Rattle.head_attempt.specs.declared.HeadCompletion.{HeadCompletion}
use Rattle.head_ready.specs.declared.HeadCold.{HeadCold}
use Rattle.head_ready.specs.declared.HeadReadiness.{HeadReadiness}
use Rattle.head_ready.specs.declared.Source.{Source}

unfoldable pub cold_text : Link → BalSkip → List ℕ
cold_text link skip = value_text (Value.three (Value.word Word.cold) (fault_value link) (skip_value skip))

unfoldable pub outcome_text : CarryOutcome → List ℕ
outcome_text o = value_text (outcome_value o)

unfoldable pub report_text : Option DeltaReport → List ℕ
report_text r = value_text (report_value r)

unfoldable pub reason_text : HeadCold → List ℕ
reason_text reason = value_text (readiness_value (HeadReadiness.Cold reason))

unfoldable pub readiness_text : HeadReadiness → List ℕ
readiness_text r = value_text (readiness_value r)

unfoldable pub source_text : Source → List ℕ
source_text s = value_text (source_value s)

-- the settle number of a generation's source, after a space; another source has none
unfoldable pub settle_number_text : Source → List ℕ
settle_number_text (Source.Installed seq) = ascii " " ++ decimal seq.0
settle_number_text Source.Provisional = []
settle_number_text (Source.Previous seq) = ascii " " ++ decimal seq.0
settle_number_text Source.Spare = []

unfoldable pub end_text : HeadCompletion → List ℕ
end_text e = value_text (end_value e)
