-- The eight counters inside their line.
use mathlib.Core.List.{◌++◌}
use mathlib.Core.Path.{◌≡◌}
use Rattle.head_driver.specs.Answers.{said}
use Rattle.value_text.proofs.Rows.{values_then}
use Rattle.script_value.specs.Texts.{stats_text}
use Rattle.value_text.specs.Words.{word_text}
use Rattle.text.specs.Ascii.{ascii}
use Rattle.head_count.specs.declared.HeadStats.{HeadStats}
use Rattle.head_driver.specs.declared.Answer.{Answer}
use Rattle.script_value.specs.Lines.{answer_text, refusal_on, said_text}

pub stats_line : (s : HeadStats) → ascii "(stats" ++ (stats_text s ++ ascii ")") ≡ answer_text (Answer.Stats s)
unfolding answer_text said_text said refusal_on word_text stats_text
stats_line s = rw values_then
