-- Document 01, "Lines": "`(completion END)`, END being `none` or the current attempt's end".
use Rattle.std.specs.Prelude.{[], ◌∷◌}
use Rattle.head_values.specs.Said.{Said, accepted}
use Rattle.head_values.specs.Values.{Value}
use Rattle.head_values.specs.Words.{Word}
use Rattle.head_attempt.specs.declared.HeadCompletion.{HeadCompletion}

-- END: `none` or the end
unfoldable pub end_value : HeadCompletion → Value
end_value HeadCompletion.Open = Value.word Word.none
end_value HeadCompletion.Settled = Value.word Word.settled
end_value HeadCompletion.Superseded = Value.word Word.superseded
end_value HeadCompletion.Abandoned = Value.word Word.abandoned

-- `(completion END)`
abbrev pub completion_said : HeadCompletion → Said HeadCompletion
completion_said end = accepted end Word.completion (end_value end ∷ [])
