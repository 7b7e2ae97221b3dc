-- A view's line as it is put together: the number stands after the handle where the source has one.
use Prim.Native.Nat.{ℕ}
use mathlib.Core.List.{List, [], ◌∷◌, ◌++◌}
use mathlib.Core.Path.{◌≡◌, refl, sym, ap}
use Rattle.head_values.specs.Values.{Value}
use Rattle.head_driver.specs.Answers.{said}
use Rattle.head_driver.specs.declared.Answer.{Answer}
use Rattle.head_ready.specs.Said.{readiness_value, settled_under}
use Rattle.head_ready.specs.declared.HeadView.{HeadView}
use Rattle.head_ready.specs.declared.Source.{Source}
use Rattle.text.specs.Ascii.{ascii}
use Rattle.value_text.specs.Values.{value_text, values_on}
use Rattle.value_text.specs.Words.{word_text}
use Rattle.script_value.specs.Lines.{answer_text, refusal_on, said_text}
use Rattle.script_value.specs.Texts.{spaced_text}
use Rattle.script_outcome.specs.Texts.{readiness_text, settle_number_text, source_text}

settle_number_values : (s : Source) (values : List Value) (t : List ℕ)
    → values_on (settled_under s values) t ≡ settle_number_text s ++ values_on values t
unfolding settled_under settle_number_text values_on value_text
settle_number_values (Source.Installed seq) values t = refl
settle_number_values Source.Provisional values t = refl
settle_number_values (Source.Previous seq) values t = refl
settle_number_values Source.Spare values t = refl

pub view_values : (v : HeadView) (t : List ℕ)
    → values_on (said (Answer.View v)).values t
    ≡ ascii " " ++ (source_text v.source ++ (spaced_text v.handle
    ++ (settle_number_text v.source ++ (ascii " " ++ (readiness_text v.readiness ++ t)))))
unfolding said values_on value_text source_text spaced_text readiness_text
view_values v t =
    ap (λ (rest : List ℕ). ascii " " ++ (source_text v.source ++ (spaced_text v.handle ++ rest)))
    (settle_number_values v.source (readiness_value v.readiness ∷ []) t)

pub view_form : (v : HeadView)
    → answer_text (Answer.View v)
    ≡ ascii "(view " ++ (source_text v.source ++ (spaced_text v.handle
    ++ (settle_number_text v.source ++ (ascii " " ++ (readiness_text v.readiness ++ ascii ")")))))
unfolding answer_text said_text said refusal_on word_text
view_form v = ap (λ (rest : List ℕ). ascii "(view" ++ rest) (view_values v (ascii ")"))

pub view_line : (v : HeadView)
    → ascii "(view " ++ (source_text v.source ++ (spaced_text v.handle
    ++ (settle_number_text v.source ++ (ascii " " ++ (readiness_text v.readiness ++ ascii ")")))))
    ≡ answer_text (Answer.View v)
view_line v = sym (view_form v)
