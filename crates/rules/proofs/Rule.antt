-- The halves of the sheet rule, of drivers that keep the invariant.
use Rattle.alike.proofs.Rule.{shows_no_more}
use Rattle.alike.proofs.Shown.{shows_enough}
use Rattle.sheet_back.proofs.Sheets.{equal_sheets}
use Rattle.head_driver.specs.declared.Driver.{Driver}
use Rattle.rules.specs.Statements.{CountersBelow, KeptAnswersTellSheets, KeptSheetsTellAnswers, TellingBelow}
use Rattle.rules.proofs.Lines.{calls_alike, lines_alike}

-- ---- of drivers that keep the invariant

pub kept_sheets_tell_answers : KeptSheetsTellAnswers
kept_sheets_tell_answers d₁ d₂ v₁ v₂ e = lines_alike d₁ d₂ (λ cs r. shows_enough d₁ d₂ v₁ v₂ ((equal_sheets d₁ d₂ v₁ v₂).0 e) cs)

pub kept_answers_tell_sheets : KeptAnswersTellSheets
kept_answers_tell_sheets d₁ d₂ v₁ v₂ b₁ b₂ s =
    (equal_sheets d₁ d₂ v₁ v₂).1
    (shows_no_more d₁ d₂ v₁ v₂
    (record { delivered_below = b₁.delivered_below; epoch_below = b₁.epoch_below })
    (record { delivered_below = b₂.delivered_below; epoch_below = b₂.epoch_below })
    (calls_alike d₁ d₂ v₁ v₂ s))

pub telling : {d : Driver} → CountersBelow d → TellingBelow d
telling b = record { delivered_below = b.delivered; epoch_below = b.epoch }
