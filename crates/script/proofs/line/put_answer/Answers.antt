-- A sheet stands in the buffer already; every other answer's line is put by one call.
use Rattle.std.proofs.Common.{◌≡◌, ℕ, refl, length}
use Rattle.head_driver.specs.declared.Answer.{Answer}
use Rattle.script_answer.specs.Answers.{line_text}
use Rattle.script_answer.specs.declared.LineAnswer.{LineAnswer}
use Rattle.script.specs.Parts.{answer_length}
use Rattle.script.proofs.Printing.{puts_line}
use Rattle.script.proofs.line.put_answer.Goals as goal

line_counted : (a : LineAnswer) → ((s : Answer) → a ≡ LineAnswer.Said s → ⊥) → ((n : ℕ) → a ≡ LineAnswer.Sheet n → ⊥) → answer_length a ≡ length (line_text a)
unfolding answer_length
line_counted (LineAnswer.Said s) p q = absurd (p s refl)
line_counted LineAnswer.NoCall p q = refl
line_counted LineAnswer.SheetTooShort p q = refl
line_counted LineAnswer.SheetNotTaken p q = refl
line_counted (LineAnswer.Sheet n) p q = absurd (q n refl)

pub returns-in-Said : goal.returns-in-Said
unfolding answer_length
returns-in-Said c = puts_line _ _ _ _ _ _ refl c.in-Said.is c.requires c.put_line.ensures c.unwrap_or.ensures

pub returns-in_default : goal.returns-in_default
returns-in_default c =
    puts_line _ _ _ _ _ _ (line_counted _ c.in_default.not-Said c.in_default.not-Sheet) refl c.requires c.put_line-in_default.ensures
    c.unwrap_or-in_default.ensures
