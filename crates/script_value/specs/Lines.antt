-- Document 01, "Calls and answers": an answer's line is `(WORD VALUES..)`, and a refusal's `(refused N VALUES..)`.
use Rattle.std.specs.Prelude.{ℕ, zero, suc, List, ◌++◌}
use Rattle.head_driver.specs.Answers.{said}
use Rattle.head_values.specs.Said.{Said}
use Rattle.value_text.specs.Values.{values_on}
use Rattle.value_text.specs.Words.{word_text}
use Rattle.text.specs.Ascii.{ascii}
use Rattle.text.specs.Decimals.{decimal}
use Rattle.head_driver.specs.declared.Answer.{Answer}

-- a refusal's number after a space, in front of s; 0 is no refusal
unfoldable pub refusal_on : ℕ → List ℕ → List ℕ
refusal_on zero s = s
refusal_on (suc n) s = ascii " " ++ (decimal (suc n) ++ s)

unfoldable pub said_text : {A : Type 0} → Said A → List ℕ
said_text s = ascii "(" ++ (word_text s.word ++ refusal_on s.number (values_on s.values (ascii ")")))

unfoldable pub answer_text : Answer → List ℕ
answer_text a = said_text (said a)
