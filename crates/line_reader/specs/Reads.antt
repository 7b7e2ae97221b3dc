-- What a reader has still to read, and what a function that reads on hands back.
use Rattle.std.specs.Prelude.{◌≡◌, drop, Option, Some, None, IfSome}
use Rattle.text.specs.Rests.{Rest, at, stopped, Took}
use Rattle.line_reader.specs.declared.LineReader.{LineReader}

-- what is left of the line
abbrev pub rest : LineReader → Rest
rest r = at (drop r.taken r.line.now)

-- what is left after an answer: reading has stopped where there is none
abbrev pub rest_after : {A : Type 0} → Option A → LineReader → Rest
rest_after None r = stopped
rest_after (Some x) r = rest r

-- The answer is what was taken, and the reader stands after it. Where there is none, where the reader stands is left open.
pub record Reads {A : Type 0} (before after : LineReader) (answer : Option A) (took : Took A) : Type 0 where
  pub line : after.line ≡ before.line
  pub value : IfSome answer (λ x. took.value ≡ x)
  pub rest : took.next ≡ rest_after answer after
