-- Document 01, "What contracts say, what cases show", of calls in place of lines: each call gets the state that the one before it left.
use Rattle.std.specs.Prelude.{List, [], ◌∷◌}
use Rattle.head_call.specs.Ranges.{Writable}
use Rattle.head_step.specs.Steps.{step}
use Rattle.head_driver.specs.declared.Answer.{Answer}
use Rattle.head_driver.specs.declared.Driver.{Driver}
use Rattle.head_call.specs.declared.Call.{Call}

-- the driver after them
unfoldable pub after : Driver → List Call → Driver
after d [] = d
after d (c ∷ cs) = after (step d c).driver cs

-- their answers, one by one
unfoldable pub answers : Driver → List Call → List Answer
answers d [] = []
answers d (c ∷ cs) = (step d c).answer ∷ answers (step d c).driver cs

abbrev pub AllWritable : List Call → Type 0
AllWritable [] = Unit {0}
AllWritable (c ∷ cs) = Writable c × AllWritable cs
