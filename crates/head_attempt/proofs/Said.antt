-- Ends of which the same is said are the same end.
use mathlib.Core.Path.{◌≡◌, ap}
use Rattle.head_values.specs.Said.{Said}
use Rattle.head_attempt.specs.Said.{completion_said}
use Rattle.head_attempt.specs.declared.HeadCompletion.{HeadCompletion}

pub completion_exact : {a b : HeadCompletion} → completion_said a ≡ completion_said b → a ≡ b
completion_exact e = ap (λ (s : Said HeadCompletion). s.case) e
