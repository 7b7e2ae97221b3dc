-- Answers of which the same is said are the same answer.
use mathlib.Core.Path.{◌≡◌, ap}
use Rattle.head_values.specs.Said.{Said, link_said, settled_said}
use Rattle.head_values.specs.declared.CarryOutcome.{CarryOutcome}
use Rattle.head_values.specs.declared.Link.{Link}

pub link_exact : {a b : Link} → link_said a ≡ link_said b → a ≡ b
link_exact e = ap (λ (s : Said Link). s.case) e

pub settled_exact : {a b : CarryOutcome} → settled_said a ≡ settled_said b → a ≡ b
settled_exact e = ap (λ (s : Said CarryOutcome). s.case) e
