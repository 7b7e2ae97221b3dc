-- Refusals of an input of which the same is said are the same.
use mathlib.Core.Path.{◌≡◌, refl, ap, sym, ◌∙◌}
use Rattle.std.specs.Prelude.{Option, None, Some}
use Rattle.std.specs.Option.{option_map}
use Rattle.head_values.specs.Said.{Said}
use Rattle.head_call.specs.Inputs.{refusal_said}
use Rattle.head_call.specs.declared.InputRefusal.{InputRefusal}

-- the case that is said
refusal_case : Option (Said InputRefusal) → Option InputRefusal
refusal_case None = None
refusal_case (Some s) = Some s.case

-- is the refusal itself
said_back : (r : Option InputRefusal) → refusal_case (option_map refusal_said r) ≡ r
unfolding refusal_case refusal_said
said_back None = refl
said_back (Some InputRefusal.ListDisagrees) = refl
said_back (Some InputRefusal.WaiterAbove15) = refl

pub refusal_exact : {a b : Option InputRefusal} → option_map refusal_said a ≡ option_map refusal_said b → a ≡ b
refusal_exact e = sym (said_back _) ∙ ap refusal_case e ∙ said_back _
