-- Values in a row, with what stands after them.
use Prim.Native.Nat.{ℕ}
use mathlib.Core.List.{List, [], ◌∷◌, ◌++◌, append_assoc}
use mathlib.Core.Path.{◌≡◌, refl, ap, ◌∙◌}
use Rattle.head_values.specs.Values.{Value}
use Rattle.text.specs.Ascii.{ascii}
use Rattle.value_text.specs.Values.{value_text, values_on}

pub values_then : (vs : List Value) (s : List ℕ) → values_on vs [] ++ s ≡ values_on vs s
unfolding values_on
values_then [] s = refl
values_then (v ∷ vs) s =
    let e : value_text v ++ (values_on vs [] ++ s) ≡ value_text v ++ values_on vs s = rw (values_then vs s) in
    ap (λ (r : List ℕ). ascii " " ++ r) (append_assoc (value_text v) (values_on vs []) s ∙ e)
