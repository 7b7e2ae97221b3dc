-- A whole line.
use Prim.Native.Nat.{ℕ, ◌<◌, ◌≤◌}
use native.Mathlib.Omega.{arith}
use mathlib.Core.Path.{◌≡◌, refl, sym, ◌∙◌}
use mathlib.Core.List.{List, [], ◌∷◌}
use lib.ListN.{length, drop}
use borrow.Author.Tests.{ne_eqb, lt-ltb, le-ltb}
use Rattle.std.specs.Prelude.{Option, None}
use Rattle.text.specs.Ascii.{ascii}
use Rattle.text.specs.Rests.{Rest, at, stopped, after_byte, after, word_here, past, past_word}
use Rattle.text.specs.Same.{same_text}
use Rattle.script_call.specs.Calls.{call_named, later_named, call_here, call}
use Rattle.script_call.specs.declared.LineCall.{LineCall}

here_stopped : call_here stopped ≡ None
unfolding call_here word_here call_named later_named same_text
here_stopped = refl

line_here : (l : List ℕ) → length l ≤ 512 → call_here (after (ascii "(") (at l)) ≡ call l
unfolding call call_here after after_byte word_here past_word past call_named later_named same_text
line_here [] h = refl
line_here (b ∷ s) h = let n = length (b ∷ s) in rw (ne_eqb n 0 (λ e. omega arith), le-ltb 512 n h)

module _ (l : List ℕ) where
  pub line_long : 512 < length l → None ≡ call l
  unfolding call
  line_long h = rw (ne_eqb (length l) 0 (λ e. omega arith), lt-ltb 512 (length l) h)

  module _ (h : length l ≤ 512) where
    pub line_stopped : after (ascii "(") (at (drop 0 l)) ≡ stopped → None ≡ call l
    line_stopped e = sym here_stopped ∙ rw (← e) (line_here l h)

    pub line_is : (s t : Rest) (z : Option LineCall) → after (ascii "(") (at (drop 0 l)) ≡ s → past_word s ≡ t → z ≡ call_named (word_here s) t → z ≡ call l
    unfolding call_here
    line_is s t z e f g = g ∙ rw (← f, ← e) (line_here l h)
