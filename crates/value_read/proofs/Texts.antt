-- A text passed byte by byte.
use Prim.Native.Nat.{ℕ, ◌+◌, ◌<◌, ◌≤◌}
use mathlib.Core.Path.{◌≡◌, refl, ap, ◌∙◌}
use mathlib.Core.List.{List, [], ◌∷◌}
use lib.ListN.{length, drop, get_or}
use Rattle.std.proofs.lemmas.List.{drop_all, drop_more}
use Rattle.text.specs.Rests.{Rest, after, after_byte, stopped}

-- where reading has stopped, it stays so
after_stopped : (k : List ℕ) → after k stopped ≡ stopped
unfolding after after_byte
after_stopped [] = refl
after_stopped (b ∷ k) = after_stopped k

module _ (text : List ℕ) (i : ℕ) (s r next : Rest) (told : after text s ≡ after (drop i text) r) where
  pub byte_passed : i < length text → after (get_or text i 0 ∷ []) r ≡ next → after text s ≡ after (drop (i + 1) text) next
  unfolding after
  byte_passed h f = told ∙ ap (λ (k : List ℕ). after k r) (drop_more text i 0 h) ∙ ap (after (drop (i + 1) text)) f

  pub byte_missed : i < length text → after (get_or text i 0 ∷ []) r ≡ stopped → after text s ≡ stopped
  unfolding after
  byte_missed h f = told ∙ ap (λ (k : List ℕ). after k r) (drop_more text i 0 h) ∙ ap (after (drop (i + 1) text)) f
      ∙ after_stopped (drop (i + 1) text)

  pub all_passed : length text ≤ i → after text s ≡ r
  unfolding after
  all_passed h = told ∙ ap (λ (k : List ℕ). after k r) (drop_all i text h)
