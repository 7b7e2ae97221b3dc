-- One keyword after another is compared with the word at hand.
use Prim.Native.Nat.{ℕ}
use mathlib.Core.Bool.{false}
use mathlib.Core.List.{List, ◌∷◌, ◌++◌}
use mathlib.Core.Path.{◌≡◌, refl}
use lib.ListN.{length}
use Rattle.text.proofs.Back.{past_back, says_back}
use Rattle.text.proofs.Same.{same_refl}
use Rattle.text.specs.Rests.{Took, at, says, word_here}
use Rattle.text.specs.Same.{same_text}
use Rattle.text.specs.Words.{in_word, run, word}
use Rattle.value_text.specs.Reads.{got, or_word}

module _ {A : Type 0} (x : A) (o : Took A) (t : List ℕ) (z : run t ≡ 0) where
  pub word_hit : (k : List ℕ) → run k ≡ length k → or_word k x (at (k ++ t)) o ≡ got x (at t)
  unfolding or_word
  word_hit k e = rw (says_back k t e z k, same_refl k, past_back k t e z)

  pub word_miss : (k w : List ℕ) → run w ≡ length w → same_text w k ≡ false → or_word k x (at (w ++ t)) o ≡ o
  unfolding or_word
  word_miss k w e h = rw (says_back w t e z k, h)

-- a bracket starts no word
pub says_open : (b : ℕ) (k s : List ℕ) → says (b ∷ k) (at (40 ∷ s)) ≡ false
unfolding says word_here word run in_word same_text
says_open b k s = refl

pub open_miss : {A : Type 0} (x : A) (o : Took A) (b : ℕ) (k s : List ℕ) → or_word (b ∷ k) x (at (40 ∷ s)) o ≡ o
unfolding or_word
open_miss x o b k s = rw (says_open b k s)
