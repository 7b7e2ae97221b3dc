-- The prefix of a word, byte by byte.
use Prim.Native.Nat.{ℕ, ◌-◌, ◌≤◌, ◌<◌}
use native.Mathlib.Omega.{arith}
use mathlib.Core.Bool.{Bool, true, false, ◌&&◌}
use mathlib.Core.List.{List, [], ◌∷◌}
use mathlib.Core.Path.{◌≡◌, refl, ap, sym, ◌∙◌}
use lib.Dec.{eqb}
use Rattle.std.specs.Prelude.{cond}
use lib.ListN.{length, take, drop, get_or}
use lib.Seq.{take_all}
use borrow.Author.Tests.{eq-eqb, ne_eqb}
use Rattle.std.specs.Prelude.{Option, None}
use Rattle.hash.specs.declared.Hash.{Hash}
use Rattle.hash_text.specs.Hex.{hex_hash}
use Rattle.hash_text.specs.LineHashes.{line_hash}
use Rattle.hash_text.specs.Texts.{hash_prefix}

-- the digits are what a slice pattern leaves
pub prefix_stands : (s : List ℕ) (r : Option Hash) → 2 ≤ length s → get_or s 0 0 ≡ 48 → get_or s 1 0 ≡ 120
    → r ≡ hex_hash (take (length s - 2) (drop 2 s)) → r ≡ line_hash s
unfolding line_hash hash_prefix
prefix_stands [] r l p q e = absurd (omega arith)
prefix_stands (a ∷ []) r l p q e = absurd (omega arith)
prefix_stands (a ∷ b ∷ s) r l p q e = rw (eq-eqb 48 a (sym p), eq-eqb 120 b (sym q)) (e ∙ ap hex_hash (take_all (length (a ∷ b ∷ s) - 2) s (omega arith)))

pub too_short : (s : List ℕ) → length s < 2 → None ≡ line_hash s
unfolding line_hash hash_prefix
too_short [] l = refl
too_short (a ∷ []) l = go (eqb 48 a)
  where
    go : (b : Bool) → None ≡ cond (b && false) (hex_hash []) None
    go true = refl
    go false = refl
too_short (a ∷ b ∷ s) l = absurd (omega arith)

pub other_first : (s : List ℕ) → (get_or s 0 0 ≡ 48 → ⊥) → None ≡ line_hash s
unfolding line_hash hash_prefix
other_first [] p = refl
other_first (a ∷ []) p = rw (ne_eqb 48 a (λ e. p (sym e))) refl
other_first (a ∷ b ∷ s) p = rw (ne_eqb 48 a (λ e. p (sym e))) refl

pub other_second : (s : List ℕ) → (get_or s 1 0 ≡ 120 → ⊥) → None ≡ line_hash s
unfolding line_hash hash_prefix
other_second [] p = refl
other_second (a ∷ []) p = too_short (a ∷ []) (omega arith)
other_second (a ∷ b ∷ s) p = rw (ne_eqb 120 b (λ e. p (sym e))) (go (eqb 48 a))
  where
    go : (x : Bool) → None ≡ cond (x && false) (hex_hash s) None
    go true = refl
    go false = refl
