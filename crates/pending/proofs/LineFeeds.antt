-- Where the next line feed stands.
use Rattle.std.specs.Prelude.{cond}
use Prim.Native.Nat.{ℕ, suc, ◌≤◌, ◌<◌}
use native.Mathlib.Nat.{le_of_suc-le-suc, not-suc-le-zero}
use native.Mathlib.Omega.{arith}
use mathlib.Core.Bool.{Bool, true, false, true≢false, false≢true}
use mathlib.Core.List.{List, [], ◌∷◌, ◌++◌}
use mathlib.Core.Path.{◌≡◌, refl, ap}
use lib.Dec.{eqb}
use lib.ListN.{length, drop}
use borrow.Author.Tests.{eqb-true}
use Rattle.pending.specs.Kept.{has_line_feed, through_line_feed, to_line_feed}

-- the line feed stands after the bytes before it
pub through_feed : (s : List ℕ) → has_line_feed s ≡ true → through_line_feed s ≡ to_line_feed s ++ (10 ∷ [])
unfolding has_line_feed through_line_feed to_line_feed
through_feed [] h = absurd (false≢true h)
through_feed (b ∷ s) h = go (eqb b 10) refl (through_feed s) h
  where
    go : (t : Bool) → eqb b 10 ≡ t → (has_line_feed s ≡ true → through_line_feed s ≡ to_line_feed s ++ (10 ∷ [])) → cond t true (has_line_feed s) ≡ true
        → cond t (b ∷ []) (b ∷ through_line_feed s) ≡ cond t [] (b ∷ to_line_feed s) ++ (10 ∷ [])
    go true e more k = ap (λ (x : ℕ). x ∷ []) (eqb-true b 10 e)
    go false e more k = ap (λ (r : List ℕ). b ∷ r) (more k)

-- where there is none, all bytes stand before it
pub no_feed : (s : List ℕ) → has_line_feed s ≡ false → through_line_feed s ≡ to_line_feed s
unfolding has_line_feed through_line_feed to_line_feed
no_feed [] h = refl
no_feed (b ∷ s) h = go (eqb b 10) (no_feed s) h
  where
    go : (t : Bool) → (has_line_feed s ≡ false → through_line_feed s ≡ to_line_feed s) → cond t true (has_line_feed s) ≡ false → cond t (b ∷ []) (b ∷ through_line_feed s) ≡ cond t [] (b ∷ to_line_feed s)
    go true more k = absurd (true≢false k)
    go false more k = ap (λ (r : List ℕ). b ∷ r) (more k)

pub through_all : (s : List ℕ) → has_line_feed s ≡ false → through_line_feed s ≡ s
unfolding has_line_feed through_line_feed
through_all [] h = refl
through_all (b ∷ s) h = go (eqb b 10) (through_all s) h
  where
    go : (t : Bool) → (has_line_feed s ≡ false → through_line_feed s ≡ s) → cond t true (has_line_feed s) ≡ false → cond t (b ∷ []) (b ∷ through_line_feed s) ≡ b ∷ s
    go true more k = absurd (true≢false k)
    go false more k = ap (λ (r : List ℕ). b ∷ r) (more k)

-- what is taken is the front of the text
pub through_front : (s : List ℕ) → s ≡ through_line_feed s ++ drop (length (through_line_feed s)) s
unfolding through_line_feed
through_front [] = refl
through_front (b ∷ s) = go (eqb b 10) (through_front s)
  where
    go : (t : Bool) → s ≡ through_line_feed s ++ drop (length (through_line_feed s)) s
        → b ∷ s ≡ cond t (b ∷ []) (b ∷ through_line_feed s) ++ drop (length (cond t (b ∷ []) (b ∷ through_line_feed s))) (b ∷ s)
    go true more = refl
    go false more = ap (λ (r : List ℕ). b ∷ r) more

-- of a text that is not empty something is taken
pub through_some : (s : List ℕ) → 0 < length s → 0 < length (through_line_feed s)
unfolding through_line_feed
through_some [] h = h
through_some (b ∷ s) h = go (eqb b 10)
  where
    go : (t : Bool) → 0 < length (cond t (b ∷ []) (b ∷ through_line_feed s))
    go true = omega arith
    go false = omega arith

-- the bytes before it are the front of the text
pub feed_front : (s : List ℕ) → s ≡ to_line_feed s ++ drop (length (to_line_feed s)) s
unfolding to_line_feed
feed_front [] = refl
feed_front (b ∷ s) = go (eqb b 10) (feed_front s)
  where
    go : (t : Bool) → s ≡ to_line_feed s ++ drop (length (to_line_feed s)) s → b ∷ s ≡ cond t [] (b ∷ to_line_feed s) ++ drop (length (cond t [] (b ∷ to_line_feed s))) (b ∷ s)
    go true more = refl
    go false more = ap (λ (r : List ℕ). b ∷ r) more

-- there is one exactly where fewer bytes stand before it than there are
pub feed_there : (s : List ℕ) → length (to_line_feed s) < length s → has_line_feed s ≡ true
unfolding has_line_feed to_line_feed
feed_there [] h = absurd (not-suc-le-zero h)
feed_there (b ∷ s) h = go (eqb b 10) (feed_there s) h
  where
    go : (t : Bool) → (length (to_line_feed s) < length s → has_line_feed s ≡ true) → length (cond t [] (b ∷ to_line_feed s)) < suc (length s) → cond t true (has_line_feed s) ≡ true
    go true more k = refl
    go false more k = more (le_of_suc-le-suc k)

pub feed_not_there : (s : List ℕ) → length s ≤ length (to_line_feed s) → has_line_feed s ≡ false
unfolding has_line_feed to_line_feed
feed_not_there [] h = refl
feed_not_there (b ∷ s) h = go (eqb b 10) (feed_not_there s) h
  where
    go : (t : Bool) → (length s ≤ length (to_line_feed s) → has_line_feed s ≡ false) → suc (length s) ≤ length (cond t [] (b ∷ to_line_feed s)) → cond t true (has_line_feed s) ≡ false
    go true more k = absurd (not-suc-le-zero k)
    go false more k = more (le_of_suc-le-suc k)

-- bytes without a line feed stand before the next one with what stands before it after them
pub to_feed_past : (s t : List ℕ) → has_line_feed s ≡ false → to_line_feed (s ++ t) ≡ s ++ to_line_feed t
unfolding has_line_feed to_line_feed
to_feed_past [] t h = refl
to_feed_past (b ∷ s) t h = go (eqb b 10) (to_feed_past s t) h
  where
    go : (x : Bool) → (has_line_feed s ≡ false → to_line_feed (s ++ t) ≡ s ++ to_line_feed t) → cond x true (has_line_feed s) ≡ false → cond x [] (b ∷ to_line_feed (s ++ t)) ≡ b ∷ (s ++ to_line_feed t)
    go true more k = absurd (true≢false k)
    go false more k = ap (λ (r : List ℕ). b ∷ r) (more k)
