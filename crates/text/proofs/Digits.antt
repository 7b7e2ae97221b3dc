-- A text read byte by byte.
use Prim.Native.Nat.{ℕ, ◌+◌, ◌≤◌, ◌<◌}
use native.Mathlib.Numerals.{add-one}
use mathlib.Core.Path.{◌≡◌, refl, sym, ◌∙◌}
use mathlib.Core.List.{List, [], ◌∷◌, ◌++◌, append_assoc, append-nil}
use lib.ListN.{length, drop, get_or, drop_of_length-le}
use lib.Seq.{drop-cons}
use Rattle.std.specs.Prelude.{Option, Some, None}
use Rattle.text.specs.Digits.{read_on}

module _ (step : Option ℕ → ℕ → Option ℕ) where
  -- what is refused stays refused
  pub bad_stays : ((b : ℕ) → step None b ≡ None) → (s : List ℕ) → read_on step None s ≡ None
  unfolding read_on
  bad_stays z [] = refl
  bad_stays z (b ∷ s) = rw z (bad_stays z s)

  -- ---- the loop: the rest, read on from what is read, says what the whole says

  module _ (s : List ℕ) (i : ℕ) (r w : Option ℕ) (k : read_on step r (drop i s) ≡ w) where
    pub on_more : (q m : Option ℕ) → i < length s → q ≡ step r (get_or s i 0) → q ≡ m → read_on step m (drop (i + 1) s) ≡ w
    unfolding read_on
    on_more q m h e f = rw (← f, e, add-one i) (rw (drop-cons s i 0 h) at k)

    pub on_bad : ((b : ℕ) → step None b ≡ None) → (q : Option ℕ) → i < length s → q ≡ step r (get_or s i 0) → q ≡ None → None ≡ w
    on_bad z q h e f = sym (bad_stays z (drop (i + 1) s)) ∙ on_more q None h e f

    pub on_done : length s ≤ i → r ≡ w
    unfolding read_on
    on_done h = rw (drop_of_length-le s h) at k

  -- ---- what holds of a text and its number, and is kept by each byte that is taken, holds of every text that is taken

  module _ (z : (b : ℕ) → step None b ≡ None) (P : List ℕ → ℕ → Type 0) (kept : (p : List ℕ) (n b m : ℕ) → P p n → step (Some n) b ≡ Some m → P (p ++ (b ∷ [])) m) where
    pub taken : (s p : List ℕ) (n m : ℕ) → P p n → read_on step (Some n) s ≡ Some m → P (p ++ s) m
    unfolding read_on
    taken [] p n m h e = let q : n ≡ m = cc in rw (append-nil, ← q) h
    taken (b ∷ s) p n m h e = go (step (Some n) b) refl e (taken s (p ++ (b ∷ [])))
      where
        go : (r : Option ℕ) → step (Some n) b ≡ r → read_on step r s ≡ Some m → ((k l : ℕ) → P (p ++ (b ∷ [])) k → read_on step (Some k) s ≡ Some l → P ((p ++ (b ∷ [])) ++ s) l) → P (p ++ (b ∷ s)) m
        go None f g on = cc (bad_stays z s)
        go (Some k) f g on = rw append_assoc at (on k m (kept p n b k h f) g)
