-- Words.
use Prim.Native.Nat.{ℕ, suc, ◌+◌, ◌<◌}
use native.Mathlib.Omega.{arith}
use mathlib.Core.Path.{◌≡◌, refl, sym}
use mathlib.Core.Bool.{Bool, true, false, cond}
use Rattle.std.specs.List.{prefix_len}
use Rattle.std.proofs.lemmas.List.Folds.{length-prefix_len}
use mathlib.Core.List.{List, [], ◌∷◌, ◌++◌}
use lib.ListN.{length, take}
use lib.Seq.{take-append_seam}
use borrow.Author.Tests.{ne_eqb}
use Rattle.text.specs.Words.{in_word, run, word}

-- the library's count of the bytes in front that pass a test
pub run_is : (s : List ℕ) → prefix_len in_word s ≡ run s
unfolding run
run_is [] = refl
run_is (b ∷ s) = go (in_word b) (run_is s)
  where
    go : (t : Bool) → prefix_len in_word s ≡ run s → cond t (1 + prefix_len in_word s) 0 ≡ cond t (suc (run s)) 0
    go true e = rw e (omega arith)
    go false e = refl

pub word_is : (s : List ℕ) (n : ℕ) → n ≡ prefix_len in_word s → take n s ≡ word s
unfolding word
word_is s n e = rw (e, run_is s)

pub run_inside : (s : List ℕ) (n : ℕ) → n ≡ prefix_len in_word s → n ≡ length (take n s)
run_inside s n e = rw e (sym (length-prefix_len in_word s))

-- ---- a text of word bytes alone is one word: its run is all of it

run_tail : (b : ℕ) (s : List ℕ) → run (b ∷ s) ≡ suc (length s) → (in_word b ≡ true) × (run s ≡ length s)
unfolding run
run_tail b s e = go (in_word b) e
  where
    go : (t : Bool) → cond t (suc (run s)) 0 ≡ suc (length s) → (t ≡ true) × (run s ≡ length s)
    go true h = (refl, omega arith)
    go false h = absurd (omega arith)

pub run_cons : (b : ℕ) (s : List ℕ) → in_word b ≡ true → run s ≡ length s → run (b ∷ s) ≡ length (b ∷ s)
unfolding run
run_cons b s h e = rw (h, e)

pub run_append : (s t : List ℕ) → run s ≡ length s → run t ≡ 0 → run (s ++ t) ≡ length s
unfolding run
run_append [] t e z = z
run_append (b ∷ s) t e z = let h = run_tail b s e in rw (h.0, run_append s t h.1 z)

pub run_both : (s t : List ℕ) → run s ≡ length s → run t ≡ length t → run (s ++ t) ≡ length (s ++ t)
unfolding run
run_both [] t e f = f
run_both (b ∷ s) t e f = let h = run_tail b s e in rw (h.0, run_both s t h.1 f)

pub word_append : (s t : List ℕ) → run s ≡ length s → run t ≡ 0 → word (s ++ t) ≡ s
unfolding word
word_append s t e z = rw (run_append s t e z) (take-append_seam s t)

-- every byte above `)`
pub in_word_above : (b : ℕ) → 41 < b → in_word b ≡ true
unfolding in_word
in_word_above b h = simp (ne_eqb b 32 (omega arith), ne_eqb b 40 (omega arith), ne_eqb b 41 (omega arith))
