-- From places of a line to the rests that start there: each answer of the readers.
use Prim.Native.Nat.{ℕ, ◌+◌, ◌≤◌, ◌<◌, ◌^◌}
use native.Mathlib.Omega.{arith}
use native.Mathlib.Decide.{dec_lt}
use mathlib.Core.Logic.{by_cases}
use mathlib.Core.Path.{◌≡◌, refl, sym, ◌∙◌}
use mathlib.Core.Bool.{Bool, true, false}
use mathlib.Core.List.{List, [], ◌∷◌}
use lib.ListN.{length, take, drop, get_or, length-take, length-drop, drop_of_length-le}
use lib.Seq.{drop-cons, drop-drop}
use lib.Dec.{eqb, leb}
use borrow.Author.Tests.{eq-eqb, ne_eqb, le-leb, lt-leb}
use Rattle.std.specs.Prelude.{Option, Some, None, cond}
use Rattle.text.specs.Words.{run, word}
use Rattle.text.specs.Decimals.{number}
use Rattle.text.specs.Rests.{at, stopped, after_byte, after, word_here, past, past_word, at_end, number_got, read_number}
use Rattle.text.specs.Places.{here, begins, byte_passed, passed, number_from, with_place, next_place, ReadsFrom}

-- ---- a rest after a place is a rest after what was taken there

pub byte_rest : (b : ℕ) (l : List ℕ) (p q : Option ℕ) → q ≡ byte_passed b l p → here l q ≡ after (b ∷ []) (here l p)
unfolding here after after_byte byte_passed begins
byte_rest b l None q e = rw e
byte_rest b l (Some i) q e = rw e (go (drop i l) (drop-drop 1 i l))
  where
    on : (s : List ℕ) (t : Bool) → s ≡ drop (i + 1) l → here l (cond t (Some (i + 1)) None) ≡ cond t (at s) stopped
    on s true f = rw f
    on s false f = refl

    go : (s : List ℕ) → drop 1 s ≡ drop (i + 1) l → here l (cond (begins b s) (Some (i + 1)) None) ≡ after_byte b (at s)
    go [] f = refl
    go (c ∷ s) f = on s (eqb c b) f

pub count_rest : (n : ℕ) (l : List ℕ) (p q : Option ℕ) → q ≡ passed n l p → here l q ≡ past n (here l p)
unfolding here past passed
count_rest n l None q e = rw e
count_rest n l (Some i) q e = rw e (go (leb n (length (drop i l))))
  where
    go : (t : Bool) → here l (cond t (Some (i + n)) None) ≡ cond t (at (drop n (drop i l))) stopped
    go true = rw drop-drop
    go false = refl

-- ---- `past_byte`

module _ (l : List ℕ) (p : Option ℕ) (b : ℕ) where
  pub byte_stopped : (q : Option ℕ) → q ≡ None → p ≡ None → q ≡ byte_passed b l p
  unfolding byte_passed
  byte_stopped q f e = rw (e, f)

  module _ (i : ℕ) (e : p ≡ Some i) where
    pub byte_past_end : (q : Option ℕ) → q ≡ None → length l ≤ i → q ≡ byte_passed b l p
    unfolding byte_passed begins
    byte_past_end q f h = rw (e, f, drop_of_length-le l h)

    pub byte_differs : i < length l → (get_or l i 0 ≡ b → ⊥) → None ≡ byte_passed b l p
    unfolding byte_passed begins
    byte_differs h f = rw (e, drop-cons l i 0 h, ne_eqb (get_or l i 0) b f)

    pub byte_stands : i < length l → get_or l i 0 ≡ b → Some (i + 1) ≡ byte_passed b l p
    unfolding byte_passed begins
    byte_stands h f = rw (e, drop-cons l i 0 h, eq-eqb (get_or l i 0) b f)

-- ---- `past`

module _ (l : List ℕ) (p : Option ℕ) (n : ℕ) where
  pub past_stopped : (q : Option ℕ) → q ≡ None → p ≡ None → q ≡ passed n l p
  unfolding passed
  past_stopped q f e = rw (e, f)

  module _ (i : ℕ) (e : p ≡ Some i) (s : List ℕ) (f : s ≡ drop i l) where
    pub past_short : length s < n → None ≡ passed n l p
    unfolding passed
    past_short h = rw (e, ← f, lt-leb n (length s) h)

    pub past_on : n ≤ length s → Some (i + n) ≡ passed n l p
    unfolding passed
    past_on h = rw (e, ← f, le-leb n (length s) h)

-- ---- for users: what a place, or none, says of the place before it

placed : (t : Bool) (i j : ℕ) → cond t (Some i) None ≡ Some j → (t ≡ true) × (j ≡ i)
placed true i j e = (refl, cc)
placed false i j e = cc

unplaced : (t : Bool) (i : ℕ) → cond t (Some i) None ≡ None → t ≡ false
unplaced true i e = cc
unplaced false i e = refl

module _ (l : List ℕ) (i : ℕ) (q : Option ℕ) where
  module _ (b : ℕ) (e : q ≡ byte_passed b l (Some i)) where
    pub byte_missing : q ≡ None → begins b (drop i l) ≡ false
    unfolding byte_passed
    byte_missing f = unplaced _ _ (sym e ∙ f)

    pub byte_found : (j : ℕ) → q ≡ Some j → begins b (drop i l) ≡ true
    unfolding byte_passed
    byte_found j f = (placed _ _ _ (sym e ∙ f)).0

    pub byte_place : (j : ℕ) → q ≡ Some j → j ≡ i + 1
    unfolding byte_passed
    byte_place j f = (placed _ _ _ (sym e ∙ f)).1

  pub count_place : (n : ℕ) → q ≡ passed n l (Some i) → (j : ℕ) → q ≡ Some j → j ≡ i + n
  unfolding passed
  count_place n e j f = (placed _ _ _ (sym e ∙ f)).1

-- ---- `at_end`

module _ (l : List ℕ) (p : Option ℕ) where
  pub end_stopped : p ≡ None → false ≡ at_end (here l p)
  unfolding here at_end
  end_stopped e = rw e

  pub end_here : (i : ℕ) → p ≡ Some i → leb (length l) i ≡ at_end (here l p)
  unfolding here at_end
  end_here i e =
      by_cases (dec_lt i (length l))
      (λ h. rw (e, drop-cons l i 0 h, lt-leb (length l) i h))
      (λ h. rw (e, drop_of_length-le l {i = i} (omega arith), le-leb (length l) i (omega arith)))

-- ---- the place after a word

module _ (l : List ℕ) (i : ℕ) where
  -- a word ends in the line, or it is empty: the place after it can be counted
  pub place_after : i < 2 ^ 64 → length l < 2 ^ 64 → i + length (word (drop i l)) < 2 ^ 64
  unfolding word
  place_after h k = omega (arith, length-take (run (drop i l)) (drop i l), length-drop i l)

  pub word_passed : past_word (at (drop i l)) ≡ at (drop (i + length (word (drop i l))) l)
  unfolding past_word past word_here word
  word_passed =
      let w : ℕ = length (take (run (drop i l)) (drop i l)) in
      rw (le-leb w (length (drop i l)) (omega (arith, length-take (run (drop i l)) (drop i l))), drop-drop)

-- ---- a number and the place after it

pub number_reads : (l : List ℕ) (p : Option ℕ) (q : Option (ℕ × ℕ)) → q ≡ number_from l p → ReadsFrom l q (read_number (here l p))
unfolding here read_number number_got number_from with_place next_place past_word past word_here number
number_reads l None q e = rw e (record { value = tt; rest = refl })
number_reads l (Some i) q e = rw (e, word_passed l i) (go (number (word (drop i l))))
  where
    j : ℕ
    j = i + length (word (drop i l))

    go : (m : Option ℕ) → ReadsFrom l (with_place m j) (number_got m (at (drop j l)))
    go None = record { value = tt; rest = refl }
    go (Some n) = record { value = refl; rest = refl }

module _ (l : List ℕ) (p : Option ℕ) where
  pub number_stopped : (q : Option (ℕ × ℕ)) → q ≡ None → p ≡ None → q ≡ number_from l p
  unfolding number_from
  number_stopped q f e = rw (e, f)

  module _ (i : ℕ) (w : List ℕ) (m : Option ℕ) (e : p ≡ Some i) (f : w ≡ word (drop i l)) (g : m ≡ number w) where
    pub number_none : (q : Option (ℕ × ℕ)) → q ≡ None → m ≡ None → q ≡ number_from l p
    unfolding number_from with_place
    number_none q h k = rw (e, h, ← f, ← g, k)

    pub number_some : (n : ℕ) → m ≡ Some n → Some (n, i + length w) ≡ number_from l p
    unfolding number_from with_place
    number_some n k = rw (e, ← f, ← g, k)
