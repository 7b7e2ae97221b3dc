-- Nothing else is read: the lines of the waiters.
use Prim.Native.Nat.{ℕ, suc, zero}
use mathlib.Core.Bool.{Bool, true, false}
use mathlib.Core.List.{List, ◌++◌, append_assoc}
use mathlib.Core.Path.{◌≡◌, refl, ap, ◌∙◌}
use lib.Dec.{eqb}
use borrow.Author.Tests.{eqb-true}
use Rattle.std.specs.Prelude.{cond}
use Rattle.head_attempt.specs.declared.Waiter.{Waiter}
use Rattle.text.specs.Ascii.{ascii}
use Rattle.text.specs.Decimals.{decimal}
use Rattle.text.specs.Rests.{Rest, Took, after, at, past_word, read_number, word_here}
use Rattle.text.specs.Same.{same_text}
use Rattle.text.proofs.Same.{same_eq}
use Rattle.value_text.proofs.Only.{after_only, number_read, past_only, sheet_anchor_read}
use Rattle.value_text.specs.Reads.{got, map, read_anchor, then}
use Rattle.value_text.specs.declared.page.Page.{Page}
use Rattle.sheet_lines.specs.Lines.{waiter_line, waiter_lines}
use Rattle.sheet_read.specs.Waiters.{going, names, read_waiter, read_waiter_at, read_waiters, waiter_named}

-- what follows a waiter's number: the word w and what is read after it are a waiter's own text
Told : ℕ → List ℕ → Rest → List ℕ → Took Waiter → Type 0
Told n w r t k = k.next ≡ at (ascii ")\n" ++ t)
    → (s : List ℕ) × (r ≡ at s) × (ascii "(wait " ++ (decimal n ++ (ascii " " ++ (w ++ s))) ≡ waiter_line n k.value ++ t)

module _ (n : ℕ) (r : Rest) (t : List ℕ) where
  parked_only : Told n (ascii "parked") r t (got Waiter.Parked r)
  unfolding Told waiter_line
  parked_only h = (_, h, simp append_assoc)

  abandoned_only : Told n (ascii "abandoned") r t (map Waiter.Abandoned (read_anchor Page.Sheet (after (ascii " ") r)))
  unfolding Told waiter_line map
  abandoned_only h = (_, after_only (ascii " ") _ _ (sheet_anchor_read _ _ h), simp append_assoc)

  ended_only : Told n (ascii "ended") r t (map Waiter.Ended (read_anchor Page.Sheet (after (ascii " ") r)))
  unfolding Told waiter_line map
  ended_only h = (_, after_only (ascii " ") _ _ (sheet_anchor_read _ _ h), simp append_assoc)

  by_name : (w k : List ℕ) (x y : Took Waiter) → Told n k r t x → Told n w r t y → Told n w r t (cond (same_text w k) x y)
  by_name w k x y f g = go (same_text w k) refl
    where
      go : (b : Bool) → same_text w k ≡ b → Told n w r t (cond b x y)
      go true q = rw (same_eq w k q) f
      go false q = g

  told_only : (w : List ℕ) → Told n w r t (waiter_named w r)
  unfolding waiter_named Told
  told_only w =
      by_name w (ascii "parked") _ _ parked_only
      (by_name w (ascii "abandoned") _ _ abandoned_only
      (by_name w (ascii "ended") _ _ ended_only
      (λ h. cc)))

-- a waiter's line after its number
waiter_only : (n : ℕ) (r : Rest) (t : List ℕ) → (read_waiter r).next ≡ at t
    → (s : List ℕ) × (r ≡ at s) × (ascii "(wait " ++ (decimal n ++ s) ≡ waiter_line n (read_waiter r).value ++ t)
unfolding read_waiter then Told
waiter_only n r t h =
    let s = after (ascii " ") r in
    let k = told_only n (past_word s) t (word_here s) (after_only (ascii ")\n") _ t h) in
    (_, after_only (ascii " ") r _ (past_only s k.0 k.1), k.2)

named_here : (n : ℕ) (k : Took ℕ) (b : Bool) → cond b (eqb k.value n) false ≡ true → k.value ≡ n
named_here n k true q = eqb-true k.value n q
named_here n k false q = cc

named_value : (n : ℕ) (k : Took ℕ) → names n k ≡ true → k.value ≡ n
unfolding names
named_value n k q = named_here n k (going k.next) q

free_only : (n : ℕ) (r : Rest) (t : List ℕ) → r ≡ at t → r ≡ at (waiter_line n Waiter.Free ++ t)
unfolding waiter_line
free_only n r t h = h

-- waiter n: its line, or none
at_only : (n : ℕ) (r : Rest) (t : List ℕ) → (read_waiter_at n r (read_number (after (ascii "(wait ") r))).next ≡ at t
    → r ≡ at (waiter_line n (read_waiter_at n r (read_number (after (ascii "(wait ") r))).value ++ t)
unfolding read_waiter_at
at_only n r t = go (names n number) refl
  where
    number : Took ℕ
    number = read_number (after (ascii "(wait ") r)

    go : (b : Bool) → names n number ≡ b → (cond b (read_waiter number.next) (got Waiter.Free r)).next ≡ at t
        → r ≡ at (waiter_line n (cond b (read_waiter number.next) (got Waiter.Free r)).value ++ t)
    go true q h =
        let k = waiter_only n number.next t h in
        let v : number.value ≡ n = named_value n number q in
        after_only (ascii "(wait ") r _ (rw v at (number_read (after (ascii "(wait ") r) k.0 k.1)) ∙ ap at k.2
    go false q h = free_only n r t h

pub waiters_only : (k n : ℕ) (r : Rest) (t : List ℕ) → (read_waiters k n r).next ≡ at t
    → r ≡ at (waiter_lines n (read_waiters k n r).value ++ t)
unfolding read_waiters waiter_lines
waiters_only zero n r t h = h
waiters_only (suc k) n r t h =
    at_only n r _ (waiters_only k (suc n) _ t h) ∙ simp append_assoc
