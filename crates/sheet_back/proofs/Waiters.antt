-- The lines of the waiters are read back.
use Prim.Native.Nat.{ℕ, suc, ◌+◌, ◌<◌}
use native.Mathlib.Omega.{arith}
use mathlib.Core.Bool.{false}
use mathlib.Core.List.{List, [], ◌∷◌, ◌++◌, append_assoc}
use mathlib.Core.Path.{◌≡◌, refl, ◌∙◌}
use lib.ListN.{length}
use borrow.Author.Tests.{eq-eqb, ne_eqb}
use Rattle.head_values.specs.Ranges.{AnchorFits}
use Rattle.alike.specs.Ranges as A
use Rattle.value_text.proofs.Back.{sheet_anchor_back}
use Rattle.hash.specs.Ranges.{Fits}
use Rattle.value_text.specs.Reads.{got, map, then}
use Rattle.value_text.specs.Texts.{anchor_text}
use Rattle.sheet_lines.specs.Lines.{waiter_line, waiter_lines}
use Rattle.text.proofs.Back.{number_back, past_back, word_back}
use Rattle.text.specs.Ascii.{ascii}
use Rattle.text.specs.Decimals.{decimal, number}
use Rattle.text.specs.Rests.{Took, after, at, number_got, past, past_word, read_number, after_byte, word_here}
use Rattle.text.specs.Same.{same_text}
use Rattle.text.specs.Words.{in_word, run}
use Rattle.head_values.specs.declared.ReadAnchor.{ReadAnchor}
use Rattle.head_attempt.specs.declared.Waiter.{Waiter}
use Rattle.head_attempt.specs.declared.WaiterSlot.{WaiterSlot}
use Rattle.sheet_read.specs.Waiters.{going, names, read_waiter, read_waiter_at, read_waiters, waiter_named}

-- what a line of a waiter says after its number, and the number that the next line goes on with
abbrev next : List ℕ → Took ℕ
next s = read_number (after (ascii "(wait ") (at s))

-- a line `(wait N ..`
number_next : (n : ℕ) (s : List ℕ) → Fits n → run s ≡ 0 → next (ascii "(wait " ++ (decimal n ++ s)) ≡ got n (at s)
unfolding after after_byte
number_next n s f z = number_back n s f z

-- ---- one line, after its number

named : (w t : List ℕ) → run w ≡ length w → run t ≡ 0 → read_waiter (at (ascii " " ++ (w ++ t))) ≡ then (ascii ")\n") (waiter_named w (at t))
unfolding read_waiter after after_byte
named w t e z = rw (word_back w t e z, past_back w t e z)

parked_back : (t : List ℕ) → read_waiter (at (ascii " parked)\n" ++ t)) ≡ got Waiter.Parked (at t)
unfolding waiter_named same_text then after after_byte run in_word
parked_back t = named (ascii "parked") (ascii ")\n" ++ t) refl refl

module _ (a : ReadAnchor) (t : List ℕ) (f : AnchorFits a) where
  abandoned_named : then (ascii ")\n") (waiter_named (ascii "abandoned") (at (ascii " " ++ (anchor_text a ++ (ascii ")\n" ++ t))))) ≡ got (Waiter.Abandoned a) (at t)
  unfolding waiter_named same_text then map after after_byte
  abandoned_named = let fa = f in simp sheet_anchor_back

  ended_named : then (ascii ")\n") (waiter_named (ascii "ended") (at (ascii " " ++ (anchor_text a ++ (ascii ")\n" ++ t))))) ≡ got (Waiter.Ended a) (at t)
  unfolding waiter_named same_text then map after after_byte
  ended_named = let fa = f in simp sheet_anchor_back

  abandoned_back : read_waiter (at (ascii " abandoned " ++ (anchor_text a ++ (ascii ")\n" ++ t)))) ≡ got (Waiter.Abandoned a) (at t)
  unfolding run in_word
  abandoned_back = named (ascii "abandoned") (ascii " " ++ (anchor_text a ++ (ascii ")\n" ++ t))) refl refl ∙ abandoned_named

  ended_back : read_waiter (at (ascii " ended " ++ (anchor_text a ++ (ascii ")\n" ++ t)))) ≡ got (Waiter.Ended a) (at t)
  unfolding run in_word
  ended_back = named (ascii "ended") (ascii " " ++ (anchor_text a ++ (ascii ")\n" ++ t))) refl refl ∙ ended_named

-- ---- one waiter

module _ (n : ℕ) (t : List ℕ) where
  parked_form : waiter_line n Waiter.Parked ++ t ≡ ascii "(wait " ++ (decimal n ++ (ascii " parked)\n" ++ t))
  unfolding waiter_line
  parked_form = simp append_assoc

  abandoned_form : (a : ReadAnchor) → waiter_line n (Waiter.Abandoned a) ++ t ≡ ascii "(wait " ++ (decimal n ++ (ascii " abandoned " ++ (anchor_text a ++ (ascii ")\n" ++ t))))
  unfolding waiter_line
  abandoned_form a = simp append_assoc

  ended_form : (a : ReadAnchor) → waiter_line n (Waiter.Ended a) ++ t ≡ ascii "(wait " ++ (decimal n ++ (ascii " ended " ++ (anchor_text a ++ (ascii ")\n" ++ t))))
  unfolding waiter_line
  ended_form a = simp append_assoc

-- the line of waiter n is read as that of waiter n
line_back : (n : ℕ) (s r : List ℕ) (w : Waiter) (t : List ℕ) → Fits n → run s ≡ 0 → read_waiter (at s) ≡ got w (at t)
    → read_waiter_at n (at r) (next (ascii "(wait " ++ (decimal n ++ s))) ≡ got w (at t)
unfolding read_waiter_at names going
line_back n s r w t f z e = rw (number_next n s f z, eq-eqb n n refl, e)

free_back : (n : ℕ) (t : List ℕ) → names n (next t) ≡ false → read_waiter_at n (at (waiter_line n Waiter.Free ++ t)) (next (waiter_line n Waiter.Free ++ t)) ≡ got Waiter.Free (at t)
unfolding read_waiter_at waiter_line
free_back n t h = rw h

waiter_back : (w : Waiter) (n : ℕ) (t : List ℕ) → Fits n → A.WaiterFits w → names n (next t) ≡ false → read_waiter_at n (at (waiter_line n w ++ t)) (next (waiter_line n w ++ t)) ≡ got w (at t)
unfolding run in_word
waiter_back Waiter.Free n t f g h = free_back n t h
waiter_back Waiter.Parked n t f g h = rw (parked_form n t) (line_back n _ _ _ _ f refl (parked_back t))
waiter_back (Waiter.Abandoned a) n t f g h = rw (abandoned_form n t a) (line_back n _ _ _ _ f refl (abandoned_back a t g))
waiter_back (Waiter.Ended a) n t f g h = rw (ended_form n t a) (line_back n _ _ _ _ f refl (ended_back a t g))

-- ---- the lines of later waiters do not name m

other_line : (m n : ℕ) (s : List ℕ) → m < n → Fits n → run s ≡ 0 → names m (next (ascii "(wait " ++ (decimal n ++ s))) ≡ false
unfolding names going
other_line m n s l f z = rw (number_next n s f z) (ne_eqb n m (omega arith))

later_free : (m n : ℕ) (t : List ℕ) → names m (next t) ≡ false → names m (next (waiter_line n Waiter.Free ++ t)) ≡ false
unfolding waiter_line
later_free m n t h = h

later_line : (w : Waiter) (m n : ℕ) (t : List ℕ) → m < n → Fits n → names m (next t) ≡ false → names m (next (waiter_line n w ++ t)) ≡ false
unfolding run in_word
later_line Waiter.Free m n t l f h = later_free m n t h
later_line Waiter.Parked m n t l f h = rw (parked_form n t) (other_line m n _ l f refl)
later_line (Waiter.Abandoned a) m n t l f h = rw (abandoned_form n t a) (other_line m n _ l f refl)
later_line (Waiter.Ended a) m n t l f h = rw (ended_form n t a) (other_line m n _ l f refl)

-- no line is left
none_named : (m : ℕ) → names m (next []) ≡ false
unfolding names going after after_byte read_number number_got number word_here past_word past
none_named m = refl

later : (ws : List WaiterSlot) (m n : ℕ) → m < n → Fits (n + length ws) → names m (next (waiter_lines n ws)) ≡ false
unfolding waiter_lines
later [] m n l f = none_named m
later (w ∷ ws) m n l f = later_line w.waiter m n (waiter_lines (suc n) ws) l (omega arith) (later ws m (suc n) (omega arith) (omega arith))

-- ---- all of them

waiters_back : (ws : List WaiterSlot) (n : ℕ) → A.WaitersFit ws → Fits (n + length ws) → read_waiters (length ws) n (at (waiter_lines n ws)) ≡ got ws (at [])
unfolding read_waiters waiter_lines
waiters_back [] n f g = refl
waiters_back (w ∷ ws) n f g =
    let h : Fits (suc n + length ws) = omega arith in
    rw (waiter_back w.waiter n (waiter_lines (suc n) ws) (omega arith) f.0 (later ws n (suc n) (omega arith) h), waiters_back ws (suc n) f.1 h)

pub sixteen_back : (ws : List WaiterSlot) → A.WaitersFit ws → length ws ≡ 16 → read_waiters 16 0 (at (waiter_lines 0 ws)) ≡ got ws (at [])
sixteen_back ws f e = rw e at (waiters_back ws 0 f (omega arith))
