-- Reading the lines of the waiters: waiter n is what the next line says if it names n, else free.
use Rattle.std.specs.Prelude.{ℕ, zero, suc, Bool, true, false, List, [], ◌∷◌, eqb, cond}
use Rattle.head_attempt.specs.Waiters.{slot_of}
use Rattle.value_text.specs.Reads.{got, map, read_anchor, then}
use Rattle.text.specs.Ascii.{ascii}
use Rattle.text.specs.Rests.{Rest, Took, after, at, past_word, read_number, stopped, word_here}
use Rattle.text.specs.Same.{same_text}
use Rattle.head_attempt.specs.declared.Waiter.{Waiter}
use Rattle.head_attempt.specs.declared.WaiterSlot.{WaiterSlot}
use Rattle.value_text.specs.declared.page.Page.{Page}

-- reading has not stopped
unfoldable pub going : Rest → Bool
going (at s) = true
going stopped = false

-- the waiter that a word names, with the rest after the word
unfoldable pub waiter_named : List ℕ → Rest → Took Waiter
waiter_named w r =
    cond (same_text w (ascii "parked")) (got Waiter.Parked r)
    (cond (same_text w (ascii "abandoned")) (map Waiter.Abandoned (read_anchor Page.Sheet (after (ascii " ") r)))
    (cond (same_text w (ascii "ended")) (map Waiter.Ended (read_anchor Page.Sheet (after (ascii " ") r)))
    (got Waiter.Free stopped)))

-- a waiter's line after its number
unfoldable pub read_waiter : Rest → Took Waiter
read_waiter r = then (ascii ")\n") (waiter_named (word_here (after (ascii " ") r)) (past_word (after (ascii " ") r)))

-- the number n was read
unfoldable pub names : ℕ → Took ℕ → Bool
names n t = cond (going t.next) (eqb t.value n) false

-- waiter n, where a line goes on with the number that was read
unfoldable pub read_waiter_at : ℕ → Rest → Took ℕ → Took Waiter
read_waiter_at n r number = cond (names n number) (read_waiter number.next) (got Waiter.Free r)

-- k waiters from number n on
unfoldable pub read_waiters : ℕ → ℕ → Rest → Took (List WaiterSlot)
read_waiters zero n r = got [] r
read_waiters (suc k) n r =
    let w = read_waiter_at n r (read_number (after (ascii "(wait ") r)) in
    let ws = read_waiters k (suc n) w.next in
    got (slot_of w.value ∷ ws.value) ws.next
