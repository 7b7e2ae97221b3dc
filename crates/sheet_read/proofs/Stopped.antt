-- Where reading has stopped, nothing is read.
use Prim.Native.Nat.{ℕ, zero, suc}
use mathlib.Core.Path.{◌≡◌, refl}
use mathlib.Core.Bool.{Bool, true, false}
use Rattle.std.specs.Prelude.{cond}
use Rattle.head_attempt.specs.declared.Waiter.{Waiter}
use Rattle.value_text.specs.declared.page.Page.{Page}
use mathlib.Core.List.{List, [], ◌∷◌}
use Rattle.text.specs.Ascii.{ascii}
use Rattle.text.specs.Rests.{after, after_byte, at_end, number_got, past, past_word, read_number, says, stopped, word_here}
use Rattle.text.specs.Decimals.{number}
use Rattle.text.specs.Same.{same_text}
use Rattle.value_text.specs.Reads.{got, map, or_word, read_anchor, then}
use Rattle.value_text.specs.Words.{word_text}
use Rattle.value_read.proofs.Stopped.{anchor_stopped, hash_stopped, skip_stopped, slot_stopped, spaced_number_stopped}
use Rattle.head_count.specs.declared.Epoch.{Epoch}
use Rattle.sheet_read.specs.Heads.{head_named, read_current, read_delivery, read_generation, read_held, read_installed, read_kept_readiness, read_previous, read_superseded, read_unclaimed_end}
use Rattle.sheet_read.specs.Values.{read_cold, read_fault, read_faulty, read_made, read_outcome, read_report, read_stats}
use Rattle.sheet_read.specs.Waiters.{going, names, read_waiter, read_waiter_at, read_waiters, waiter_named}

pub text_stopped : (k : List ℕ) → after k stopped ≡ stopped
unfolding after after_byte
text_stopped [] = refl
text_stopped (b ∷ k) = text_stopped k

pub end_stopped : at_end stopped ≡ false
unfolding at_end
end_stopped = refl

pub stats_stopped : (read_stats stopped).next ≡ stopped
unfolding read_stats
stats_stopped = rw (
  spaced_number_stopped,
  spaced_number_stopped,
  spaced_number_stopped,
  spaced_number_stopped,
  spaced_number_stopped,
  spaced_number_stopped,
  spaced_number_stopped,
  spaced_number_stopped,
) refl

pub fault_stopped : (read_fault stopped).next ≡ stopped
unfolding read_fault read_faulty or_word word_text says same_text word_here
fault_stopped = refl

pub cold_stopped : (read_cold stopped).next ≡ stopped
unfolding read_cold
cold_stopped = rw (text_stopped (ascii "(cold "), fault_stopped, text_stopped (ascii " "), skip_stopped) (text_stopped (ascii ")"))

pub outcome_stopped : (read_outcome stopped).next ≡ stopped
unfolding read_outcome map word_text says same_text word_here after after_byte
outcome_stopped = cold_stopped

pub made_stopped : (read_made stopped).next ≡ stopped
unfolding read_made
made_stopped = rw (text_stopped (ascii "("), outcome_stopped, spaced_number_stopped) (text_stopped (ascii ")"))

pub report_stopped : (read_report stopped).next ≡ stopped
unfolding read_report or_word word_text says same_text word_here
report_stopped = made_stopped

pub unclaimed_end_stopped : (read_unclaimed_end stopped).next ≡ stopped
unfolding read_unclaimed_end or_word says same_text word_here
unclaimed_end_stopped = refl

pub delivery_stopped : (n : ℕ) → (read_delivery n stopped).next ≡ stopped
unfolding read_delivery
delivery_stopped n = rw (anchor_stopped Page.Sheet, text_stopped (ascii " ")) (hash_stopped Page.Sheet)

pub current_stopped : (n : ℕ) (e : Epoch) → (read_current n e stopped).next ≡ stopped
unfolding read_current then after after_byte word_here past_word past head_named same_text
current_stopped n e = refl

pub superseded_stopped : (read_superseded stopped).next ≡ stopped
unfolding read_superseded then
superseded_stopped = rw (text_stopped (ascii "(superseded "), slot_stopped Page.Sheet) (text_stopped (ascii ")\n"))

pub kept_readiness_stopped : (read_kept_readiness stopped).next ≡ stopped
unfolding read_kept_readiness or_word map word_text says same_text word_here
kept_readiness_stopped = cold_stopped

pub held_stopped : (read_held stopped).next ≡ stopped
unfolding read_held
held_stopped = rw (anchor_stopped Page.Sheet, spaced_number_stopped, spaced_number_stopped, text_stopped (ascii " ")) kept_readiness_stopped

pub generation_stopped : (read_generation stopped).next ≡ stopped
unfolding read_generation or_word word_text says same_text word_here
generation_stopped = held_stopped

pub installed_stopped : (read_installed stopped).next ≡ stopped
unfolding read_installed then
installed_stopped = rw (text_stopped (ascii "(installed "), generation_stopped) (text_stopped (ascii ")\n"))

pub previous_stopped : (read_previous stopped).next ≡ stopped
unfolding read_previous then
previous_stopped = rw (text_stopped (ascii "(previous "), generation_stopped) (text_stopped (ascii ")\n"))

pub named_stopped : (w : List ℕ) → (waiter_named w stopped).next ≡ stopped
unfolding waiter_named map
named_stopped w = go (same_text w (ascii "parked")) (same_text w (ascii "abandoned")) (same_text w (ascii "ended"))
  where
    go : (a b c : Bool) → (cond a (got Waiter.Parked stopped)
        (cond b (got (Waiter.Abandoned (read_anchor Page.Sheet (after (ascii " ") stopped)).value)
        (read_anchor Page.Sheet (after (ascii " ") stopped)).next)
        (cond c (got (Waiter.Ended (read_anchor Page.Sheet (after (ascii " ") stopped)).value)
        (read_anchor Page.Sheet (after (ascii " ") stopped)).next)
        (got Waiter.Free stopped)))).next ≡ stopped
    go true b c = refl
    go false true c = rw (text_stopped (ascii " ")) (anchor_stopped Page.Sheet)
    go false false true = rw (text_stopped (ascii " ")) (anchor_stopped Page.Sheet)
    go false false false = refl

pub waiter_stopped : (read_waiter stopped).next ≡ stopped
unfolding read_waiter then after after_byte word_here past_word past
waiter_stopped = rw (named_stopped []) refl

pub says_stopped : (b : ℕ) (k : List ℕ) → says (b ∷ k) stopped ≡ false
unfolding says same_text word_here
says_stopped b k = refl

pub names_stopped : (n : ℕ) → names n (read_number stopped) ≡ false
unfolding names going read_number number_got number word_here past_word past
names_stopped n = refl

pub head_stopped : (n : ℕ) (e : Epoch) → (head_named n e (word_here stopped) (past_word stopped)).next ≡ stopped
unfolding head_named word_here past_word past same_text
head_stopped n e = refl

pub waiter_at_stopped : (n : ℕ) → (read_waiter_at n stopped (read_number (after (ascii "(wait ") stopped))).next ≡ stopped
unfolding read_waiter_at
waiter_at_stopped n = rw (text_stopped (ascii "(wait "), names_stopped n) refl

pub waiters_stopped : (k n : ℕ) → (read_waiters k n stopped).next ≡ stopped
unfolding read_waiters
waiters_stopped zero n = refl
waiters_stopped (suc k) n = rw (waiter_at_stopped n) (waiters_stopped k (suc n))
